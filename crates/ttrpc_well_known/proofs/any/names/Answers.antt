use Rattle.std.proofs.Common.{Some, None, length, take, ◌-◌}
use Rattle.std.proofs.lemmas.Bool.Decides.{Decides-eqb}
use Rattle.std.proofs.lemmas.Slice.Eq.{strip_suffix_is, ends_is}
use Rattle.std.specs.Prelude.{codes}
use Rattle.ttrpc_well_known.proofs.Addresses.{no_name, names_it, slash_before}
use Rattle.ttrpc_well_known.proofs.any.names.Goals as goal

pub returns-in-None : goal.returns-in-None
returns-in-None c =
    let away = strip_suffix_is Decides-eqb c.args.url.now c.args.name.now None c.in-None.ensures.cases in
    ((λ no. absurd cc), λ named. absurd (no_name c.args.url.now c.args.name.now away named))

pub returns-in-Some : goal.returns-in-Some
returns-in-Some c =
    let front = c.in-Some.before.now in
    let behind = strip_suffix_is Decides-eqb c.args.url.now c.args.name.now (Some c.in-Some.before) c.in-Some.ensures.cases in
    let slash = ends_is Decides-eqb front (codes "/") c.ends_with.result c.ends_with.ensures.value in (
      (λ yes. names_it c.args.url.now c.args.name.now front (take (length front - 1) front) behind (slash.0 yes)),
      λ named. slash.1 named.0 (slash_before c.args.url.now c.args.name.now front behind named),
    )

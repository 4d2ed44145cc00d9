use Rattle.ttrpc_client.proofs.Words.{◌∙◌, ap, is_at, nat_cmp, sym}
use Rattle.std.proofs.lemmas.Map.Steps.{set_value_same}
use Rattle.std.specs.Map.{set_value}
use Rattle.ttrpc_client.proofs.Entered.{on_err}
use Rattle.ttrpc_client.proofs.streams.Streams.put.Goals as goal

pub returns-clause-err : goal.returns-clause-err
returns-clause-err c =
    let was = c.in-Some.stream.now in
    let entries = c.self.inside.streams.entries in
    on_err c.put.result c.put.ensures.err (λ same.
    (c.get_mut.follows.holds (record was { mailbox = c.put.new.self })).0
    ∙ ap (λ m. set_value (is_at (nat_cmp c.args.id)) entries (record was { mailbox = m })) same
    ∙ set_value_same (is_at (nat_cmp c.args.id)) entries was (sym c.in-Some.ensures.value)
    ∙ c.self.view_is)

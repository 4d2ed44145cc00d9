use Rattle.std.specs.List.{AllByRecursion}
use Rattle.ttrpc_members.specs.Maps.{entry_item}
use Rattle.ttrpc_members.proofs.entries.lemma_are_entries.Given as goal

abbrev pub invariant-loop-key : goal.invariant-loop-key
invariant-loop-key g l =
    let Is = (entry_item g.K.ItemKind.form g.V.ItemKind.form).is_value in
    AllByRecursion Is l.key-iterator → AllByRecursion Is l.entries.entries

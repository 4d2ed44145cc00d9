use Rattle.std.proofs.Common.{◌≡◌}
use Rattle.ttrpc_members.specs.Maps.{rebuilt}
use Rattle.ttrpc_members.proofs.entries.copy_entries.Given as goal

abbrev pub invariant-loop-key : goal.invariant-loop-key
invariant-loop-key g l = rebuilt g.K.Item.Ord.cmp l.copies l.key-iterator ≡ l.entries.entries

use Rattle.std.proofs.Common.{◌≡◌, ◌++◌, take}
use Rattle.ttrpc_members.specs.Kinds.{packed_bytes}
use Rattle.ttrpc_members.proofs.kind.put_numbers.Given as goal

abbrev pub invariant-loop-item : goal.invariant-loop-item
invariant-loop-item g l = l.out.items ≡ l.fn.out.items ++ packed_bytes g.I.ItemKind.form (take l.item-index l.items)

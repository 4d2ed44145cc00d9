use Rattle.std.proofs.Common.{◌≡◌, ◌-◌, ◌^◌, min, length, take}
use Rattle.ttrpc_members.specs.Kinds.{packed_bytes}
use Rattle.ttrpc_members.proofs.kind.packed_len.Given as goal

abbrev pub invariant-loop-item : goal.invariant-loop-item
invariant-loop-item g l = l.len ≡ min (length (packed_bytes g.I.ItemKind.form (take l.item-index l.items))) (2 ^ 64 - 1)

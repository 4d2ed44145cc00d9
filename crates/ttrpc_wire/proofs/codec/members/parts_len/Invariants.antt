use Rattle.std.proofs.Common.{◌≡◌, ◌-◌, ◌^◌, min, length, take}
use Rattle.ttrpc_wire.specs.Field.{fields_bytes}
use Rattle.ttrpc_wire.specs.Codec.Members.{part_fields}
use Rattle.ttrpc_wire.proofs.codec.members.parts_len.Given as goal

abbrev pub invariant-loop-part : goal.invariant-loop-part
invariant-loop-part g l = l.len ≡ min (length (fields_bytes (part_fields l.number.value g.M.WireMessage.fields (take l.part-index l.parts)))) (2 ^ 64 - 1)

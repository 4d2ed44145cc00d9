use Rattle.std.proofs.Common.{◌≡◌, ◌<◌, ◌+◌, ◌-◌, ◌^◌, min, length}
use Rattle.ttrpc_wire.specs.Field.{fields_bytes}
use Rattle.ttrpc_members.specs.Kinds.{repeated_values}
use Rattle.ttrpc_members.specs.Maps.{entry_item}
use Rattle.ttrpc_members.specs.Schema.{fields_at}
use Rattle.ttrpc_members.proofs.entries.entries_len.Given as goal

abbrev pub invariant-loop-key : goal.invariant-loop-key
invariant-loop-key g l =
    let left = fields_bytes (fields_at l.number.value (repeated_values (entry_item g.K.ItemKind.form g.V.ItemKind.form) l.key-iterator)) in
    let whole = fields_bytes (fields_at l.number.value (repeated_values (entry_item g.K.ItemKind.form g.V.ItemKind.form) l.entries.entries)) in
    (min (l.len + length left) (2 ^ 64 - 1) ≡ min (length whole) (2 ^ 64 - 1)) × (l.len < 2 ^ 64)

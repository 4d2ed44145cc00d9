use Rattle.std.proofs.Common.{◌≡◌, ◌≤◌, ◌++◌, length}
use Rattle.ttrpc_wire.specs.Field.{fields_bytes}
use Rattle.ttrpc_members.specs.Kinds.{repeated_values}
use Rattle.ttrpc_members.specs.Maps.{entry_item}
use Rattle.ttrpc_members.specs.Schema.{fields_at}
use Rattle.ttrpc_members.proofs.entries.put_entries.Given as goal

abbrev pub invariant-loop-key : goal.invariant-loop-key
invariant-loop-key g l =
    let left = fields_bytes (fields_at l.number.value (repeated_values (entry_item g.K.ItemKind.form g.V.ItemKind.form) l.key-iterator)) in
    let whole = fields_bytes (fields_at l.number.value (repeated_values (entry_item g.K.ItemKind.form g.V.ItemKind.form) l.entries.entries)) in
    (l.out.items ++ left ≡ l.fn.out.items ++ whole) × (length left ≤ length whole)

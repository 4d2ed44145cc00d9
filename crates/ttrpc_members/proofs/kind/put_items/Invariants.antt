use Rattle.std.proofs.Common.{◌≡◌, ◌++◌, take}
use Rattle.ttrpc_wire.specs.Field.{fields_bytes}
use Rattle.ttrpc_members.specs.Schema.{fields_at}
use Rattle.ttrpc_members.specs.Kinds.{repeated_values}
use Rattle.ttrpc_members.proofs.kind.put_items.Given as goal

abbrev pub invariant-loop-item : goal.invariant-loop-item
invariant-loop-item g l = l.out.items ≡ l.fn.out.items ++ fields_bytes (fields_at l.number.value (repeated_values g.I.ItemKind.form (take l.item-index l.items)))

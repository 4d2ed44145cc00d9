-- The code's tags, values and fields in the terms of the grammar, without their places in memory.
-- Source: the Protocol Buffers encoding guide, "Message Structure".
use Rattle.std.specs.Prelude.{ℕ, List}
use Rattle.ttrpc_wire.specs.declared.field.Tag.{Tag}
use Rattle.ttrpc_wire.specs.declared.field.Value as declared_value
use Rattle.ttrpc_wire.specs.declared.field.Value.TheVariants as is
use Rattle.ttrpc_wire.specs.declared.field.Field as declared_field
use Rattle.ttrpc_wire.specs.Field.{IsTag, Value, Varint, Fixed64, LengthDelimited, Fixed32, Field}

-- Returns a value of the code in the terms of the grammar.
abbrev pub seen_value : declared_value.Value → Value
seen_value (is.Varint n) = Varint n
seen_value (is.Fixed64 n) = Fixed64 n
seen_value (is.LengthDelimited b) = LengthDelimited b.now
seen_value (is.Fixed32 n) = Fixed32 n

-- Returns a field of the code in the terms of the grammar.
abbrev pub seen : declared_field.Field → Field
seen f = record { number = f.number.value; value = seen_value f.value }

-- Holds if the bytes are this tag of the code.
abbrev pub SpellsTag : List ℕ → Tag → Type 0
SpellsTag bytes tag = IsTag bytes tag.number.value tag.wire_type

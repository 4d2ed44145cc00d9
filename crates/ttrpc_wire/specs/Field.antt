-- Fields: a tag, and a value of the tag's wire type.
-- Source: the Protocol Buffers encoding guide, "Message Structure" and the table of wire types below it.
use Rattle.std.specs.Prelude.{◌≡◌, ℕ, ◌+◌, ◌*◌, ◌<◌, ◌≤◌, ◌^◌, List, [], ◌∷◌, ◌++◌, length}
use Rattle.std.specs.List.{flat_map}
use Rattle.std.specs.Int.{w32, w64, from_le_bytes, to_le_bytes}
use Rattle.ttrpc_wire.specs.declared.field.WireType.{WireType}
use Rattle.ttrpc_wire.specs.declared.field.WireType.TheVariants as wire
use Rattle.ttrpc_wire.specs.Varint.{IsVarint, varint}

-- Returns the number of a wire type in a tag. No wire type has the number 3, 4, 6 or 7.
abbrev pub code_of : WireType → ℕ
code_of wire.Varint = 0
code_of wire.Fixed64 = 1
code_of wire.LengthDelimited = 2
code_of wire.Fixed32 = 5

-- A value, without its place in memory.
pub data Value : Type 0 where
  Varint : (n : ℕ) → Value
  Fixed64 : (n : ℕ) → Value
  LengthDelimited : (bytes : List ℕ) → Value
  Fixed32 : (n : ℕ) → Value

-- Returns the wire type of a value.
abbrev pub wire_type_of : Value → WireType
wire_type_of (Varint n) = wire.Varint
wire_type_of (Fixed64 n) = wire.Fixed64
wire_type_of (LengthDelimited bytes) = wire.LengthDelimited
wire_type_of (Fixed32 n) = wire.Fixed32

-- A field: its number and its value.
pub record Field : Type 0 where
  pub number : ℕ
  pub value : Value

-- ---- the grammar

-- Holds if the bytes are a tag of this field number and wire type. A tag is a varint, and the field number is from 1 to 2 ^ 29 - 1.
pub record IsTag (bytes : List ℕ) (number : ℕ) (type : WireType) : Type 0 where
  pub spells : IsVarint bytes (number * 8 + code_of type)
  pub low : 1 ≤ number
  pub high : number < 2 ^ 29

-- Returns the number in eight bytes, the lowest byte first.
unfoldable pub fixed64_of : List ℕ → ℕ
fixed64_of bytes = from_le_bytes w64 bytes

-- Returns the number in four bytes, the lowest byte first.
unfoldable pub fixed32_of : List ℕ → ℕ
fixed32_of bytes = from_le_bytes w32 bytes

-- Holds if the bytes are eight, the lowest first, and their number is n.
pub record IsFixed64 (bytes : List ℕ) (n : ℕ) : Type 0 where
  pub size : length bytes ≡ 8
  pub value : n ≡ fixed64_of bytes

-- Holds if the bytes are four, the lowest first, and their number is n.
pub record IsFixed32 (bytes : List ℕ) (n : ℕ) : Type 0 where
  pub size : length bytes ≡ 4
  pub value : n ≡ fixed32_of bytes

-- Holds if the bytes are a varint for a length, and after it the delimited bytes, which have this length.
pub record IsLengthDelimited (bytes delimited : List ℕ) : Type 0 where
  pub len : List ℕ
  pub whole : bytes ≡ len ++ delimited
  pub counts : IsVarint len (length delimited)

-- Holds if the bytes are this value.
abbrev pub IsValue : List ℕ → Value → Type 0
IsValue bytes (Varint n) = IsVarint bytes n
IsValue bytes (Fixed64 n) = IsFixed64 bytes n
IsValue bytes (LengthDelimited delimited) = IsLengthDelimited bytes delimited
IsValue bytes (Fixed32 n) = IsFixed32 bytes n

-- Holds if the bytes are this value, and it has this wire type.
pub record IsValueOf (type : WireType) (bytes : List ℕ) (value : Value) : Type 0 where
  pub is : IsValue bytes value
  pub typed : wire_type_of value ≡ type

-- Holds if the bytes are this field: its tag, and after it its value.
pub record IsField (bytes : List ℕ) (f : Field) : Type 0 where
  pub tag : List ℕ
  pub rest : List ℕ
  pub whole : bytes ≡ tag ++ rest
  pub tagged : IsTag tag f.number (wire_type_of f.value)
  pub value : IsValue rest f.value

-- Holds if the bytes are these fields, in order.
abbrev pub IsFields : List ℕ → List Field → Type 0
IsFields bytes [] = bytes ≡ []
IsFields bytes (f ∷ fs) = (front : List ℕ) × (rest : List ℕ) × (bytes ≡ front ++ rest) × IsField front f × IsFields rest fs

-- ---- the written form

-- Returns the eight bytes of a number, the lowest first.
unfoldable pub fixed64 : ℕ → List ℕ
fixed64 n = to_le_bytes w64 n

-- Returns the four bytes of a number, the lowest first.
unfoldable pub fixed32 : ℕ → List ℕ
fixed32 n = to_le_bytes w32 n

-- Returns the tag that is written for a field number and a wire type.
abbrev pub tag_bytes : ℕ → WireType → List ℕ
tag_bytes number type = varint (number * 8 + code_of type)

-- Returns the bytes that are written for a value.
abbrev pub value_bytes : Value → List ℕ
value_bytes (Varint n) = varint n
value_bytes (Fixed64 n) = fixed64 n
value_bytes (LengthDelimited bytes) = varint (length bytes) ++ bytes
value_bytes (Fixed32 n) = fixed32 n

-- Returns the bytes that are written for a field: its tag, and after it its value.
abbrev pub field_bytes : Field → List ℕ
field_bytes f = tag_bytes f.number (wire_type_of f.value) ++ value_bytes f.value

-- Returns the bytes that are written for fields, one after the other.
abbrev pub fields_bytes : List Field → List ℕ
fields_bytes fs = flat_map field_bytes fs

-- Holds if the value has a written form.
abbrev pub ValueFits : Value → Type 0
ValueFits (Varint n) = n < 2 ^ 64
ValueFits (Fixed64 n) = n < 2 ^ 64
ValueFits (LengthDelimited bytes) = length bytes < 2 ^ 64
ValueFits (Fixed32 n) = n < 2 ^ 32

-- Holds if the field has a written form: its number is from 1 to 2 ^ 29 - 1, and its value has one.
pub record Fits (f : Field) : Type 0 where
  pub low : 1 ≤ f.number
  pub high : f.number < 2 ^ 29
  pub value : ValueFits f.value

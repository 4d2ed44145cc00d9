-- Items: how one value of a member is written, and how the value of a field changes it.
-- Source: the Protocol Buffers encoding guide, "Message Structure", "More Integer Types" and "Length-Delimited Records".
use Rattle.std.specs.Prelude.{◌≡◌, ℕ, zero, suc, ◌+◌, ◌*◌, ◌/◌, ◌%◌, ◌<◌, ◌^◌, List, [], ◌∷◌, Option, Some, None, Bool, true, false, ◌==◌, if◌then◌else◌, ℤ, pos, negsuc, FitsSigned}
use Rattle.std.specs.Option.{option_map}
use Rattle.std.specs.Str.{is_utf8, IsUtf8}
use Rattle.std.specs.Int.{w32, w64, cast_signed, cast_unsigned}
use Rattle.ttrpc_wire.specs.declared.field.WireType.{WireType}
use Rattle.ttrpc_wire.specs.declared.field.WireType.TheVariants as wire
use Rattle.ttrpc_wire.specs.Field.{Value, Varint, Fixed64, LengthDelimited, Fixed32, Field, fields_bytes}
use Rattle.ttrpc_wire.specs.Number.{number_of, int32_of, int64_of}
use Rattle.ttrpc_wire.specs.Fold.{read_from}
use Rattle.ttrpc_members.specs.Nesting.{with_more}

-- An item: its values, the one that an absent field means, the wire type and the value that are written for one, and how a field's value
-- changes the item. The result is none if the field's value has another wire type, or an item, or a refusal.
pub record Item (A : Type 0) : Type 1 where
  pub is_value : A → Type 0
  pub first : A
  pub is_first : A → Bool
  pub wire_type : WireType
  pub value : A → Value
  pub read : A → Value → Option (Option A)

-- ---- texts, bytes and messages

-- true if the list is empty
abbrev pub is_nil : List ℕ → Bool
is_nil [] = true
is_nil (b ∷ bytes) = false

-- the effect of a length-delimited value on an item; other values are ignored
abbrev pub read_delimited : {A : Type 0} → (A → List ℕ → Option A) → A → Value → Option (Option A)
read_delimited read old (LengthDelimited b) = option_map (λ x. Some x) (read old b)
read_delimited read old (Varint n) = Some None
read_delimited read old (Fixed64 n) = Some None
read_delimited read old (Fixed32 n) = Some None

-- bytes that are UTF-8 are this text, and other bytes are refused
abbrev pub new_text : List ℕ → List ℕ → Option (List ℕ)
new_text old b = if is_utf8 b then Some b else None

-- a text
abbrev pub text : Item (List ℕ)
text = record { is_value = IsUtf8; first = []; is_first = is_nil; wire_type = wire.LengthDelimited; value = LengthDelimited; read = read_delimited new_text }

-- any bytes are accepted
abbrev pub new_bytes : List ℕ → List ℕ → Option (List ℕ)
new_bytes old b = Some b

-- bytes
abbrev pub bytes : Item (List ℕ)
bytes = record { is_value = λ _. Unit {0}; first = []; is_first = is_nil; wire_type = wire.LengthDelimited; value = LengthDelimited; read = read_delimited new_bytes }

-- a message, by its values, the message without fields, its step and its fields; more of it continues the message that there was
abbrev pub nested : {M : Type 0} → (M → Type 0) → M → (M → Field → Option M) → (M → List Field) → Item M
nested is_value empty step fields = record {
  is_value = is_value;
  first = empty;
  is_first = λ m. false;
  wire_type = wire.LengthDelimited;
  value = λ m. LengthDelimited (fields_bytes (fields m));
  read = read_delimited (read_from step);
}

-- a message that may contain the one that it is in, kept as its bytes, with a check that accepts bytes or not; more of it is appended
abbrev pub enclosed : (List ℕ → Option (Unit {0})) → Item (List ℕ)
enclosed takes = record {
  is_value = λ b. takes b ≡ Some tt;
  first = [];
  is_first = λ b. false;
  wire_type = wire.LengthDelimited;
  value = LengthDelimited;
  read = read_delimited (with_more takes);
}

-- ---- numbers

-- A coding of numbers: its values, the number that is written for one, and the value that a number means.
pub record Coding (A : Type 0) : Type 1 where
  pub is_value : A → Type 0
  pub code : A → ℕ
  pub decode : ℕ → A

-- the effect of a varint on an item
abbrev pub read_varint : {A : Type 0} → (ℕ → A) → A → Value → Option (Option A)
read_varint decode old (Varint n) = Some (Some (decode n))
read_varint decode old (LengthDelimited b) = Some None
read_varint decode old (Fixed64 n) = Some None
read_varint decode old (Fixed32 n) = Some None

-- the effect of eight bytes on an item
abbrev pub read_fixed64 : {A : Type 0} → (ℕ → A) → A → Value → Option (Option A)
read_fixed64 decode old (Fixed64 n) = Some (Some (decode n))
read_fixed64 decode old (LengthDelimited b) = Some None
read_fixed64 decode old (Varint n) = Some None
read_fixed64 decode old (Fixed32 n) = Some None

-- the effect of four bytes on an item
abbrev pub read_fixed32 : {A : Type 0} → (ℕ → A) → A → Value → Option (Option A)
read_fixed32 decode old (Fixed32 n) = Some (Some (decode n))
read_fixed32 decode old (LengthDelimited b) = Some None
read_fixed32 decode old (Varint n) = Some None
read_fixed32 decode old (Fixed64 n) = Some None

-- a number that is written as a varint
abbrev pub as_varint : {A : Type 0} → Coding A → Item A
as_varint c = record { is_value = c.is_value; first = c.decode 0; is_first = λ x. c.code x == 0; wire_type = wire.Varint; value = λ x. Varint (c.code x); read = read_varint c.decode }

-- a number that is written as eight bytes
abbrev pub as_fixed64 : {A : Type 0} → Coding A → Item A
as_fixed64 c = record { is_value = c.is_value; first = c.decode 0; is_first = λ x. c.code x == 0; wire_type = wire.Fixed64; value = λ x. Fixed64 (c.code x); read = read_fixed64 c.decode }

-- a number that is written as four bytes
abbrev pub as_fixed32 : {A : Type 0} → Coding A → Item A
as_fixed32 c = record { is_value = c.is_value; first = c.decode 0; is_first = λ x. c.code x == 0; wire_type = wire.Fixed32; value = λ x. Fixed32 (c.code x); read = read_fixed32 c.decode }

-- `int64`: two's complement of 64 bits
abbrev pub int64 : Coding ℤ
int64 = record { is_value = FitsSigned w64; code = number_of; decode = int64_of }

-- `int32`, and the number of an enum, which is open: written as the same `int64`, read by the low 32 bits
abbrev pub int32 : Coding ℤ
int32 = record { is_value = FitsSigned w32; code = number_of; decode = int32_of }

-- `uint64` and `fixed64`, and the bits of a `double`
abbrev pub uint64 : Coding ℕ
uint64 = record { is_value = λ n. n < 2 ^ 64; code = λ n. n; decode = λ n. n }

-- `uint32`, read by the low 32 bits; `fixed32`, and the bits of a `float`
abbrev pub uint32 : Coding ℕ
uint32 = record { is_value = λ n. n < 2 ^ 32; code = λ n. n; decode = λ n. n % 2 ^ 32 }

-- the number of a truth value
abbrev pub boolean_code : Bool → ℕ
boolean_code true = 1
boolean_code false = 0

-- the truth value of a number
abbrev pub boolean_of : ℕ → Bool
boolean_of zero = false
boolean_of (suc n) = true

-- `bool`: any number but 0 is true
abbrev pub boolean : Coding Bool
boolean = record { is_value = λ _. Unit {0}; code = boolean_code; decode = boolean_of }

-- zigzag: values from 0 on are the even numbers, and values below are the odd ones
abbrev pub zigzag : ℤ → ℕ
zigzag (pos n) = 2 * n
zigzag (negsuc n) = 2 * n + 1

-- the value that a zigzag number means
abbrev pub unzigzag : ℕ → ℤ
unzigzag n = if n % 2 == 0 then pos (n / 2) else negsuc (n / 2)

-- `sint64`
abbrev pub sint64 : Coding ℤ
sint64 = record { is_value = FitsSigned w64; code = zigzag; decode = unzigzag }

-- `sint32`, read by the low 32 bits
abbrev pub sint32 : Coding ℤ
sint32 = record { is_value = FitsSigned w32; code = zigzag; decode = λ n. unzigzag (n % 2 ^ 32) }

-- `sfixed64`: two's complement of 64 bits
abbrev pub sfixed64 : Coding ℤ
sfixed64 = int64

-- `sfixed32`: two's complement of 32 bits
abbrev pub sfixed32 : Coding ℤ
sfixed32 = record { is_value = FitsSigned w32; code = cast_unsigned w32; decode = cast_signed w32 }

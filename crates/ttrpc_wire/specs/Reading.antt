-- Reading as functions, from the front of bytes. Most return a value and the bytes after it, or None if no such value is at the front.
-- The contract of `reading_is_exact` says that these functions read exactly the grammar.
-- Source: the Protocol Buffers encoding guide, by the law that it is the grammar.
use Rattle.std.specs.Prelude.{◌≡◌, ◌≢◌, ℕ, zero, suc, ◌+◌, ◌*◌, ◌-◌, ◌/◌, ◌%◌, List, [], ◌∷◌, length, take, drop, Option, Some, None, Result, Ok, Err, nat_lt, ◌==◌, if◌then◌else◌}
use Rattle.std.specs.Option.{option_map}
use Rattle.ttrpc_wire.specs.declared.values.codec_error.CodecError.{CodecError}
use Rattle.ttrpc_wire.specs.declared.values.codec_error.CodecError.TheVariants.{NoMemory}
use Rattle.ttrpc_wire.specs.declared.field.WireType.{WireType}
use Rattle.ttrpc_wire.specs.declared.field.WireType.TheVariants as wire
use Rattle.ttrpc_wire.specs.Field.{Value, Varint, Fixed64, LengthDelimited, Fixed32, Field, fixed64_of, fixed32_of}

-- Holds if a function that takes no memory returned, seen by view, the result of reading. If the result is None, the function returned
-- an error other than NoMemory.
abbrev pub Reads : {X Y : Type 0} → (X → Y) → Result X CodecError → Option Y → Type 0
Reads view (Ok x) read = read ≡ Some (view x)
Reads view (Err e) read = (read ≡ None) × (e ≢ NoMemory)

infixl 10 ◌>>=◌
-- Returns the result of f on the first result, or None if there is no first result.
abbrev pub ◌>>=◌ : {A B : Type 0} → Option A → (A → Option B) → Option B
None >>= f = None
(Some x) >>= f = f x

-- Returns the number and the rest of a varint that has the byte b before the bytes that were read. The low seven bits of b are the
-- lowest bits of the number.
abbrev pub with_digit : ℕ → ℕ × List ℕ → ℕ × List ℕ
with_digit b x = (b - 128 + 128 * x.0, x.1)

-- Returns the number of a varint of at most k bytes, with the k-th at most 1.
unfoldable pub varint_upto : ℕ → List ℕ → Option (ℕ × List ℕ)
varint_upto k [] = None
varint_upto zero (b ∷ bytes) = None
varint_upto (suc zero) (b ∷ bytes) = if nat_lt b 2 then Some (b, bytes) else None
varint_upto (suc (suc k)) (b ∷ bytes) = if nat_lt b 128 then Some (b, bytes) else option_map (with_digit b) (varint_upto (suc k) bytes)

-- Returns the number of a varint of at most ten bytes.
unfoldable pub varint_at : List ℕ → Option (ℕ × List ℕ)
varint_at bytes = varint_upto 10 bytes

-- Returns the first n bytes.
unfoldable pub bytes_at : ℕ → List ℕ → Option (List ℕ × List ℕ)
bytes_at n bytes = if nat_lt (length bytes) n then None else Some (take n bytes, drop n bytes)

-- Returns the wire type of a number in a tag, if a wire type has this number.
unfoldable pub wire_type_at : ℕ → Option WireType
wire_type_at code =
    if code == 0 then Some wire.Varint
    else if code == 1 then Some wire.Fixed64
    else if code == 2 then Some wire.LengthDelimited
    else if code == 5 then Some wire.Fixed32
    else None

-- Returns the field number and the wire type of a tag with this number, if there is such a tag, and the bytes after it.
abbrev pub split_tag : ℕ × List ℕ → Option ((ℕ × WireType) × List ℕ)
split_tag tag =
    if nat_lt tag.0 8 then None
    else if nat_lt tag.0 4294967296 then option_map (λ type. ((tag.0 / 8, type), tag.1)) (wire_type_at (tag.0 % 8))
    else None

-- Returns the field number and the wire type of a tag.
unfoldable pub tag_at : List ℕ → Option ((ℕ × WireType) × List ℕ)
tag_at bytes = varint_at bytes >>= split_tag

-- Returns the number in eight bytes, the lowest first.
abbrev pub fixed64_at : List ℕ → Option (ℕ × List ℕ)
fixed64_at bytes = option_map (λ x. (fixed64_of x.0, x.1)) (bytes_at 8 bytes)

-- Returns the number in four bytes, the lowest first.
abbrev pub fixed32_at : List ℕ → Option (ℕ × List ℕ)
fixed32_at bytes = option_map (λ x. (fixed32_of x.0, x.1)) (bytes_at 4 bytes)

-- Returns the bytes after a varint, as many as its number.
abbrev pub length_delimited_at : List ℕ → Option (List ℕ × List ℕ)
length_delimited_at bytes = varint_at bytes >>= λ n. bytes_at n.0 n.1

-- Returns a value of this wire type.
unfoldable pub value_at : WireType → List ℕ → Option (Value × List ℕ)
value_at wire.Varint bytes = option_map (λ x. (Varint x.0, x.1)) (varint_at bytes)
value_at wire.Fixed64 bytes = option_map (λ x. (Fixed64 x.0, x.1)) (fixed64_at bytes)
value_at wire.LengthDelimited bytes = option_map (λ x. (LengthDelimited x.0, x.1)) (length_delimited_at bytes)
value_at wire.Fixed32 bytes = option_map (λ x. (Fixed32 x.0, x.1)) (fixed32_at bytes)

-- Returns a field: a tag, and a value of the tag's wire type.
unfoldable pub field_at : List ℕ → Option (Field × List ℕ)
field_at bytes = tag_at bytes >>= λ t. option_map (λ x. (record { number = t.0.0; value = x.0 }, x.1)) (value_at t.0.1 t.1)

-- Returns all of the bytes as at most k fields, or None if they aren't such fields.
unfoldable pub fields_upto : ℕ → List ℕ → Option (List Field)
fields_upto k [] = Some []
fields_upto zero (b ∷ bytes) = None
fields_upto (suc k) (b ∷ bytes) = field_at (b ∷ bytes) >>= λ x. option_map (λ fs. x.0 ∷ fs) (fields_upto k x.1)

-- Returns all of the bytes as fields, or None if they aren't fields.
unfoldable pub fields_of : List ℕ → Option (List Field)
fields_of bytes = fields_upto (length bytes) bytes

-- Payloads. A length-delimited field of the payload's number replaces the payload, and no other field reads or changes it. Also the
-- parts of a written form before and after its payload.
-- Source: the Protocol Buffers encoding guide, "Last One Wins".
use Rattle.std.specs.Prelude.{◌≡◌, ℕ, List, [], ◌∷◌, ◌++◌, length, Option, Some, None, ◌==◌, if◌then◌else◌}
use Rattle.std.specs.Option.{option_map}
use Rattle.ttrpc_wire.specs.declared.field.WireType.TheVariants as wire
use Rattle.ttrpc_wire.specs.Varint.{varint}
use Rattle.ttrpc_wire.specs.Field.{Value, Varint, Fixed64, LengthDelimited, Fixed32, Field, tag_bytes}
use Rattle.ttrpc_wire.specs.Codec.Members.{delimited_field}

-- Returns the bytes of a length-delimited value, or None for any other value.
abbrev pub delimited_of : Value → Option (List ℕ)
delimited_of (LengthDelimited bytes) = Some bytes
delimited_of (Varint n) = None
delimited_of (Fixed64 n) = None
delimited_of (Fixed32 n) = None

-- Returns the payload in a field, if the field is length-delimited and has the payload's number k.
abbrev pub payload_in : ℕ → Field → Option (List ℕ)
payload_in k f = if f.number == k then delimited_of f.value else None

-- Holds if messages with this step have a payload of number k. A length-delimited field of number k replaces the payload, and no other
-- field reads or changes it. The payload of the empty message is empty.
pub record HasPayload {M : Type 0} (step : M → Field → Option M) (empty : M) (k : ℕ) (replaced : M → List ℕ → M) : Type 0 where
  pub first : replaced empty [] ≡ empty
  pub twice : (m : M) (p q : List ℕ) → replaced (replaced m p) q ≡ replaced m q
  pub takes : (m : M) (p : List ℕ) → step m (delimited_field k p) ≡ Some (replaced m p)
  pub keeps : (m : M) (p : List ℕ) (f : Field) → payload_in k f ≡ None → step (replaced m p) f ≡ option_map (λ n. replaced n p) (step m f)

-- Returns the bytes before a payload in its field, which has number k: the tag and the length, or nothing if the payload is empty.
abbrev pub payload_head : ℕ → List ℕ → List ℕ
payload_head k [] = []
payload_head k (b ∷ bytes) = tag_bytes k wire.LengthDelimited ++ varint (length (b ∷ bytes))

-- A written form without its payload: the bytes before the payload, and the bytes after it.
pub record Around : Type 0 where
  pub before : List ℕ
  pub after : List ℕ

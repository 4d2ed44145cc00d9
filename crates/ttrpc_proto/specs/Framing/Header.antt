-- A frame's header: ten bytes, with each number's highest byte first.
-- Source: PROTOCOL.md of ttrpc, "Message Frame".
pub mod Oversize
use Rattle.std.specs.Prelude.{◌≡◌, ℕ, ◌+◌, ◌*◌, ◌/◌, ◌%◌, ◌<◌, ◌^◌, List, [], ◌∷◌, ◌++◌, length, slice_index, Option}
use Rattle.std.specs.Io.KnownBytes.{Consumes}
use Rattle.ttrpc_proto.specs.declared.framing.header.MessageHeader.{MessageHeader}

-- Returns the lowest four digits of a number in base 256, the highest first.
abbrev pub digits_of : ℕ → List ℕ
digits_of n = n / 256 ^ 3 % 256 ∷ n / 256 ^ 2 % 256 ∷ n / 256 % 256 ∷ n % 256 ∷ []

-- Returns the number of four digits in base 256, the highest first.
abbrev pub number_of_bytes : ℕ → ℕ → ℕ → ℕ → ℕ
number_of_bytes a b c d = a * 256 ^ 3 + b * 256 ^ 2 + c * 256 + d

-- Returns a header's ten bytes.
abbrev pub header_bytes : MessageHeader → List ℕ
header_bytes h = digits_of h.length ++ (digits_of h.stream_id ++ h.type_ ∷ h.flags ∷ [])

-- Returns the header in the first ten bytes.
abbrev pub header_of : List ℕ → MessageHeader
header_of bytes = record {
  length = number_of_bytes (slice_index bytes 0) (slice_index bytes 1) (slice_index bytes 2) (slice_index bytes 3);
  stream_id = number_of_bytes (slice_index bytes 4) (slice_index bytes 5) (slice_index bytes 6) (slice_index bytes 7);
  type_ = slice_index bytes 8;
  flags = slice_index bytes 9;
}

-- Holds if each field's number fits the field.
pub record FitsHeader (h : MessageHeader) : Type 0 where
  pub length : h.length < 2 ^ 32
  pub stream_id : h.stream_id < 2 ^ 32
  pub type_ : h.type_ < 2 ^ 8
  pub flags : h.flags < 2 ^ 8

-- Holds if the ten bytes of this header were taken from the front of the bytes, if these are known.
abbrev pub ConsumesHeader : Option (List ℕ) → Option (List ℕ) → MessageHeader → Type 0
ConsumesHeader old new h = (ten : List ℕ) × (length ten ≡ 10) × (header_of ten ≡ h) × Consumes old new ten

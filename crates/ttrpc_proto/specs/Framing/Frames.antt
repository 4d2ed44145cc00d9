-- Frames of a byte stream.
-- Source: PROTOCOL.md of ttrpc, "Message Frame": a header of ten bytes, then as many bytes as it states.
use Rattle.std.specs.Prelude.{◌≡◌, ℕ, ◌+◌, ◌-◌, ◌<◌, ◌≤◌, List, [], ◌∷◌, ◌++◌, length, take, if◌then◌else◌, nat_lt, Option, Some, None}
use Rattle.ttrpc_proto.specs.declared.framing.header.TheConstants.{MESSAGE_HEADER_LENGTH, MESSAGE_LENGTH_MAX}
use Rattle.ttrpc_proto.specs.declared.framing.header.MessageHeader.{MessageHeader}
use Rattle.ttrpc_proto.specs.declared.framing.frame.Incoming.{Incoming}
use Rattle.ttrpc_proto.specs.declared.framing.frame.Incoming.TheVariants.{Frame, Oversize}
use Rattle.ttrpc_proto.specs.Framing.Header.{header_of}

-- Holds if the bytes are ten for this header, and after them the body, which is as long as the header states.
pub record IsWhole (h : MessageHeader) (body bytes : List ℕ) : Type 0 where
  pub ten : List ℕ
  pub size : length ten ≡ MESSAGE_HEADER_LENGTH
  pub header : header_of ten ≡ h
  pub stated : length body ≡ h.length
  pub all : bytes ≡ ten ++ body

-- Holds if the bytes are this frame. If its body is longer than a message may be, only the header is known, and the body may be any
-- bytes.
abbrev pub IsFrame : Incoming → List ℕ → Type 0
IsFrame (Frame m) bytes = IsWhole m.header m.payload bytes × (m.header.length ≤ MESSAGE_LENGTH_MAX)
IsFrame (Oversize h) bytes = (body : List ℕ) × IsWhole h body bytes × (MESSAGE_LENGTH_MAX < h.length)

-- Holds if the bytes are these frames, one after the other, and then the rest.
abbrev pub Frames : List ℕ → List Incoming → List ℕ → Type 0
Frames bytes [] rest = bytes ≡ rest
Frames bytes (i ∷ is) rest = (front : List ℕ) × (back : List ℕ) × (bytes ≡ front ++ back) × IsFrame i front × Frames back is rest

-- Holds if the bytes don't begin with a whole frame: they are fewer than ten, or a header and fewer bytes than it states.
abbrev pub IsRest : List ℕ → Type 0
IsRest bytes = MESSAGE_HEADER_LENGTH ≤ length bytes → length bytes < MESSAGE_HEADER_LENGTH + (header_of bytes).length

-- ---- the state of a decoder between calls

-- The bytes that a decoder keeps, and the number of further bytes that it counted. Of a frame that is too long it keeps the header
-- alone.
pub record Held : Type 0 where
  pub bytes : List ℕ
  pub counted : ℕ

-- The state with no kept bytes and none counted.
abbrev pub nothing : Held
nothing = record { bytes = []; counted = 0 }

-- Returns the state after the bytes of a rest.
abbrev pub held_of : List ℕ → Held
held_of rest =
    if nat_lt (length rest) MESSAGE_HEADER_LENGTH then record { bytes = rest; counted = 0 } else
    if nat_lt MESSAGE_LENGTH_MAX ((header_of rest).length) then record { bytes = take MESSAGE_HEADER_LENGTH rest; counted = length rest - MESSAGE_HEADER_LENGTH } else
    record { bytes = rest; counted = 0 }

-- Holds if this is the state after the rest, which doesn't begin with a whole frame.
abbrev pub Holds : Held → List ℕ → Type 0
Holds held rest = (held ≡ held_of rest) × IsRest rest

-- Holds if a decoder in one state, fed with the piece, gives these frames and is in the new state. The held bytes and the piece are
-- these frames and then a rest, and the new state is that after the rest.
abbrev pub Fed : Held → List ℕ → List Incoming → Held → Type 0
Fed held piece frames new = (before : List ℕ) → Holds held before → (rest : List ℕ) × Frames (before ++ piece) frames rest × Holds new rest

-- Holds if a decoder in one state, fed with these pieces one after the other, gives these frames and is in the new state.
abbrev pub FedAll : Held → List (List ℕ) → List Incoming → Held → Type 0
FedAll held [] frames new = (frames ≡ []) × (new ≡ held)
FedAll held (p ∷ ps) frames new = (first : List Incoming) × (later : List Incoming) × (middle : Held) × (frames ≡ first ++ later) × Fed held p first middle × FedAll middle ps later new

-- Returns the number of bytes that are wanted next in this state: the rest of the header, and then the rest of the payload.
abbrev pub wanted : Held → ℕ
wanted held =
    if nat_lt (length held.bytes) MESSAGE_HEADER_LENGTH then MESSAGE_HEADER_LENGTH - length held.bytes else
    MESSAGE_HEADER_LENGTH + (header_of held.bytes).length - (length held.bytes + held.counted)

-- Returns the frame as a list, which is empty if there is none.
abbrev pub given : Option Incoming → List Incoming
given None = []
given (Some i) = i ∷ []

-- Holds if the piece adds kept bytes to this state: a whole header is held, its payload is to be kept, and the piece has bytes.
pub record Grows (held : Held) (piece : List ℕ) : Type 0 where
  pub whole : MESSAGE_HEADER_LENGTH ≤ length held.bytes
  pub short : (header_of held.bytes).length ≤ MESSAGE_LENGTH_MAX
  pub some : 0 < length piece

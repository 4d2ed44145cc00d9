-- The steps of a read and a write, for private functions alone.
-- Source: this project's.
use Rattle.std.specs.Prelude.{◌≡◌, ℕ, ◌<◌, List, length, Bool, true, false, Option, Result, Ok, Err, ⊤}
use Rattle.std.specs.Io.KnownBytes.{Consumes}
use Rattle.std.specs.IoError.{error_kind}
use Rattle.ttrpc_proto.specs.declared.framing.header.MessageHeader.{MessageHeader}
use Rattle.ttrpc_proto.specs.declared.framing.frame.Incoming.TheVariants.{Frame}
use Rattle.ttrpc_proto.specs.declared.framing.reading.Found.{Found}
use Rattle.ttrpc_proto.specs.declared.framing.reading.Found.TheVariants.{Whole, BodyCut}
use Rattle.ttrpc_proto.specs.Framing.Streams.{Answered, IsFailure, IsOver}
use Rattle.ttrpc_proto.specs.declared.framing.failure.StreamFailure.{StreamFailure}
use Rattle.ttrpc_proto.specs.declared.framing.failure.StreamFailure.TheVariants.{Io, NoMemory as Refused}

-- Holds if n is the whole count, or less because no more comes, as the flag says.
abbrev pub IsAllOr : Bool → ℕ → ℕ → Type 0 → Type 0
IsAllOr true n count Over = n ≡ count
IsAllOr false n count Over = (n < count) × Over

-- Holds if this many bytes were read, or fewer because the reader ended before, as the flag says.
abbrev pub Passed : Option (List ℕ) → Option (List ℕ) → Option Answered → ℕ → Bool → Type 0
Passed before after last count all = (bytes : List ℕ) × Consumes before after bytes × IsAllOr all (length bytes) count (IsOver after last)

-- Holds if the reader failed with this failure, or room was refused.
abbrev pub IsBodyCause : StreamFailure → Option Answered → Type 0
IsBodyCause (Io e) last = IsFailure last (error_kind e)
IsBodyCause Refused last = ⊤

-- Holds if this is the result of reading the body of a frame with this header. The body is kept.
abbrev pub TookBody : MessageHeader → Option (List ℕ) → Option (List ℕ) → Option Answered → Result Found StreamFailure → Type 0
TookBody h before after last (Ok (Whole (Frame m))) = (m.header ≡ h) × Consumes before after m.payload × (length m.payload ≡ h.length)
TookBody h before after last (Ok (BodyCut g n)) = (g ≡ h) × (n < h.length) × IsOver after last × ((body : List ℕ) × Consumes before after body × (length body ≡ n))
TookBody h before after last (Ok _) = ⊥
TookBody h before after last (Err failure) = (body : List ℕ) × Consumes before after body × (length body < h.length) × IsBodyCause failure last

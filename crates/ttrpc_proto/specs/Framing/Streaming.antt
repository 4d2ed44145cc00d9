-- Frames that are read from a stream and written to one.
-- Source: PROTOCOL.md of ttrpc, "Message Frame"; what is told of cut input is this project's.
use Rattle.std.specs.Prelude.{true, ◌≡◌, ◌≢◌, ℕ, ◌+◌, ◌-◌, ◌<◌, ◌≤◌, List, [], ◌++◌, length, take, drop, Option, None, Some, Result, Ok, Err, ⊤}
use Rattle.std.specs.Io.KnownBytes.{Consumes}
use Rattle.std.specs.IoError.{error_kind}
use Rattle.std.specs.declared.io.ErrorKind.{ErrorKind}
use Rattle.ttrpc_proto.specs.Framing.Streams.{Answered, Called, IsFailure, IsOver, Makes, Then, Writes}
use Rattle.ttrpc_proto.specs.declared.framing.header.MessageHeader.{MessageHeader}
use Rattle.ttrpc_proto.specs.declared.framing.header.TheConstants.{DEFAULT_PAGE_SIZE, MESSAGE_HEADER_LENGTH, MESSAGE_LENGTH_MAX}
use Rattle.ttrpc_proto.specs.Framing.Header.{header_bytes, header_of}
use Rattle.ttrpc_proto.specs.declared.error.Error.{Error}
use Rattle.ttrpc_proto.specs.declared.error.Error.TheVariants.{NoMemory}
use Rattle.ttrpc_proto.specs.ErrorText.{IsSocket}
use Rattle.ttrpc_proto.specs.Framing.Header.Oversize.{oversize_error}
use Rattle.ttrpc_proto.specs.declared.framing.failure.StreamFailure.{StreamFailure}
use Rattle.ttrpc_proto.specs.declared.framing.failure.StreamFailure.TheVariants.{Io, NoMemory as Refused}
use Rattle.ttrpc_proto.specs.declared.framing.frame.Incoming.TheVariants.{Frame, Oversize}
use Rattle.ttrpc_proto.specs.declared.framing.gen_message.GenMessage.{GenMessage}
use Rattle.ttrpc_proto.specs.declared.framing.gen_message.GenMessageError.{GenMessageError}
use Rattle.ttrpc_proto.specs.declared.framing.gen_message.GenMessageError.TheVariants.{InternalError, ReturnError}
use Rattle.ttrpc_proto.specs.declared.framing.reading.Found.{Found}
use Rattle.ttrpc_proto.specs.declared.framing.reading.Found.TheVariants.{Whole, HeaderCut, BodyCut, OversizeCut}
use Rattle.ttrpc_proto.specs.Framing.Frames.{IsFrame, IsRest}

-- ---- The front of bytes

-- Holds if the bytes are a header and some of the body that it states, but not all.
pub record IsHead (h : MessageHeader) (bytes : List ℕ) : Type 0 where
  pub whole : MESSAGE_HEADER_LENGTH ≤ length bytes
  pub header : header_of bytes ≡ h
  pub short : length bytes < MESSAGE_HEADER_LENGTH + h.length

-- Holds if the bytes are this find: a whole frame, or the part of one that is there.
abbrev pub IsFound : Found → List ℕ → Type 0
IsFound (Whole i) bytes = IsFrame i bytes
IsFound (HeaderCut n) bytes = (length bytes ≡ n) × (n < MESSAGE_HEADER_LENGTH)
IsFound (BodyCut h n) bytes = IsHead h bytes × (length bytes ≡ MESSAGE_HEADER_LENGTH + n) × (h.length ≤ MESSAGE_LENGTH_MAX)
IsFound (OversizeCut h) bytes = IsHead h bytes × (MESSAGE_LENGTH_MAX < h.length)

-- Holds if the find is a whole frame, or P holds.
abbrev pub IfCut : Found → Type 0 → Type 0
IfCut (Whole i) P = ⊤
IfCut _ P = P

-- Holds if this find is at the front of the bytes, and the rest follows it. Nothing follows a frame that was cut.
abbrev pub StandsAt : List ℕ → Found → List ℕ → List ℕ → Type 0
StandsAt bytes found front rest = (bytes ≡ front ++ rest) × IsFound found front × IfCut found (rest ≡ [])

-- ---- Reading

-- Holds if this failure may come after these bytes of a frame: the reader failed, or room was refused for a body that is kept.
abbrev pub IsCause : StreamFailure → List ℕ → Option Answered → Type 0
IsCause (Io e) bytes last = IsFailure last (error_kind e)
IsCause Refused bytes last = (MESSAGE_HEADER_LENGTH ≤ length bytes) × ((header_of bytes).length ≤ MESSAGE_LENGTH_MAX)

-- Holds if this is the result of reading a frame. The find was taken, and the bytes after it are still there. Or reading failed inside
-- a frame.
abbrev pub Took : Option (List ℕ) → Option (List ℕ) → Option Answered → Result Found StreamFailure → Type 0
Took before after last (Ok found) = (bytes : List ℕ) × Consumes before after bytes × IsFound found bytes × IfCut found (IsOver after last)
Took before after last (Err failure) = (bytes : List ℕ) × Consumes before after bytes × IsRest bytes × IsCause failure bytes last

-- Holds if a frame was read with some result, and the result has this property.
abbrev pub Reads : Option (List ℕ) → Option (List ℕ) → Option Answered → (Result Found StreamFailure → Type 0) → Type 0
Reads before after last Told = (took : Result Found StreamFailure) × Took before after last took × Told took

-- Holds if the error reports the failure: it is `Socket`, or reports refused memory.
abbrev pub TellsFailure : StreamFailure → Error → Type 0
TellsFailure (Io e) error = IsSocket None error
TellsFailure Refused error = error ≡ NoMemory

-- Holds if the error reports that a message is too long, or that memory for its text was refused.
abbrev pub TellsOversize : MessageHeader → Error → Type 0
TellsOversize h e = e ≢ NoMemory → e ≡ oversize_error true h.length

-- Holds if the result is an error with this property, after which the connection can't go on.
abbrev pub IsInternal : Result GenMessage GenMessageError → (Error → Type 0) → Type 0
IsInternal result P = (e : Error) × (result ≡ Err (InternalError e)) × P e

-- Holds if this is the message or the error for the result of reading. A whole frame is a message, and the error for a frame that is
-- too long is `ReturnError`. After anything else the connection can't go on.
abbrev pub IsMessageOf : Result GenMessage GenMessageError → Result Found StreamFailure → Type 0
IsMessageOf result (Ok (Whole (Frame m))) = result ≡ Ok m
IsMessageOf result (Ok (Whole (Oversize h))) = (e : Error) × (result ≡ Err (ReturnError h e)) × TellsOversize h e
IsMessageOf result (Ok _) = IsInternal result (IsSocket None)
IsMessageOf result (Err failure) = IsInternal result (TellsFailure failure)

-- ---- Writing

-- Holds if these calls write a frame: the header with the first bytes of the payload, which fit into a page together, and then the
-- payload's other bytes.
abbrev pub WritesFrame : MessageHeader → List ℕ → List Called → Option ErrorKind → Type 0
WritesFrame h payload = Then (Writes (header_bytes h ++ take (DEFAULT_PAGE_SIZE - MESSAGE_HEADER_LENGTH) payload)) (Writes (drop (DEFAULT_PAGE_SIZE - MESSAGE_HEADER_LENGTH) payload))

-- Holds if these calls have the property P, with this end. If memory was refused, there were no calls.
abbrev pub Went : (List Called → Option ErrorKind → Type 0) → List Called → Result (Unit {0}) StreamFailure → Type 0
Went P calls (Ok done) = P calls None
Went P calls (Err (Io e)) = P calls (Some (error_kind e))
Went P calls (Err Refused) = calls ≡ []

-- Holds if calls with the property P were made, and their end has the other property.
abbrev pub Sends : Option (List Called) → Option (List Called) → (List Called → Option ErrorKind → Type 0) → (Result (Unit {0}) StreamFailure → Type 0) → Type 0
Sends old new P Told = (wrote : Result (Unit {0}) StreamFailure) × Makes old new (λ calls. Went P calls wrote) × Told wrote

-- Holds if this result reports such an end of calls.
abbrev pub IsSent : Result (Unit {0}) Error → Result (Unit {0}) StreamFailure → Type 0
IsSent result (Ok done) = result ≡ Ok tt
IsSent result (Err failure) = (e : Error) × (result ≡ Err e) × TellsFailure failure e

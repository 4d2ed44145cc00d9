-- The result of polled reads of a reader's bytes.
-- Source: PROTOCOL.md of ttrpc, "Message Frame"; what is told of cut input is this project's.
use Rattle.std.specs.Prelude.{◌≢◌, ℕ, ◌+◌, ◌≤◌, List, ◌++◌, length, Result, Ok, Err}
use Rattle.std.specs.IoError.{error_kind}
use Rattle.std.specs.declared.io.Error.{Error}
use Rattle.std.specs.declared.io.ErrorKind.TheVariants.{Interrupted}
use Rattle.tokio.specs.Io.Moved.{Passes}
use Rattle.ttrpc_proto.specs.declared.framing.header.TheConstants.{MESSAGE_HEADER_LENGTH, MESSAGE_LENGTH_MAX}
use Rattle.ttrpc_proto.specs.declared.framing.failure.StreamFailure.{StreamFailure}
use Rattle.ttrpc_proto.specs.declared.framing.failure.StreamFailure.TheVariants.{Io, NoMemory}
use Rattle.ttrpc_proto.specs.declared.framing.reading.Found.{Found}
use Rattle.ttrpc_proto.specs.declared.framing.reading.Found.TheVariants.{Whole}
use Rattle.ttrpc_proto.specs.Framing.Frames.{Held, Holds, IsRest}
use Rattle.ttrpc_proto.specs.Framing.Header.{header_of}
use Rattle.ttrpc_proto.specs.Framing.Streaming.{IfCut, IsFound}

-- Bytes were read, and the frame isn't whole with them.
pub record Continues {S : Type 0} (reads : Passes S) (old : S) (held : Held) (new : S) (now : Held) : Type 0 where
  pub came : List ℕ
  pub read : reads old came new
  pub holds : (before : List ℕ) → Holds held before → Holds now (before ++ came)

-- the bytes are a header that allows its body to be kept, and no more than this body after it
pub record IsWithin (bytes : List ℕ) : Type 0 where
  pub whole : MESSAGE_HEADER_LENGTH ≤ length bytes
  pub kept : (header_of bytes).length ≤ MESSAGE_LENGTH_MAX
  pub within : length bytes ≤ MESSAGE_HEADER_LENGTH + (header_of bytes).length

-- the result of a piece, with these bytes in all: this is found in them, or room was refused for a body that is kept
abbrev pub Makes : Result Found StreamFailure → List ℕ → Type 0
Makes (Ok (Whole i)) bytes = IsFound (Whole i) bytes
Makes (Ok found) bytes = ⊥
Makes (Err (Io e)) bytes = ⊥
Makes (Err NoMemory) bytes = IsWithin bytes

-- This was found in the bytes, and it was cut only if the reader ended there. Or the reader failed inside a frame, not
-- by an interruption. Or room was refused.
abbrev pub IsTaken : {S : Type 0} → (S → Type 0) → (S → Error → Type 0) → Result Found StreamFailure → List ℕ → S → Type 0
IsTaken ends fails (Ok found) bytes last = IsFound found bytes × IfCut found (ends last)
IsTaken ends fails (Err (Io e)) bytes last = IsRest bytes × fails last e × (error_kind e ≢ Interrupted)
IsTaken ends fails (Err NoMemory) bytes last = IsWithin bytes

-- The rest of a frame was read, as far as the reader has it, and nothing after it. `held` is the part that was read
-- before.
pub record Takes {S : Type 0} (reads : Passes S) (ends : S → Type 0) (fails : S → Error → Type 0) (old : S) (held : Held) (took : Result Found StreamFailure) (new : S) : Type 0 where
  pub came : List ℕ
  pub read : reads old came new
  pub taken : (before : List ℕ) → Holds held before → IsTaken ends fails took (before ++ came) new

-- the rest is still to be read, and this is the output for the result
abbrev pub WillTell : {S T : Type 0} → Passes S → (S → Type 0) → (S → Error → Type 0) → (T → Result Found StreamFailure → Type 0) → S → Held → T → Type 0
WillTell {S} reads ends fails tells old held result = (took : Result Found StreamFailure) × (last : S) × Takes reads ends fails old held took last × tells result took

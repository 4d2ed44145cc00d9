-- The result of polled reads of a header alone.
-- Source: PROTOCOL.md of ttrpc, "Message Frame".
use Rattle.std.specs.Prelude.{◌≡◌, ◌≢◌, ◌<◌, ℕ, List, ◌++◌, length, take, MatchResult, Result}
use Rattle.std.specs.IoError.{error_kind}
use Rattle.std.specs.declared.io.Error.{Error}
use Rattle.std.specs.declared.io.ErrorKind.TheVariants.{Interrupted}
use Rattle.tokio.specs.Io.Moved.{FillFails, Passes}
use Rattle.ttrpc_proto.specs.declared.framing.header.MessageHeader.{MessageHeader}
use Rattle.ttrpc_proto.specs.Framing.Header.{header_of}
use Rattle.ttrpc_polled_frames.specs.declared.headers.ReadHeader.{ReadHeader}

-- the bytes that were read
abbrev pub came_of : {S : Type 0} → ReadHeader S → List ℕ
came_of f = take f.filled f.bytes

-- more bytes were read
abbrev pub FillsHeader : {S : Type 0} → Passes S → ReadHeader S → ReadHeader S → Type 0
FillsHeader reads old new = (more : List ℕ) × reads old.reader more new.reader × (came_of new ≡ came_of old ++ more)

-- the ten bytes are a header; or there are fewer, and the reader failed, not by an interruption, or ended there
abbrev pub IsHeading : {S : Type 0} → (S → Type 0) → (S → Error → Type 0) → Result MessageHeader Error → List ℕ → S → Type 0
IsHeading ends fails result bytes last = MatchResult result
    (λ h. (length bytes ≡ 10) × (h ≡ header_of bytes))
    (λ e. (length bytes < 10) × FillFails fails ends last e × (error_kind e ≢ Interrupted))

-- the rest of it is still to be read, and then the result is this
abbrev pub WillHead : {S : Type 0} → Passes S → (S → Type 0) → (S → Error → Type 0) → ReadHeader S → Result MessageHeader Error → Type 0
WillHead {S} reads ends fails f result = (more : List ℕ) × (last : S) × reads f.reader more last × IsHeading ends fails result (came_of f ++ more) last

-- The result of polled writes of a frame's bytes.
-- Source: PROTOCOL.md of ttrpc, "Message Frame".
use Rattle.std.specs.Prelude.{◌≡◌, ◌≢◌, ◌<◌, ◌⊎◌, ℕ, List, [], ◌++◌, length, drop, Result, Ok, Err}
use Rattle.std.specs.IoError.{error_kind}
use Rattle.std.specs.declared.io.Error.{Error as IoError}
use Rattle.std.specs.declared.io.ErrorKind.TheVariants.{Interrupted}
use Rattle.tokio.specs.Io.Moved.{Passes, TakesWritten, WriteFails}
use Rattle.ttrpc_proto.specs.declared.error.Error.{Error}
use Rattle.ttrpc_proto.specs.declared.framing.failure.StreamFailure.TheVariants.{Io}
use Rattle.ttrpc_proto.specs.Framing.Streaming.{TellsFailure}
use Rattle.ttrpc_message.specs.Messages.{TellsZero}
use Rattle.ttrpc_polled_frames.specs.declared.offering.Offering.{Offering}

-- the bytes that are still to be offered
abbrev pub left_of : {W P : Type 0} → (P → List ℕ) → Offering W P → List ℕ
left_of bytes f = drop f.at f.first.items ++ drop f.payload_at (bytes f.payload)

-- The writer takes no more of the rest, which isn't empty: it failed, not by an interruption, or took nothing.
pub record BreaksOff {W : Type 0} (fails : W → IoError → Type 0) (is_full : W → Type 0) (left : List ℕ) (last : W) (failure : IoError) : Type 0 where
  pub some : 0 < length left
  pub failed : WriteFails fails is_full last failure
  pub lasting : error_kind failure ≢ Interrupted

-- the writer broke off, or took all and then failed to flush
abbrev pub FailsToFlush : {W : Type 0} → (W → IoError → Type 0) → (W → Type 0) → List ℕ → W → IoError → Type 0
FailsToFlush fails is_full left last failure = BreaksOff fails is_full left last failure ⊎ ((left ≡ []) × fails last failure)

-- How the writing of these bytes ends: the writer took all of them, and `done` holds; or it took a front, and the error
-- gives the reason why it took no more.
abbrev pub Ends : {W E : Type 0} → (W → Type 0) → (List ℕ → W → E → Type 0) → Result (Unit {0}) E → List ℕ → W → Type 0
Ends done tells (Ok u) left last = (left ≡ []) × done last
Ends done tells (Err e) left last = tells left last e

-- the rest is still to be taken, and then the result is this
abbrev pub WillEnd : {W E : Type 0} → Passes W → (W → Type 0) → (List ℕ → W → E → Type 0) → W → List ℕ → Result (Unit {0}) E → Type 0
WillEnd {W} writes done tells old left result = (last : W) × (rest : List ℕ) × TakesWritten writes old last left rest × Ends done tells result rest last

-- the error reports that the writer broke off; if the writer took nothing, it is the error for that
abbrev pub TellsOrZero : {W : Type 0} → (W → IoError → Type 0) → (W → Type 0) → List ℕ → W → Error → Type 0
TellsOrZero fails is_full left last e = (failure : IoError) × BreaksOff fails is_full left last failure × TellsFailure (Io failure) e × TellsZero (Io failure) e

-- the error reports that the writer broke off or failed to flush; taking nothing is reported as any failure
abbrev pub TellsIt : {W : Type 0} → (W → IoError → Type 0) → (W → Type 0) → List ℕ → W → Error → Type 0
TellsIt fails is_full left last e = (failure : IoError) × FailsToFlush fails is_full left last failure × TellsFailure (Io failure) e

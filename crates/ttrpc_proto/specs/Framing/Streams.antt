-- The answers of readers and writers, the calls that are made of a writer, and the writing of a part.
-- Source: this project's, over `Read` and `Write` of Rust's standard library.
use Rattle.std.specs.Prelude.{◌≡◌, ◌≢◌, ◌⊎◌, ℕ, ◌+◌, ◌-◌, ◌^◌, ◌<◌, ◌≤◌, List, [], ◌∷◌, ◌++◌, All, length, take, drop, Option, None, Some, IfSome, Result, Ok, Err, ⊤}
use Rattle.std.specs.Io.KnownBytes.{Appends, Consumes, IsAtEnd}
use Rattle.std.specs.IoError.{error_kind}
use Rattle.std.specs.declared.io.Error.{Error}
use Rattle.std.specs.declared.io.ErrorKind.{ErrorKind}
use Rattle.std.specs.declared.io.ErrorKind.TheVariants.{Interrupted, TimedOut, UnexpectedEof, WouldBlock, WriteZero}
use Rattle.ttrpc_proto.specs.declared.framing.streams.again.Passing.{Passing}
use Rattle.ttrpc_proto.specs.declared.framing.streams.again.Passing.TheVariants.{Interrupted as OnlyInterrupted, InterruptedOrBlocked}

-- The answer of a call of a reader or a writer: it moved this many bytes, or it failed with an error of this kind.
pub data Answered : Type 0 where
  Moved : (count : ℕ) → Answered
  Failed : (kind : ErrorKind) → Answered

-- Returns the answer of a call that returned this result.
abbrev pub answered : Result ℕ Error → Answered
answered (Ok n) = Moved n
answered (Err e) = Failed (error_kind e)

-- Returns the answer of a call that returned this result, if only the kind of the error was kept.
abbrev pub answered_kind : Result ℕ ErrorKind → Answered
answered_kind (Ok n) = Moved n
answered_kind (Err k) = Failed k

-- Returns the kind of the error, if there is one.
abbrev pub failure : {A : Type 0} → Result A Error → Option ErrorKind
failure (Ok _) = None
failure (Err e) = Some (error_kind e)

-- Returns the answer of a flush that failed with this kind, or didn't fail. A flush moves nothing.
abbrev pub flush_answer : Option ErrorKind → Answered
flush_answer None = Moved 0
flush_answer (Some kind) = Failed kind

-- A call of a writer, with its answer: these bytes were offered, or the writer was flushed.
pub data Called : Type 0 where
  Offered : (bytes : List ℕ) → (answer : Answered) → Called
  Flushed : (answer : Answered) → Called

-- Holds if the known calls grow by calls with this property, or if no calls are known.
abbrev pub Makes : Option (List Called) → Option (List Called) → (List Called → Type 0) → Type 0
Makes None new P = ⊤
Makes (Some old) None P = ⊥
Makes (Some old) (Some new) P = (calls : List Called) × (new ≡ old ++ calls) × P calls

-- Holds if the known bytes grow by the first of these bytes.
abbrev pub AppendsFront : Option (List ℕ) → Option (List ℕ) → List ℕ → Type 0
AppendsFront old new bytes = (n : ℕ) × Appends old new (take n bytes)

-- Holds if no more comes: no known byte is left, and the reader's last answer, if it is known, is that no bytes were moved.
abbrev pub IsOver : Option (List ℕ) → Option Answered → Type 0
IsOver remaining last = IsAtEnd remaining × IfSome last (λ a. a ≡ Moved 0)

-- ---- A call is tried again

-- Holds if a failure of this kind passes: the next try may succeed.
abbrev pub IsPassing : Passing → ErrorKind → Type 0
IsPassing OnlyInterrupted kind = kind ≡ Interrupted
IsPassing InterruptedOrBlocked kind = (kind ≡ Interrupted) ⊎ (kind ≡ WouldBlock)

-- Holds if the answer is a failure that passes.
abbrev pub Passes : Passing → Answered → Type 0
Passes passing answer = (kind : ErrorKind) × (answer ≡ Failed kind) × IsPassing passing kind

-- Holds if a call may answer so after its last try was answered: with the same answer, or with `TimedOut` for a failure that passes.
abbrev pub IsOutcome : Passing → Answered → Answered → Type 0
IsOutcome passing last (Moved n) = last ≡ Moved n
IsOutcome passing last (Failed kind) = (last ≡ Failed kind) ⊎ (Passes passing last × (kind ≡ TimedOut))

-- Holds if the call offers the bytes, and fails in a way that passes.
abbrev pub IsPassed : Passing → List ℕ → Called → Type 0
IsPassed passing bytes call = (answer : Answered) × (call ≡ Offered bytes answer) × Passes passing answer

-- Holds if each of these calls offers the bytes, and the last has this answer, while each call before it fails in a way that passes. Or
-- all 2^64 - 1 calls fail so, and the answer is `TimedOut`.
abbrev pub Tries : Passing → List ℕ → List Called → Answered → Type 0
Tries passing bytes calls told =
    ((before : List Called) × (calls ≡ before ++ Offered bytes told ∷ []) × All (IsPassed passing bytes) before)
    ⊎ ((told ≡ Failed TimedOut) × (length calls ≡ 2 ^ 64 - 1) × All (IsPassed passing bytes) calls)

-- Holds if a known count of reads grows by n.
abbrev pub Counts : Option ℕ → Option ℕ → ℕ → Type 0
Counts None new n = ⊤
Counts (Some old) None n = ⊥
Counts (Some old) (Some new) n = new ≡ old + n

-- Holds if reads were made, and these were at least 2^64 - 1 if the last answer is a failure that passes.
abbrev pub SpendsTries : Passing → Option ℕ → Option ℕ → Option Answered → Type 0
SpendsTries passing old new last = (n : ℕ) × Counts old new n × IfSome last (λ a. Passes passing a → 2 ^ 64 - 1 ≤ n)

-- ---- A buffer is filled

-- Holds if the reader's last answer is a failure of this kind, which is no interruption. Or the last answer is an interruption, and
-- `TimedOut` reports that all tries are used up.
abbrev pub IsFailure : Option Answered → ErrorKind → Type 0
IsFailure last kind = (kind ≢ Interrupted) × IfSome last (λ a. IsOutcome OnlyInterrupted a (Failed kind))

-- Holds if fewer than n bytes were taken from the front of the known bytes.
abbrev pub ConsumesBelow : Option (List ℕ) → Option (List ℕ) → ℕ → Type 0
ConsumesBelow old new n = (bytes : List ℕ) × (length bytes < n) × Consumes old new bytes

-- Holds if a reader that was to give more failed with this kind: no more comes, or its last answer is such a failure.
abbrev pub FillFails : Option (List ℕ) → Option Answered → ErrorKind → Type 0
FillFails remaining last kind = ((kind ≡ UnexpectedEof) × IsOver remaining last) ⊎ IsFailure last kind

-- ---- A part is written

-- Holds if each call offers the bytes that are left of the part, and takes some of them or is interrupted. The last argument is what is
-- left at the end.
abbrev pub Offers : List ℕ → List Called → List ℕ → Type 0
Offers part [] left = left ≡ part
Offers part (Offered bytes (Moved n) ∷ calls) left = (bytes ≡ part) × (0 < n) × (n ≤ length part) × Offers (drop n part) calls left
Offers part (Offered bytes (Failed kind) ∷ calls) left = (bytes ≡ part) × (0 < length part) × (kind ≡ Interrupted) × Offers part calls left
Offers part (Flushed answer ∷ calls) left = ⊥

-- Holds if an offer with this answer fails with this kind: the answer is such a failure, or no bytes were taken.
abbrev pub FailsAs : Answered → ErrorKind → Type 0
FailsAs (Moved n) kind = (n ≡ 0) × (kind ≡ WriteZero)
FailsAs (Failed k) kind = kind ≡ k

-- Holds if these calls fail to write the part with this kind of error, which is no interruption. The last of the calls are tries to
-- write the bytes that are left of the part.
pub record Breaks (part : List ℕ) (calls : List Called) (kind : ErrorKind) : Type 0 where
  pub before : List Called
  pub left : List ℕ
  pub tries : List Called
  pub told : Answered
  pub all : calls ≡ before ++ tries
  pub offers : Offers part before left
  pub some : 0 < length left
  pub tried : Tries OnlyInterrupted left tries told
  pub fails : FailsAs told kind
  pub lasting : kind ≢ Interrupted

-- Holds if these calls write the part: all of it was taken, or they fail with this kind of error.
abbrev pub Writes : List ℕ → List Called → Option ErrorKind → Type 0
Writes part calls None = Offers part calls []
Writes part calls (Some kind) = Breaks part calls kind

-- Holds if the call is a flush that fails with this kind, or doesn't fail.
abbrev pub Flushes : List Called → Option ErrorKind → Type 0
Flushes calls failure = calls ≡ Flushed (flush_answer failure) ∷ []

-- ---- One thing after the other

-- Holds if the first of these calls have the property P and don't fail, and the calls after them have the property Q.
abbrev pub Both : (List Called → Option ErrorKind → Type 0) → (List Called → Option ErrorKind → Type 0) → List Called → Option ErrorKind → Type 0
Both P Q calls failure = (a : List Called) × (b : List Called) × (calls ≡ a ++ b) × P a None × Q b failure

-- Holds if the calls have the property P and fail, or first P without a failure and then Q.
abbrev pub Then : (List Called → Option ErrorKind → Type 0) → (List Called → Option ErrorKind → Type 0) → List Called → Option ErrorKind → Type 0
Then P Q calls None = Both P Q calls None
Then P Q calls (Some kind) = P calls (Some kind) ⊎ Both P Q calls (Some kind)

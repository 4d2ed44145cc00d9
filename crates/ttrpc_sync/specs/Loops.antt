-- The meaning of the loops, over bytes that may be known.
-- Source: this project's.
use Rattle.std.specs.Prelude.{◌≡◌, ◌≢◌, ◌⊎◌, ◌+◌, ◌<◌, ◌≤◌, ℕ, List, [], ◌∷◌, length, ◌++◌, All, Option, None, Some, ⊤}
use Rattle.std.specs.Io.KnownBytes.{Appends, Consumes}
use Rattle.std.specs.declared.io.ErrorKind.TheVariants.{Interrupted, WriteZero}
use Rattle.ttrpc_proto.specs.Framing.Streams.{Answered, Moved, Failed, Called, Offered, Flushed}
use Rattle.ttrpc_sync.specs.declared.ports.PortState.{PortState}
use Rattle.ttrpc_sync.specs.declared.ports.PortState.TheVariants.{Open, Ended, Broke, Stopped}

-- The port took the bytes that the reader gave, in order, except for a rest that is no longer than one piece.
pub record Handed (piece : ℕ) (before after old new : Option (List ℕ)) : Type 0 where
  pub bytes : List ℕ
  pub rest : List ℕ
  pub short : length rest ≤ piece
  pub read : Consumes before after (bytes ++ rest)
  pub taken : Appends old new bytes

-- The port took all bytes that the reader gave, in order.
pub record HandedAll (before after old new : Option (List ℕ)) : Type 0 where
  pub bytes : List ℕ
  pub read : Consumes before after bytes
  pub taken : Appends old new bytes

-- The bytes that the writer took are the bytes that were reported, in order.
pub record Written (before after old new : Option (List ℕ)) : Type 0 where
  pub bytes : List ℕ
  pub written : Appends before after bytes
  pub told : Appends old new bytes

-- The record of a port: the bytes that were reported to it, and the bytes that wait.
pub record Told : Type 0 where
  pub reported : List ℕ
  pub waiting : List ℕ

-- The bytes that were reported to a port, if it records them.
abbrev pub reported : Option Told → Option (List ℕ)
reported None = None
reported (Some t) = Some t.reported

-- The bytes that wait at a port, and none if it doesn't record them.
abbrev pub waiting : Option Told → List ℕ
waiting None = []
waiting (Some t) = t.waiting

-- By this last answer of its reader a loop ends with this state. The state is the end if the reader gave nothing, and a break with the
-- error's kind if it failed.
abbrev pub EndsReading : Answered → PortState → Type 0
EndsReading a Open = ⊥
EndsReading a Ended = a ≡ Moved 0
EndsReading a (Broke k) = a ≡ Failed k
EndsReading a Stopped = ⊤

-- By this last answer of its writer a loop ends with this state. The state is a break if the writer failed, with the error's kind, or if it
-- took nothing. If the writer was flushed just before, the state is the port's.
abbrev pub EndsWriting : Answered → PortState → Type 0
EndsWriting a Open = ⊥
EndsWriting a Ended = ⊥
EndsWriting a (Broke k) = (a ≡ Failed k) ⊎ ((a ≡ Moved 0) × (k ≡ WriteZero))
EndsWriting a Stopped = a ≡ Moved 0

-- A call of a writer after which a loop goes on: the writer took some bytes, was flushed, or was interrupted.
abbrev pub GoesOn : Called → Type 0
GoesOn (Offered bytes (Moved n)) = 0 < n
GoesOn (Offered bytes (Failed k)) = k ≡ Interrupted
GoesOn (Flushed (Moved n)) = ⊤
GoesOn (Flushed (Failed k)) = k ≡ Interrupted

-- A call of a writer after which a loop ends with this state: a break if the writer failed or took nothing, and the port's state if it was
-- flushed.
abbrev pub EndsAt : Called → PortState → Type 0
EndsAt (Offered bytes (Moved n)) state = (n ≡ 0) × (state ≡ Broke WriteZero)
EndsAt (Offered bytes (Failed k)) state = (k ≢ Interrupted) × (state ≡ Broke k)
EndsAt (Flushed (Moved n)) state = state ≡ Stopped
EndsAt (Flushed (Failed k)) state = (k ≢ Interrupted) × (state ≡ Broke k)

-- The calls of a writer by a loop that ended with this state: the loop ended at the last call, and at none before.
pub record WritesUntil (state : PortState) (calls : List Called) : Type 0 where
  pub before : List Called
  pub last : Called
  pub all : calls ≡ before ++ last ∷ []
  pub goes : All GoesOn before
  pub ends : EndsAt last state

-- A count that is known in the end stayed as it was.
abbrev pub IsSameCount : Option ℕ → Option ℕ → Type 0
IsSameCount old None = ⊤
IsSameCount None (Some n) = ⊥
IsSameCount (Some m) (Some n) = n ≡ m

-- A count that is known in the end has grown by one.
abbrev pub IsOneMore : Option ℕ → Option ℕ → Type 0
IsOneMore old None = ⊤
IsOneMore None (Some n) = ⊥
IsOneMore (Some m) (Some n) = n ≡ m + 1

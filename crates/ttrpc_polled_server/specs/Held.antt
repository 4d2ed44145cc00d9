-- How the future of a server's connection changes its core, under the lock.
-- Source: this project's.
use Rattle.std.specs.Prelude.{◌≡◌, ◌≢◌, ◌<◌, ◌≤◌, ◌⊎◌, ◌^◌, ℕ, Bool, List, [], Option, Some, None, Result, Ok, Err, IfSome, IfNone, IsSomeAnd, is_ok, min, if◌then◌else◌}
use Rattle.std.specs.BTreeMap.{is_at}
use Rattle.std.specs.Ordering.{nat_cmp}
use Rattle.std.specs.Set.{remove_key}
use Rattle.std.specs.Result.{result_ok}
use Rattle.std.specs.declared.io.ErrorKind.{ErrorKind}
use Rattle.ttrpc_proto.specs.Framing.Frames.{nothing}
use Rattle.ttrpc_proto.specs.Framing.Queue.{free}
use Rattle.ttrpc_proto.specs.declared.error.Error.{Error}
use Rattle.ttrpc_secure.specs.declared.transform.InboundTransform.{Ghosts as InboundTransform}
use Rattle.ttrpc_secure.specs.declared.transform.OutboundTransform.{Ghosts as OutboundTransform}
use Rattle.ttrpc_connection.specs.Failure.{IsTold, error_of}
use Rattle.ttrpc_connection.specs.declared.failure.Failure.TheVariants.{Broke, Disconnected, DisconnectedInside}
use Rattle.futures.specs.declared.task.Poll.{Poll}
use Rattle.futures.specs.declared.task.Poll.TheVariants.{Ready}
use Rattle.ttrpc_connection.specs.OneEnd.{Lends, TakesOrDrains, failing, lending, reporting}
use Rattle.ttrpc_server.specs.declared.rules.Rules.TheVariants.{Async}
use Rattle.ttrpc_server.specs.declared.server.ServerCore.{ServerCore}
use Rattle.ttrpc_server.specs.Protocol.{IsDeadline, Passes, due_jobs, serving, timeout_room}
use Rattle.ttrpc_server.specs.Streaming.{ReceivesOne, unheard}

-- the core after it has reported all streams for which something came
abbrev pub all_told : {O I : Type 0} → ServerCore O I → ServerCore O I
all_told core = record core { state = record core.state { heard = [] } }

-- A piece was fed to the core at a moment. This many of its bytes were taken; or, if no count is given, none, since the connection has
-- failed or takes no more. If it hasn't failed, the core has reported everything that came of the piece.
pub record TakesPiece {O I : Type 0} (seals : OutboundTransform O) (opens : InboundTransform I) (old : ServerCore O I) (piece : List ℕ) (now : ℕ) (drains : Bool) (count : Option ℕ) (new : ServerCore O I) : Type 0 where
  pub fed : ServerCore O I
  pub answer : Result ℕ Error
  pub takes : TakesOrDrains (serving seals opens) old.state old.connection piece now answer fed.state fed.connection
  pub counted : count ≡ (if drains then None else result_ok answer)
  pub told : new ≡ (if is_ok answer then all_told fed else fed)

-- the core after a reader or a writer has failed with an error of this kind
abbrev pub broken : {O I : Type 0} → ServerCore O I → ErrorKind → ServerCore O I
broken core kind = record core { connection = failing core.connection (Broke kind) }

-- This many bytes were lent, and reported as written.
pub record LendsAndReports {O I : Type 0} (old : ServerCore O I) (before : List ℕ) (count : ℕ) (after : List ℕ) (new : ServerCore O I) : Type 0 where
  pub lends : Lends old.connection before count after
  pub reported : new ≡ record old { connection = reporting (lending old.connection count) count }

-- A moment came, and the core has reported the jobs that expired.
pub record TicksAndTells {O I : Type 0} (seals : OutboundTransform O) (old : ServerCore O I) (now : ℕ) (new : ServerCore O I) : Type 0 where
  pub ticked : ServerCore O I
  pub passes : Passes seals old.state.rules old.connection.failure old now ticked
  pub told : new ≡ record ticked { state = record ticked.state { expired = [] } }

-- a pause is over at this moment
abbrev pub IsLate : Option ℕ → ℕ → Type 0
IsLate pause now = IsSomeAnd pause (λ at. at ≤ now)

-- A moment came. If a pause is over by then the connection broke, and otherwise the moment was reported to the core.
pub record TicksOrBreaks (pause : Option ℕ) (now : ℕ) (Ticked Broke : Type 0) : Type 0 where
  pub late : IsLate pause now → Broke
  pub early : ¬ (IsLate pause now) → Ticked

-- the task under this number waits no longer, and at most the other tasks still do
abbrev pub IsLeft : ℕ → List ℕ → List ℕ → Type 0
IsLeft id old new = (new ≡ remove_key (is_at (nat_cmp id)) old) ⊎ (new ≡ [])

-- the error reports that the other side is gone, and whether that was inside a frame
pub record TellsEnd {O I : Type 0} (core : ServerCore O I) (e : Error) : Type 0 where
  pub between : core.connection.decoder ≡ nothing → IsTold (error_of Disconnected) e
  pub inside : core.connection.decoder ≢ nothing → IsTold (error_of DisconnectedInside) e

-- the result after the end of the input: the thing that came; or the error that the other side is gone, after which no task receives any
-- more
abbrev pub GivesLast : {O I : Type 0} → ServerCore O I → ℕ → Option (Result (List ℕ) Error) → Poll (Result (List ℕ) Error) → ServerCore O I → Type 0
GivesLast core id (Some received) polled new = (polled ≡ Ready received) × (new ≡ core)
GivesLast core id None polled new = ((e : Error) × TellsEnd core e × (polled ≡ Ready (Err e))) × (new ≡ unheard core id)

-- After the end of the input a task received from the stream of this job.
pub record ReceivesLast {O I : Type 0} (old : ServerCore O I) (id : ℕ) (polled : Poll (Result (List ℕ) Error)) (new : ServerCore O I) : Type 0 where
  pub came : Option (Result (List ℕ) Error)
  pub asked : ServerCore O I
  pub receives : ReceivesOne old id came asked
  pub gives : GivesLast asked id came polled new

-- there is room to report to the client that a job has expired
abbrev pub HasTimeoutRoom : {O I : Type 0} → OutboundTransform O → ServerCore O I → Type 0
HasTimeoutRoom out core = timeout_room out core.connection.outbox.half ≤ free core.connection.outbox.queue

-- The least moment at which a tick would make a job expire. There is none if no job would expire, or while there is no room for that.
pub record ExpiresAt {O I : Type 0} (out : OutboundTransform O) (core : ServerCore O I) (at : Option ℕ) : Type 0 where
  pub some : IfSome at (λ moment. (core.connection.failure ≡ None) × (core.state.rules ≡ Async) × HasTimeoutRoom out core × IsDeadline core.state.jobs.list moment)
  pub none : IfNone at (core.connection.failure ≡ None → core.state.rules ≡ Async → HasTimeoutRoom out core → (now : ℕ) → now < 2 ^ 64 → due_jobs now core.state.jobs.list ≡ [])

-- The handler that runs for a job.
-- Source: this project's.
use Rattle.std.specs.Prelude.{◌≡◌, ◌⊎◌, ℕ, Bool, true, Option, Some, None, Result}
use Rattle.ttrpc_proto.specs.declared.error.Error.{Error}
use Rattle.ttrpc_proto.specs.declared.messages.Response.{Response}
use Rattle.ttrpc_polled_server.specs.declared.ended.Ended.{Ended}
use Rattle.ttrpc_polled_server.specs.declared.ended.Ended.TheVariants.{Answers, Ends, Dropped}
use Rattle.ttrpc_polled_server.specs.declared.running.Handled.{Handled}
use Rattle.ttrpc_polled_server.specs.declared.running.Handled.TheVariants.{Method, Stream}

-- the handler may be polled
abbrev pub HandledCanPoll : {F G : Type 0} → (F → Type 0) → (G → Type 0) → Handled F G → Type 0
HandledCanPoll method stream (Method call) = method call
HandledCanPoll method stream (Stream call) = stream call

-- the job waits for the things that the handler waits for
abbrev pub HandledNeeds : {F G : Type 0} → (F → ℕ → Type 0) → (G → ℕ → Type 0) → Handled F G → ℕ → Type 0
HandledNeeds method stream (Method call) s = method call s
HandledNeeds method stream (Stream call) s = stream call s

-- the job ends with the result of its own handler
abbrev pub HandledGives : {F G : Type 0} → (F → Result Response Error → Type 0) → (G → Result (Option Response) Error → Type 0) → Handled F G → Ended → Type 0
HandledGives method stream (Method call) (Answers answer) = method call answer
HandledGives method stream (Method call) (Ends end) = ⊥
HandledGives method stream (Method call) Dropped = ⊥
HandledGives method stream (Stream call) (Answers answer) = ⊥
HandledGives method stream (Stream call) (Ends end) = stream call end
HandledGives method stream (Stream call) Dropped = ⊥

-- until its end has come, a job waits for the things that its handler waits for, or to be dropped; then it waits for
-- room
abbrev pub FinishingNeeds : Option Ended → (ℕ → Type 0) → (came : ℕ) → ℕ → Type 0
FinishingNeeds None running came s = running s
FinishingNeeds (Some ended) running came s = s ≡ came

-- the job waits for the things that the handler waits for, and to be dropped, if it may be
abbrev pub RunningNeeds : {F G : Type 0} → (F → ℕ → Type 0) → (G → ℕ → Type 0) → Handled F G → (may_be_dropped : Bool) → (came : ℕ) → ℕ → Type 0
RunningNeeds method stream handled may_be_dropped came s = HandledNeeds method stream handled s ⊎ ((may_be_dropped ≡ true) × (s ≡ came))

-- the result has the number of its own job, and the result of its own handler; or the handler was dropped, if it may be
pub record RunningGives {F G : Type 0} (method : F → Result Response Error → Type 0) (stream : G → Result (Option Response) Error → Type 0) (id : ℕ) (may_be_dropped : Bool) (handled : Handled F G) (given : ℕ × Ended) : Type 0 where
  pub own : given.0 ≡ id
  pub ended : HandledGives method stream handled given.1 ⊎ ((may_be_dropped ≡ true) × (given.1 ≡ Dropped))

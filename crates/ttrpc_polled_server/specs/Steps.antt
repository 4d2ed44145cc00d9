-- How a server's core changes when a handler ends.
-- Source: this project's.
use Rattle.std.specs.Prelude.{◌≡◌, ◌≢◌, ◌⊎◌, ℕ, Bool, true, codes, Option, Result, Ok, Err, IfErr, OnErr, OnOk}
use Rattle.ttrpc_proto.specs.declared.error.Error.{Error}
use Rattle.ttrpc_proto.specs.declared.error.Error.TheVariants.{NoRoom, Others, Socket}
use Rattle.ttrpc_proto.specs.declared.messages.Response.{Response}
use Rattle.ttrpc_secure.specs.declared.transform.OutboundTransform.{Ghosts as OutboundTransform}
use Rattle.ttrpc_connection.specs.Failure.{IsTold, TellsSent}
use Rattle.ttrpc_connection.specs.OneEnd.{failing}
use Rattle.ttrpc_connection.specs.Outbox.{is_sent}
use Rattle.ttrpc_connection.specs.declared.failure.Failure.TheVariants.{Told}
use Rattle.ttrpc_server.specs.declared.server.ServerCore.{ServerCore}
use Rattle.ttrpc_server.specs.Protocol.{Answers as AnswersIt, AnswersError, RefusesAnswer}
use Rattle.ttrpc_server.specs.State.{IsUnknown}
use Rattle.ttrpc_server.specs.Streaming.{EndsStream, RefusesEnd, RefusesItem, SendsItem}
use Rattle.ttrpc_polled.specs.Streams.Steps as streams
use Rattle.ttrpc_polled.specs.declared.streams.sending.Sending.{Sending}
use Rattle.ttrpc_polled_server.specs.declared.ended.Ended.{Ended}
use Rattle.ttrpc_polled_server.specs.declared.ended.Ended.TheVariants.{Answers, Ends, Dropped}

-- A request's job was answered with this result; or the answer was refused, and nothing changed.
pub record IsAnswered {O I : Type 0} (out : OutboundTransform O) (old : ServerCore O I) (id : ℕ) (given : Result Response Error) (result : Result (Unit {0}) Error) (new : ServerCore O I) : Type 0 where
  pub answered : (r : Response) → given ≡ Ok r → OnOk result (AnswersIt out old id r new)
  pub handler_failed : (e : Error) → given ≡ Err e → OnOk result (AnswersError out old.state.rules old id e new)
  pub refused : IfErr result (RefusesAnswer out old id given)
  pub err : OnErr result (new ≡ old)

-- The one core call that reports how the handler of a job ended was made. Or it was refused, and nothing changed.
abbrev pub IsEnded : {O I : Type 0} → OutboundTransform O → ServerCore O I → ℕ → Ended → Result (Unit {0}) Error → ServerCore O I → Type 0
IsEnded out old id (Answers given) result new = IsAnswered out old id given result new
IsEnded out old id (Ends given) (Ok _) new = EndsStream out old id given new
IsEnded out old id (Ends given) (Err e) new = (new ≡ old) × RefusesEnd out old id given e
IsEnded out old id Dropped (Ok _) new = new ≡ old
IsEnded out old id Dropped (Err e) new = ⊥

-- a stream's handler ended with the error that a receiver gets after the end of the input
abbrev pub IsDisconnect : Ended → Type 0
IsDisconnect (Answers given) = ⊥
IsDisconnect (Ends (Ok end)) = ⊥
IsDisconnect (Ends (Err e)) = (e ≡ Socket (codes "socket disconnected")) ⊎ (e ≡ Socket (codes "socket disconnected inside a frame"))
IsDisconnect Dropped = ⊥

-- after the end of the input a handler ended with its error, and nothing was reported
abbrev pub PassesOn : {O I : Type 0} → Bool → ServerCore O I → Ended → ServerCore O I → Type 0
PassesOn input_ended old ended new = (input_ended ≡ true) × IsDisconnect ended × (new ≡ old)

-- the same handler's end, with an error in place of its result
abbrev pub failed_by : Ended → Error → Ended
failed_by (Answers given) e = Answers (Err e)
failed_by (Ends given) e = Ends (Err e)
failed_by Dropped e = Dropped

-- There is no room for the end of a handler, or for the status with the reason of its refusal. Nothing changed.
abbrev pub LacksRoomFor : {O I : Type 0} → OutboundTransform O → ServerCore O I → ℕ → Ended → Type 0
LacksRoomFor out old id ended =
    IsEnded out old id ended (Err NoRoom) old
    ⊎ ((refusal : Error) × IsEnded out old id ended (Err refusal) old × IsEnded out old id (failed_by ended refusal) (Err NoRoom) old)

-- The end of a handler was refused for this error, which isn't want of room. Either its job is over, and nothing changed; or the client
-- gets the reason as a status; or the status is refused, too, and the connection fails with that error.
abbrev pub FailsFor : {O I : Type 0} → OutboundTransform O → ServerCore O I → ℕ → Ended → Error → ServerCore O I → Type 0
FailsFor out old id ended refusal new =
    (IsUnknown old.state.jobs.list id × (new ≡ old))
    ⊎ IsEnded out old id (failed_by ended refusal) (Ok tt) new
    ⊎ ((last : Error) × (last ≢ NoRoom) × IsEnded out old id (failed_by ended refusal) (Err last) old × (new ≡ record old { connection = failing old.connection (Told last) }))

-- The core got a report of how the handler of a job ended, or of the error that refused it.
abbrev pub EndsJob : {O I : Type 0} → OutboundTransform O → ServerCore O I → ℕ → Ended → ServerCore O I → Type 0
EndsJob out old id ended new =
    IsEnded out old id ended (Ok tt) new
    ⊎ ((refusal : Error) × (refusal ≢ NoRoom) × IsEnded out old id ended (Err refusal) old × FailsFor out old id ended refusal new)

-- the one core call was made that a call on the stream of this job names
abbrev pub IsSending : {O I : Type 0} → OutboundTransform O → ℕ → ServerCore O I → Sending → Option (Result (Unit {0}) Error) → Sending → ServerCore O I → Type 0
IsSending out id old sending told after new = streams.IsStep
    (λ o k item ticket n. SendsItem out o k item ticket n)
    (λ o k item e. RefusesItem out o k item e)
    (λ o k ticket n. ⊥)
    (λ o k e. IsTold (Others (codes "a server closes a stream by ending it")) e)
    (λ o ticket answer. TellsSent (is_sent o.connection.outbox.queue ticket) o.connection.failure answer)
    id old sending told after new

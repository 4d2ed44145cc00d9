-- The effect of a step of a client's call on the core that it is lent.
-- Source: this project's.
use Rattle.std.specs.Prelude.{◌≡◌, ◌≢◌, ◌⊎◌, ◌^◌, nat_lt, if◌then◌else◌, ℕ, [], Bool, true, false, Option, Some, None, Result, Ok, Err}
use Rattle.ttrpc_proto.specs.declared.error.Error.{Error}
use Rattle.ttrpc_proto.specs.declared.error.Error.TheVariants.{LocalClosed, NoRoom}
use Rattle.ttrpc_proto.specs.declared.messages.Request.{Request}
use Rattle.ttrpc_proto.specs.declared.messages.Response.{Response}
use Rattle.ttrpc_secure.specs.declared.transform.OutboundTransform.{Ghosts as OutboundTransform}
use Rattle.futures.specs.declared.task.Poll.{Poll}
use Rattle.futures.specs.declared.task.Poll.TheVariants.{Ready}
use Rattle.ttrpc_connection.specs.Deadlines.{deadline_of}
use Rattle.ttrpc_connection.specs.Failure.{IsTold, TellsSent}
use Rattle.ttrpc_connection.specs.Items.{close_flags}
use Rattle.ttrpc_connection.specs.Outbox.{is_sent}
use Rattle.ttrpc_client.specs.declared.client.ClientCore.{ClientCore}
use Rattle.ttrpc_client.specs.declared.streams.Sender.TheVariants as sender
use Rattle.ttrpc_client.specs.Protocol.{RefusesRequest, Requests, TakesOutcome, expired_error}
use Rattle.ttrpc_client.specs.Streaming.{OpensStream, RefusesSending, RefusesStream, SendsOn}
use Rattle.ttrpc_polled.specs.Streams.Steps as streams
use Rattle.ttrpc_polled.specs.declared.streams.sending.Sending.{Sending}
use Rattle.ttrpc_polled_client.specs.declared.asked.Asked.{Asked}
use Rattle.ttrpc_polled_client.specs.declared.asked.Asked.TheVariants.{Asks, Stalls, Waits, Refused, Done}

-- ---- calls

-- the id under which a call waits
abbrev pub id_of : Asked → Option ℕ
id_of (Waits id) = Some id
id_of (Asks request now) = None
id_of (Stalls place request now) = None
id_of (Refused e) = None
id_of Done = None

-- true if a call is still to be made
abbrev pub is_new : Asked → Bool
is_new (Asks request now) = true
is_new (Stalls place request now) = true
is_new (Waits id) = false
is_new (Refused e) = false
is_new Done = false

-- the place at which a call waits for room
abbrev pub place_of : Asked → Option ℕ
place_of (Stalls place request now) = Some place
place_of (Asks request now) = None
place_of (Waits id) = None
place_of (Refused e) = None
place_of Done = None

-- the call, waiting at this place for room, if it is still to be made
abbrev pub stalled : ℕ → Asked → Asked
stalled place (Asks request now) = Stalls place request now
stalled place (Stalls other request now) = Stalls place request now
stalled place (Waits id) = Waits id
stalled place (Refused e) = Refused e
stalled place Done = Done

-- a call that found no room waits at some place
abbrev pub WaitsForRoom : Asked → Asked → Type 0
WaitsForRoom call after = (place : ℕ) × (after ≡ stalled place call)

-- a moment of the clock, of 64 bits
abbrev pub clock_moment : Option ℕ → Option ℕ
clock_moment None = None
clock_moment (Some at) = if nat_lt at (2 ^ 64) then Some at else None

-- the moment at which a call expires that is still to be made
abbrev pub expiry_of : Asked → Option ℕ
expiry_of (Asks request now) = clock_moment (deadline_of now request.timeout_nano)
expiry_of (Stalls place request now) = clock_moment (deadline_of now request.timeout_nano)
expiry_of (Waits id) = None
expiry_of (Refused e) = None
expiry_of Done = None

-- The rest of a call that was to be made. It waits under its id, stays as it was if there was no room, or was refused for this error.
abbrev pub IsAsked : Result ℕ Error → Asked → Option (Result Response Error) → Asked → Type 0
IsAsked (Ok id) call given after = (given ≡ None) × (after ≡ Waits id)
IsAsked (Err NoRoom) call given after = (given ≡ None) × (after ≡ call)
IsAsked (Err e) call given after = (given ≡ Some (Err e)) × (after ≡ Done)

-- A call was asked for: it waits under its id; or there was no room; or another refusal is its outcome.
abbrev pub Begins : {O I : Type 0} → OutboundTransform O → Asked → ClientCore O I → Request → ℕ → Option (Result Response Error) → Asked → ClientCore O I → Type 0
Begins out call old request now None after new = ((id : ℕ) × (after ≡ Waits id) × Requests out old request now id new) ⊎ ((after ≡ call) × (new ≡ old) × RefusesRequest out old request NoRoom)
Begins out call old request now (Some (Err e)) after new = (after ≡ Done) × (new ≡ old) × RefusesRequest out old request e × (e ≢ NoRoom)
Begins out call old request now (Some (Ok r)) after new = ⊥

-- the rest of a call after this result
abbrev pub after_outcome : ℕ → Option (Result Response Error) → Asked
after_outcome id None = Waits id
after_outcome id (Some outcome) = Done

-- The outcome of a call was asked for.
abbrev pub Takes : {O I : Type 0} → ClientCore O I → ℕ → Option (Result Response Error) → Asked → ClientCore O I → Type 0
Takes old id given after new = TakesOutcome old id given new × (after ≡ after_outcome id given)

-- The call was over before: no core call was made, and this is its outcome.
abbrev pub IsOver : {O I : Type 0} → Error → ClientCore O I → Option (Result Response Error) → Asked → ClientCore O I → Type 0
IsOver error old given after new = (given ≡ Some (Err error)) × (after ≡ Done) × (new ≡ old)

-- ---- streams that are opened

-- A stream was asked for: it is open under this id; or it is refused, and nothing changed.
abbrev pub Opens : {O I : Type 0} → OutboundTransform O → ClientCore O I → Request → Bool → Bool → Result ℕ Error → ClientCore O I → Type 0
Opens out old request streaming_client streaming_server (Ok id) new = OpensStream out old request streaming_client streaming_server id new
Opens out old request streaming_client streaming_server (Err e) new = (new ≡ old) × RefusesStream out old request streaming_client e

-- ---- a call's step, by the state of the call

-- the one core call that the state names was made
abbrev pub IsStep : {O I : Type 0} → OutboundTransform O → ClientCore O I → Asked → Option (Result Response Error) → Asked → ClientCore O I → Type 0
IsStep out old (Asks request now) given after new = Begins out (Asks request now) old request now given after new
IsStep out old (Stalls place request now) given after new = Begins out (Stalls place request now) old request now given after new
IsStep out old (Waits id) given after new = Takes old id given after new
IsStep out old (Refused e) given after new = IsOver e old given after new
IsStep out old Done given after new = IsOver LocalClosed old given after new

-- A call found no room, and its deadline has passed: it has expired, without having been made.
pub record IsOverdue {O I : Type 0} (out : OutboundTransform O) (old : ClientCore O I) (call : Asked) (answer : Poll (Result Response Error)) (after : Asked) (new : ClientCore O I) : Type 0 where
  pub fresh : is_new call ≡ true
  pub mid : Asked
  pub still : is_new mid ≡ true
  pub step : IsStep out old call None mid new
  pub told : Error
  pub is_told : IsTold expired_error told
  pub expired : answer ≡ Ready (Err told)
  pub over : after ≡ Done

-- ---- a step of a call on a stream

-- the one core call was made that a call on the stream of this id names
abbrev pub IsSending : {O I : Type 0} → OutboundTransform O → ℕ → ClientCore O I → Sending → Option (Result (Unit {0}) Error) → Sending → ClientCore O I → Type 0
IsSending out id old sending told after new = streams.IsStep
    (λ o k item ticket n. SendsOn out o k 0 item sender.Open ticket n)
    (λ o k item e. RefusesSending out o k 0 item e)
    (λ o k ticket n. SendsOn out o k close_flags [] sender.Closed ticket n)
    (λ o k e. RefusesSending out o k close_flags [] e)
    (λ o ticket answer. TellsSent (is_sent o.connection.outbox.queue ticket) o.connection.failure answer)
    id old sending told after new

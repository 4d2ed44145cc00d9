-- The calls of a client core besides those of its connection, the queue's happenings during them, and the ids and outcomes of lists of
-- calls.
-- Source: this project's.
use Rattle.std.specs.Prelude.{◌≡◌, ◌<◌, ◌≤◌, ◌&&◌, not, ℕ, ◌+◌, List, [], ◌∷◌, ◌++◌, nat_eq, option_to_list, Option, Some, None, is_some, Bool, if◌then◌else◌, Result}
use Rattle.std.specs.List.{AllByRecursion, IsDistinct, flat_map}
use Rattle.ttrpc_client.specs.Types.{Error, Request, Response, Queued, OutboundTransform, Connection, Failure, Sender}
use Rattle.ttrpc_proto.specs.Framing.Queue.{Happening, Placed, Thrown}
use Rattle.ttrpc_connection.specs.Calls.{Call, Did, Others, Queues}
use Rattle.ttrpc_connection.specs.Items.{IsDataFrame}
use Rattle.ttrpc_client.specs.declared.client.ClientCore.{ClientCore}
use Rattle.ttrpc_client.specs.State.{Client, call_at, throws, due_at}
use Rattle.ttrpc_client.specs.Protocol.{IsRequestFrame, last_id, Forgets, Requests, TakesOutcome, Ticks, takes_back}
use Rattle.ttrpc_client.specs.Streaming.{DropsReceiver, DropsSender, IsOpeningFrame, OpensStream, ReceivesOne, SendsOn}

-- A call that was accepted, with its arguments and its result. A call that was refused changes nothing, and isn't among these.
pub data Called : Type 0 where
  -- a request was accepted at a moment, and got this id
  Asked : (request : Request) → (now id : ℕ) → Called
  -- the outcome of a call was asked for, with this result
  Told : (id : ℕ) → (outcome : Option (Result Response Error)) → Called
  -- a call was dropped
  Dropped : (id : ℕ) → Called
  -- a moment was reported
  Ticked : (now : ℕ) → Called
  -- the next ended call was asked for, with this result
  AskedEnded : (id : Option ℕ) → Called
  -- a stream was opened by a request, to send items or not, and to receive them or not, and got this id
  Opened : (request : Request) → (streaming_client streaming_server : Bool) → (id : ℕ) → Called
  -- data were sent on a stream in a frame of these flags and this ticket, and the stream's sender was in this state afterwards
  SentOn : (id flags : ℕ) → (plain : List ℕ) → (sender : Sender) → (ticket : ℕ) → Called
  -- the next item of a stream was asked for, with this result
  Received : (id : ℕ) → (given : Option (Result (List ℕ) Error)) → Called
  -- the receiver of a stream was dropped
  ReceiverDropped : (id : ℕ) → Called
  -- the sender of a stream was dropped
  SenderDropped : (id : ℕ) → Called
  -- the next stream for which something came was asked for, with this result
  AskedHeard : (id : Option ℕ) → Called

-- Returns the core of this state and this connection.
abbrev pub core : {O I : Type 0} → Client → Connection O I → ClientCore O I
core state connection = record { state = state; connection = connection }

-- ---- the effect of a call on the core

-- Holds if a moment came. After a failure nothing changes.
abbrev pub Passes : {O I : Type 0} → Bool → Option Failure → ClientCore O I → ℕ → ClientCore O I → Type 0
Passes seals None old now new = Ticks seals old now new
Passes seals (Some failure) old now new = new ≡ old

-- Holds if the first of the ended calls was reported and removed, if there was one.
pub record TellsEnded {O I : Type 0} (old : ClientCore O I) (id : Option ℕ) (new : ClientCore O I) : Type 0 where
  pub first : old.state.ended ≡ option_to_list id ++ new.state.ended
  pub same : new ≡ record old { state = record old.state { ended = new.state.ended } }

-- Holds if the first of the streams for which something came was reported and removed, if there was one.
pub record TellsHeard {O I : Type 0} (old : ClientCore O I) (id : Option ℕ) (new : ClientCore O I) : Type 0 where
  pub first : old.state.heard ≡ option_to_list id ++ new.state.heard
  pub same : new ≡ record old { state = record old.state { heard = new.state.heard } }

-- Holds if the call has this effect on the core.
abbrev pub Does : {O I : Type 0} → OutboundTransform O → Bool → Called → ClientCore O I → ClientCore O I → Type 0
Does out seals (Asked request now id) old new = Requests out old request now id new
Does out seals (Told id outcome) old new = TakesOutcome old id outcome new
Does out seals (Dropped id) old new = Forgets seals old id new
Does out seals (Ticked now) old new = Passes seals old.connection.failure old now new
Does out seals (AskedEnded id) old new = TellsEnded old id new
Does out seals (Opened request streaming_client streaming_server id) old new = OpensStream out old request streaming_client streaming_server id new
Does out seals (SentOn id flags plain sender ticket) old new = SendsOn out old id flags plain sender ticket new
Does out seals (Received id given) old new = ReceivesOne old id given new
Does out seals (ReceiverDropped id) old new = DropsReceiver old id new
Does out seals (SenderDropped id) old new = DropsSender old id new
Does out seals (AskedHeard id) old new = TellsHeard old id new

-- ---- the queue's happenings during a call

-- Returns the happening that the requests of these calls are thrown away, or none if they may not be.
abbrev pub thrown_if : Bool → (ℕ → Bool) → List Happening
thrown_if may ids = if may then Thrown ids ∷ [] else []

-- Returns the happening that the requests of the due calls are thrown away. There is none if requests may not be thrown away, or after a
-- failure.
abbrev pub thrown_at : {O I : Type 0} → Bool → ClientCore O I → ℕ → List Happening
thrown_at seals old now = thrown_if (not (is_some old.connection.failure) && throws old.state.kind seals) (λ id. due_at now (call_at old.state id))

-- Holds if one frame of this kind was queued.
abbrev pub QueuesOne : {O I : Type 0} → (Queued → Type 0) → ClientCore O I → ClientCore O I → List Happening → Type 0
QueuesOne is_such old new happenings = (f : Queued) × is_such f × Queues old.connection (f ∷ []) new.connection × (happenings ≡ Placed f ∷ [])

-- Holds if the queue goes through these happenings during a call.
abbrev pub Causes : {O I : Type 0} → Called → Bool → ClientCore O I → ClientCore O I → List Happening → Type 0
Causes (Asked request now id) seals old new happenings = QueuesOne (IsRequestFrame id) old new happenings
Causes (Dropped id) seals old new happenings = happenings ≡ thrown_if (takes_back seals old id) (λ k. nat_eq k id)
Causes (Ticked now) seals old new happenings = happenings ≡ thrown_at seals old now
Causes (Opened request streaming_client streaming_server id) seals old new happenings = QueuesOne (IsOpeningFrame streaming_client id) old new happenings
Causes (SentOn id flags plain sender ticket) seals old new happenings = QueuesOne (IsDataFrame id flags ticket) old new happenings
Causes call seals old new happenings = happenings ≡ []

-- Holds if such a call has this effect, and the queue goes through these happenings.
abbrev pub called : {O I : Type 0} → OutboundTransform O → Bool → Others Called Client O I
called out seals a s old happenings t new = Does out seals a (core s old) (core t new) × Causes a seals (core s old) (core t new) happenings

-- ---- the ids and outcomes of lists of calls

-- Returns the id that a call gave its request, if it made one.
abbrev pub asked_by : Call Called → List ℕ
asked_by (Did (Asked request now id)) = id ∷ []
asked_by call = []

-- Returns the ids of the requests that were accepted, in order.
abbrev pub ids_asked : List (Call Called) → List ℕ
ids_asked calls = flat_map asked_by calls

-- Returns the id that a call used for its request or for the stream that it opened, if it did either.
abbrev pub used_by : Call Called → List ℕ
used_by (Did (Asked request now id)) = id ∷ []
used_by (Did (Opened request streaming_client streaming_server id)) = id ∷ []
used_by call = []

-- Returns the ids that were used, in order.
abbrev pub ids_used : List (Call Called) → List ℕ
ids_used calls = flat_map used_by calls

-- Holds if the ids rise by two from the first one on, none is above the greatest, and the next id comes after them.
abbrev pub RiseByTwo : ℕ → List ℕ → ℕ → Type 0
RiseByTwo first [] next = next ≡ first
RiseByTwo first (id ∷ ids) next = (id ≡ first) × (id ≤ last_id) × RiseByTwo (first + 2) ids next

-- Returns the outcome that a call gave for this id, if it gave one.
abbrev pub told_by : ℕ → Call Called → List (Result Response Error)
told_by k (Did (Told id (Some outcome))) = if nat_eq id k then outcome ∷ [] else []
told_by k call = []

-- Returns the outcomes that were given for this id, in order.
abbrev pub outcomes_of : ℕ → List (Call Called) → List (Result Response Error)
outcomes_of k calls = flat_map (told_by k) calls

-- ---- the requests that are queued

-- Returns the ids of the calls with a request among these frames.
abbrev pub requests_in : List Queued → List ℕ
requests_in [] = []
requests_in (f ∷ fs) = if f.is_unary_request then f.owner ∷ requests_in fs else requests_in fs

-- Holds if each call's request is among the frames at most once, and none is for a call that wasn't made yet.
pub record AreQueuedOnce (next : ℕ) (frames : List Queued) : Type 0 where
  pub distinct : IsDistinct nat_eq (requests_in frames)
  pub below : AllByRecursion (λ id. id < next) (requests_in frames)

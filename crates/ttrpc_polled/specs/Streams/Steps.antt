-- The effect of a step of a call on a stream, on the core that it is lent. The members of `StreamCore`, which are the first arguments, say
-- what the core's own calls do.
-- Source: this project's.
use Rattle.std.specs.Prelude.{◌≡◌, ◌≢◌, ◌⊎◌, ℕ, List, Bool, true, false, Option, Some, None, Result, Ok, Err}
use Rattle.ttrpc_proto.specs.declared.error.Error.{Error}
use Rattle.ttrpc_proto.specs.declared.error.Error.TheVariants.{LocalClosed, NoRoom}
use Rattle.ttrpc_polled.specs.declared.streams.sending.Sending.{Sending}
use Rattle.ttrpc_polled.specs.declared.streams.sending.Sending.TheVariants.{Sends, Closes, Stalls, Waits, Refused, Done}

-- the ticket for which a call waits
abbrev pub ticket_of : Sending → Option ℕ
ticket_of (Waits ticket) = Some ticket
ticket_of (Sends item) = None
ticket_of Closes = None
ticket_of (Stalls place item) = None
ticket_of (Refused e) = None
ticket_of Done = None

-- true if the call's frame is still to be asked for
abbrev pub is_new : Sending → Bool
is_new (Sends item) = true
is_new Closes = true
is_new (Stalls place item) = true
is_new (Waits ticket) = false
is_new (Refused e) = false
is_new Done = false

-- the place at which a call waits for room
abbrev pub place_of : Sending → Option ℕ
place_of (Stalls place item) = Some place
place_of (Sends item) = None
place_of Closes = None
place_of (Waits ticket) = None
place_of (Refused e) = None
place_of Done = None

-- the call, waiting at this place for room, if its frame is still to be asked for
abbrev pub stalled : ℕ → Sending → Sending
stalled place (Sends item) = Stalls place (Some item)
stalled place Closes = Stalls place None
stalled place (Stalls other item) = Stalls place item
stalled place (Waits ticket) = Waits ticket
stalled place (Refused e) = Refused e
stalled place Done = Done

-- a call that found no room waits at some place
abbrev pub WaitsForRoom : Sending → Sending → Type 0
WaitsForRoom call after = (place : ℕ) × (after ≡ stalled place call)

-- The rest of a call after its frame was asked for. It waits for the frame's ticket, stays as it was if there was no room, or was refused
-- for this error.
abbrev pub Asked : Result ℕ Error → Sending → Option (Result (Unit {0}) Error) → Sending → Type 0
Asked (Ok ticket) call told after = (told ≡ None) × (after ≡ Waits ticket)
Asked (Err NoRoom) call told after = (told ≡ None) × (after ≡ call)
Asked (Err e) call told after = (told ≡ Some (Err e)) × (after ≡ Done)

-- A frame was asked for. It was queued, and the call waits for its ticket; or there was no room; or it was refused for another reason.
-- Except in the first case nothing changed.
abbrev pub Queues : {C : Type 0} → (C → ℕ → C → Type 0) → (C → Error → Type 0) → Sending → C → Option (Result (Unit {0}) Error) → Sending → C → Type 0
Queues queues refuses call old None after new = ((ticket : ℕ) × (after ≡ Waits ticket) × queues old ticket new) ⊎ ((after ≡ call) × (new ≡ old) × refuses old NoRoom)
Queues queues refuses call old (Some (Err e)) after new = (after ≡ Done) × (new ≡ old) × refuses old e × (e ≢ NoRoom)
Queues queues refuses call old (Some (Ok _)) after new = ⊥

-- the rest of the call after this answer for its ticket
abbrev pub after_told : ℕ → Option (Result (Unit {0}) Error) → Sending
after_told ticket None = Waits ticket
after_told ticket (Some told) = Done

-- The call asked whether the frame of this ticket was sent.
abbrev pub Asks : {C : Type 0} → (C → ℕ → Option (Result (Unit {0}) Error) → Type 0) → C → ℕ → Option (Result (Unit {0}) Error) → Sending → C → Type 0
Asks tells_sent old ticket told after new = tells_sent old ticket told × (after ≡ after_told ticket told) × (new ≡ old)

-- The call was over before: no core call was made, and this is the result.
abbrev pub IsOver : {C : Type 0} → Error → C → Option (Result (Unit {0}) Error) → Sending → C → Type 0
IsOver error old told after new = (told ≡ Some (Err error)) × (after ≡ Done) × (new ≡ old)

-- The one core call that the call names was made, on the stream of this id.
abbrev pub IsStep : {C I : Type 0} → (C → I → List ℕ → ℕ → C → Type 0) → (C → I → List ℕ → Error → Type 0) → (C → I → ℕ → C → Type 0) → (C → I → Error → Type 0)
    → (C → ℕ → Option (Result (Unit {0}) Error) → Type 0) → I → C → Sending → Option (Result (Unit {0}) Error) → Sending → C → Type 0
IsStep sends refuses closes refuses_close tells_sent id old (Sends item) told after new = Queues (λ o ticket n. sends o id item ticket n) (λ o e. refuses o id item e) (Sends item) old told after new
IsStep sends refuses closes refuses_close tells_sent id old Closes told after new = Queues (λ o ticket n. closes o id ticket n) (λ o e. refuses_close o id e) Closes old told after new
IsStep sends refuses closes refuses_close tells_sent id old (Stalls place (Some item)) told after new = Queues (λ o ticket n. sends o id item ticket n) (λ o e. refuses o id item e) (Stalls place (Some item)) old told after new
IsStep sends refuses closes refuses_close tells_sent id old (Stalls place None) told after new = Queues (λ o ticket n. closes o id ticket n) (λ o e. refuses_close o id e) (Stalls place None) old told after new
IsStep sends refuses closes refuses_close tells_sent id old (Waits ticket) told after new = Asks tells_sent old ticket told after new
IsStep sends refuses closes refuses_close tells_sent id old (Refused e) told after new = IsOver e old told after new
IsStep sends refuses closes refuses_close tells_sent id old Done told after new = IsOver LocalClosed old told after new

-- The stream of this id was asked for something: nothing came yet, or this is the result for the thing that it gave.
abbrev pub ReceivesAs : {C I T : Type 0} → (C → I → Option (Result (List ℕ) Error) → C → Type 0) → (Result (List ℕ) Error → T → Type 0) → I → C → Option T → C → Type 0
ReceivesAs receives tells id old None new = receives old id None new
ReceivesAs receives tells id old (Some told) new = (given : Result (List ℕ) Error) × receives old id (Some given) new × tells given told

-- Calls of a core over a connection one after the other, also after a failure, and the queue's history during them.
-- Source: this project's.
use Rattle.std.specs.Prelude.{◌≡◌, ◌≤◌, ◌⊎◌, ℕ, List, [], ◌∷◌, ◌++◌, length, map, is_some, true, false, if◌then◌else◌, nat_eq}
use Rattle.ttrpc_connection.specs.Types.{Error, Queued, Connection, Failure}
use Rattle.ttrpc_proto.specs.Framing.Queue.{Queue, Happening, Placed, Allowed, after_all, open_part, with_payload}
use Rattle.ttrpc_proto.specs.Framing.Queue as queue
use Rattle.ttrpc_connection.specs.Frames.{SendsOne}
use Rattle.ttrpc_connection.specs.Feeds.{Ways, Feeds, Breaks}
use Rattle.ttrpc_connection.specs.OneEnd.{failing, lending, reporting}

-- A call, with its arguments and its result.
pub data Call (A : Type 0) : Type 0 where
  -- a piece was fed at a moment, and the connection took all of it, failed in it, or took nothing
  Gave : (piece : List ℕ) → (now : ℕ) → Call A
  -- this many bytes were lent
  Lent : (n : ℕ) → Call A
  -- this many of the lent bytes were reported as written
  Reported : (n : ℕ) → Call A
  -- the connection was failed, or the input ended
  Failed : Call A
  -- another call of the core
  Did : (other : A) → Call A

-- Holds if the queue may go through these happenings, and is `r` after them.
pub record Goes (q : Queue) (happenings : List Happening) (r : Queue) : Type 0 where
  pub after : r ≡ after_all q happenings
  pub allowed : Allowed q happenings

-- The type of a relation for the other calls of a core: their effect on its state and the connection, and the queue's happenings.
abbrev pub Others : Type 0 → Type 0 → Type 0 → Type 0 → Type 1
Others A S O I = A → S → Connection O I → List Happening → S → Connection O I → Type 0

-- Holds if the other calls take no input, and have the effect on the queue that their happenings state.
pub record AreLawful {A S O I : Type 0} (others : Others A S O I) : Type 0 where
  pub decoder : (a : A) (s : S) (old : Connection O I) (happenings : List Happening) (t : S) (new : Connection O I) → others a s old happenings t new → new.decoder ≡ old.decoder
  pub queue : (a : A) (s : S) (old : Connection O I) (happenings : List Happening) (t : S) (new : Connection O I) → others a s old happenings t new → Goes old.outbox.queue happenings new.outbox.queue

-- Holds if these bytes were fed, and the connection took them, failed in them, or took nothing. The connection takes nothing if it had
-- failed, if its core takes no more, or if there are no bytes.
abbrev pub Gives : {S O I : Type 0} → Ways S O I → S → Connection O I → List ℕ → ℕ → S → Connection O I → Type 0
Gives w s old piece now t new =
    Feeds w s old piece now t new
    ⊎ ((told : Error) × Breaks w s old piece now told t new)
    ⊎ (((is_some old.failure ≡ true) ⊎ (w.core.takes s ≡ false) ⊎ (piece ≡ [])) × (t ≡ s) × (new ≡ old))

-- Holds if these frames were queued.
abbrev pub Queues : {O I : Type 0} → Connection O I → List Queued → Connection O I → Type 0
Queues old queued new = new.outbox.queue.frames ≡ old.outbox.queue.frames ++ queued

-- Holds if one call has this effect on the core's state and the connection, and the queue goes through these happenings.
abbrev pub Calls : {A S O I : Type 0} → Ways S O I → Others A S O I → S → Connection O I → Call A → List Happening → S → Connection O I → Type 0
Calls w others s old (Gave piece now) happenings t new =
    Gives w s old piece now t new × ((queued : List Queued) × Queues old queued new × (happenings ≡ map Placed queued))
Calls w others s old (Lent n) happenings t new =
    (t ≡ s) × (n ≤ length (open_part old.outbox.queue)) × (is_some old.failure ≡ true → n ≡ 0)
    × (new ≡ lending old n) × (happenings ≡ queue.Lent n ∷ [])
Calls w others s old (Reported n) happenings t new =
    (t ≡ s) × (n ≤ old.outbox.queue.lent)
    × (new ≡ reporting old n) × (happenings ≡ queue.Reported n ∷ [])
Calls w others s old Failed happenings t new = (t ≡ s) × ((why : Failure) × (new ≡ failing old why)) × (happenings ≡ [])
Calls w others s old (Did a) happenings t new = others a s old happenings t new

-- Holds if these calls, one after the other, have this effect, and the queue goes through these happenings in order.
abbrev pub Runs : {A S O I : Type 0} → Ways S O I → Others A S O I → S → Connection O I → List (Call A) → List Happening → S → Connection O I → Type 0
Runs w others s old [] happenings t new = (happenings ≡ []) × (t ≡ s) × (new ≡ old)
Runs {A} {S} {O} {I} w others s old (c ∷ cs) happenings t new =
    (u : S) × (mid : Connection O I) × (now : List Happening) × (later : List Happening)
    × Calls w others s old c now u mid × (happenings ≡ now ++ later) × Runs w others u mid cs later t new

-- Returns the joined calls with a piece in front. The piece is joined with the first call if that is a piece at the same moment.
abbrev pub before_others : {A : Type 0} → List ℕ → ℕ → List (Call A) → List (Call A)
before_others piece now (Gave more at ∷ cs) = if nat_eq at now then Gave (piece ++ more) now ∷ cs else Gave piece now ∷ Gave more at ∷ cs
before_others piece now cs = Gave piece now ∷ cs

-- Returns the calls with each run of pieces at one moment, directly one after the other, joined to one piece.
abbrev pub joined : {A : Type 0} → List (Call A) → List (Call A)
joined [] = []
joined (Gave piece now ∷ cs) = before_others piece now (joined cs)
joined (c ∷ cs) = c ∷ joined cs

-- ---- the calls of a connection alone

-- Another call of a connection alone, with its arguments.
pub data Own : Type 0 where
  -- data were sealed and queued, and the core's state may have changed
  Queued_one : (frame : Queued) → (plain : List ℕ) → Own

-- Holds if such a call has this effect, and the queue goes through these happenings.
abbrev pub own : {S O I : Type 0} → Ways S O I → Others Own S O I
own w (Queued_one frame plain) s old happenings t new =
    (sends : SendsOne w.out old.outbox frame plain new.outbox) × (new ≡ record old { outbox = new.outbox })
    × (happenings ≡ Placed (with_payload frame sends.sealed) ∷ [])

-- Feeding a connection, for any core and its actions at whole frames.
-- Source: this project's.
use Rattle.std.specs.Prelude.{◌≡◌, ◌⊎◌, ◌&&◌, Bool, true, false, ℕ, nat_le, List, [], ◌∷◌, ◌++◌, Option, Some, None, IsSome}
use Rattle.ttrpc_connection.specs.Types.{Error, Incoming, OutboundTransform, InboundTransform, Arrived, InboundResult, Connection, Failure, NoMemory, Outbox}
use Rattle.ttrpc_proto.specs.Framing.Frames.{Fed, given, nothing}
use Rattle.ttrpc_proto.specs.Framing.Queue.{empty_queue, free}
use Rattle.ttrpc_secure.specs.Hooks.Facts.{Facts}
use Rattle.ttrpc_connection.specs.declared.reacts.Reacts.{Ghosts as Reacts}
use Rattle.ttrpc_connection.specs.Failure.{IsTold, error_of}
use Rattle.ttrpc_connection.specs.Frames.{Opens, Sent, SendsAll, header_of_frame}

-- Returns a connection to which nothing came, with nothing to be written and no failure.
abbrev pub new_connection : {O I : Type 0} → Facts → O → I → Connection O I
new_connection known outbound inbound = record {
  decoder = nothing;
  outbox = record { half = outbound; queue = empty_queue; tickets = 0 };
  inbound = inbound;
  failure = None;
  known = known;
}

-- The facts that clauses know about the two halves and the core.
pub record Ways (S O I : Type 0) : Type 1 where
  pub out : OutboundTransform O
  pub in_ : InboundTransform I
  pub core : Reacts S O

-- Returns the facts about these two halves and this core.
abbrev pub ways : {S O I : Type 0} → OutboundTransform O → InboundTransform I → Reacts S O → Ways S O I
ways out in_ core = record { out = out; in_ = in_; core = core }

-- The parts that a whole frame acts on: the state of the core, the outbox, and the half that opens.
pub record Scene (S O I : Type 0) : Type 0 where
  pub state : S
  pub outbox : Outbox O
  pub inbound : I

-- Returns the parts that a whole frame acts on, from the state of a core and its connection.
abbrev pub scene : {S O I : Type 0} → S → Connection O I → Scene S O I
scene state c = record { state = state; outbox = c.outbox; inbound = c.inbound }

-- Returns the frame as the core gets it.
abbrev pub arrived : Incoming → InboundResult → ℕ → Arrived
arrived f opening now = record { header = header_of_frame f; opening = opening; now = now }

-- Returns true if a core takes input and at least as many bytes are free as it asks for.
abbrev pub is_open : {S O I : Type 0} → Ways S O I → S → Outbox O → Bool
is_open w s outbox = w.core.takes s && nat_le w.core.ROOM (free outbox.queue)

-- Holds if one whole frame acts while the core is open. The frame passes the inbound half once, unless it is too long. The core reacts to
-- it, and takes input after it exactly if it did before.
pub record Acts {S O I : Type 0} (w : Ways S O I) (now : ℕ) (old : Scene S O I) (f : Incoming) (new : Scene S O I) : Type 0 where
  pub was_open : is_open w old.state old.outbox ≡ true
  pub opening : InboundResult
  pub opens : Opens w.in_ old.inbound f opening new.inbound
  pub sent : List Sent
  pub reacts : w.core.reacts old.state old.outbox.half (arrived f opening now) sent new.state
  pub sends : SendsAll w.out old.outbox sent new.outbox
  pub takes : w.core.takes new.state ≡ w.core.takes old.state

-- Holds if these frames act, one after the other.
abbrev pub ActsAll : {S O I : Type 0} → Ways S O I → ℕ → Scene S O I → List Incoming → Scene S O I → Type 0
ActsAll w now old [] new = new ≡ old
ActsAll w now old (f ∷ fs) new = (mid : Scene _ _ _) × Acts w now old f mid × ActsAll w now mid fs new

-- Holds if a piece was taken whole at a moment and its frames acted. If the core isn't open any more, the piece ends with a whole frame.
pub record Feeds {S O I : Type 0} (w : Ways S O I) (s : S) (old : Connection O I) (piece : List ℕ) (now : ℕ) (t : S) (new : Connection O I) : Type 0 where
  pub was_open : is_open w s old.outbox ≡ true
  pub alive : old.failure ≡ None
  pub still : new.failure ≡ None
  pub frames : List Incoming
  pub fed : Fed old.decoder piece frames new.decoder
  pub acts : ActsAll w now (scene s old) frames (scene t new)
  pub stops : is_open w t new.outbox ≡ false → new.decoder ≡ nothing

-- Holds if the first bytes of a piece were taken. At most one frame was whole with them, and they end with its last byte.
pub record FeedsFront {S O I : Type 0} (w : Ways S O I) (s : S) (old : Connection O I) (front : List ℕ) (now : ℕ) (t : S) (new : Connection O I) : Type 0 where
  pub was_open : is_open w s old.outbox ≡ true
  pub alive : old.failure ≡ None
  pub still : new.failure ≡ None
  pub frame : Option Incoming
  pub fed : Fed old.decoder front (given frame) new.decoder
  pub at_its_end : IsSome frame → new.decoder ≡ nothing
  pub acts : ActsAll w now (scene s old) (given frame) (scene t new)

-- Holds if a connection may fail for this while it is fed. Memory was refused, and the inbound half is as before.
-- Or the half has opened a frame, and then memory was refused or the core reported this failure.
abbrev pub IsWhy : {S O I : Type 0} → Ways S O I → ℕ → Scene S O I → Option Incoming → Failure → I → Type 0
IsWhy w now old None failure inbound = (failure ≡ NoMemory) × (inbound ≡ old.inbound)
IsWhy w now old (Some f) failure inbound = ((failure ≡ NoMemory) × (inbound ≡ old.inbound))
    ⊎ ((opening : InboundResult) × Opens w.in_ old.inbound f opening inbound × ((failure ≡ NoMemory) ⊎ w.core.fails old.state (arrived f opening now) failure))

-- Holds if the connection took the first bytes of a piece and then failed, at a frame or before the next one was whole. The frames before
-- acted. The frame at which it failed changed nothing but the inbound half, and no later byte was read.
pub record Breaks {S O I : Type 0} (w : Ways S O I) (s : S) (old : Connection O I) (piece : List ℕ) (now : ℕ) (told : Error) (t : S) (new : Connection O I) : Type 0 where
  pub alive : old.failure ≡ None
  pub frames : List Incoming
  pub last : Option Incoming
  pub taken : List ℕ
  pub rest : List ℕ
  pub piece_is : piece ≡ taken ++ rest
  pub fed : Fed old.decoder taken (frames ++ given last) new.decoder
  pub at_its_end : IsSome last → new.decoder ≡ nothing
  pub mid : Scene S O I
  pub acts : ActsAll w now (scene s old) frames mid
  pub was_open : is_open w mid.state mid.outbox ≡ true
  pub state : t ≡ mid.state
  pub outbox : new.outbox ≡ mid.outbox
  pub failure : Failure
  pub why : IsWhy w now mid last failure new.inbound
  pub fails : new.failure ≡ Some failure
  pub is_told : IsTold (error_of failure) told

-- Holds if the connection has failed, and this error reports the failure.
pub record IsFailed (failure : Option Failure) (told : Error) : Type 0 where
  pub why : Failure
  pub is : failure ≡ Some why
  pub is_told : IsTold (error_of why) told

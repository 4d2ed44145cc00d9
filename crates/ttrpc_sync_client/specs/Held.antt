-- How the calls of a client's ports change its core and the turn to read, under the lock.
-- Source: this project's.
use Rattle.std.specs.Prelude.{◌≡◌, ◌⊎◌, ◌<◌, ◌^◌, ◌/◌, ◌%◌, ℕ, List, [], ◌∷◌, Bool, true, false, Option, Some, None, Result, IfSome, is_ok, is_some, nat_eq, nat_le, nat_lt, if◌then◌else◌}
use Rattle.std.specs.Int.{bit_at}
use Rattle.std.specs.List.{list_any}
use Rattle.std.specs.Option.{option_map}
use Rattle.ttrpc_proto.specs.declared.error.Error.{Error}
use Rattle.ttrpc_proto.specs.declared.messages.Request.{Request}
use Rattle.ttrpc_secure.specs.declared.transform.InboundTransform.{Ghosts as InboundTransform}
use Rattle.ttrpc_secure.specs.declared.transform.OutboundTransform.{Ghosts as OutboundTransform}
use Rattle.ttrpc_connection.specs.Deadlines.{deadline_of}
use Rattle.ttrpc_connection.specs.OneEnd.{Takes, lendable}
use Rattle.ttrpc_client.specs.Protocol.{Ticks}
use Rattle.ttrpc_client.specs.State.{due_ids}
use Rattle.ttrpc_client.specs.Inside.{calling}
use Rattle.ttrpc_client.specs.declared.client.ClientCore.{ClientCore}
use Rattle.ttrpc_sync.specs.declared.ends.connected.Taken.{Taken}
use Rattle.ttrpc_sync_client.specs.ReadTurns.{ended, hands_over, reader_next_of, reads_on, turn_reader_next}
use Rattle.ttrpc_sync_client.specs.declared.ports.client.ClientWakeSet.{ClientWakeSet}
use Rattle.ttrpc_sync_client.specs.declared.ports.read_turn.TheConstants.{LONE_FRAME}
use Rattle.ttrpc_sync_client.specs.declared.ports.read_turn.CallShape.{CallShape}
use Rattle.ttrpc_sync_client.specs.declared.ports.read_turn.ReadTurn.{ReadTurn}

-- ---- calls that have ended

-- the place at which the caller of a call waits
abbrev pub place_of : ℕ → ℕ
place_of id = (id / 2) % 16

-- true if the caller of one of these calls waits at this place
abbrev pub waits_at : List ℕ → ℕ → Bool
waits_at ended place = list_any (λ id. nat_eq (place_of id) place) ended

-- the places at which the callers of these calls wait, one bit each
abbrev pub ArePlaces : List ℕ → ℕ → Type 0
ArePlaces ended places = (place : ℕ) → bit_at places place ≡ (if waits_at ended place then 1 else 0)

-- the turn after all of these calls have ended
abbrev pub all_ended : ReadTurn → List ℕ → ReadTurn
all_ended turn [] = turn
all_ended turn (id ∷ ids) = all_ended (ended turn id) ids

-- the core after it has reported all calls that ended
abbrev pub all_told : {O I : Type 0} → ClientCore O I → ClientCore O I
all_told core = record core { state = record core.state { ended = [] } }

-- The core has reported all calls that ended. The turn knows each of them, and these are the places of their callers.
pub record TellsEnded {O I : Type 0} (old : ClientCore O I) (reading : ReadTurn) (places : ℕ) (new : ClientCore O I) (told : ReadTurn) : Type 0 where
  pub core : new ≡ all_told old
  pub turn : told ≡ all_ended reading old.state.ended
  pub callers : ArePlaces old.state.ended places

-- ---- bytes in

-- A piece was fed to the core. If places are given, it was taken, and these are the places of the calls that have ended then. The core has
-- reported these calls.
pub record IsFed {O I : Type 0} (seals : OutboundTransform O) (opens : InboundTransform I) (old : ClientCore O I) (reading : ReadTurn) (piece : List ℕ) (places : Option ℕ) (new : ClientCore O I) (told : ReadTurn) : Type 0 where
  pub fed : ClientCore O I
  pub answer : Result ℕ Error
  pub takes : Takes (calling seals opens) old.state old.connection piece 0 answer fed.state fed.connection
  pub taken : is_ok answer ≡ is_some places
  pub core : new ≡ all_told fed
  pub turn : told ≡ all_ended reading fed.state.ended
  pub callers : IfSome places (ArePlaces fed.state.ended)

-- the places of the callers that are to be woken for a piece
abbrev pub callers_of : Taken ClientWakeSet → ℕ
callers_of taken = taken.woken.callers

-- the reader's action after a piece that was taken; if the piece wasn't taken, the turn is unchanged
abbrev pub GoesOn : ReadTurn → Option (Taken ClientWakeSet) → ReadTurn → Type 0
GoesOn turn None new = new ≡ turn
GoesOn turn (Some taken) new =
    (taken.reads_on ≡ reads_on (reader_next_of turn.reader turn)) × (taken.woken.reader ≡ hands_over (reader_next_of turn.reader turn))
    × (new ≡ turn_reader_next (reader_next_of turn.reader turn) turn)

-- A piece came and was fed, and its reader goes on as it may then.
pub record TakesPiece {O I : Type 0} (seals : OutboundTransform O) (opens : InboundTransform I) (old : ClientCore O I) (reading : ReadTurn) (piece : List ℕ) (given : Option (Taken ClientWakeSet)) (new : ClientCore O I) (after : ReadTurn) : Type 0 where
  pub told : ReadTurn
  pub fed : IsFed seals opens old reading piece (option_map callers_of given) new told
  pub reader_next : GoesOn told given after

-- ---- bytes out

-- true if bytes can be lent
abbrev pub has_bytes : {O I : Type 0} → ClientCore O I → Bool
has_bytes core = nat_lt 0 (lendable core.connection)

-- true if the connection hasn't failed
abbrev pub is_alive : {O I : Type 0} → ClientCore O I → Bool
is_alive core = if is_some core.connection.failure then false else true

-- ---- calls

-- the shape of a call that was made at a moment: whether it may expire, whether nothing waited to be written before it, and whether its
-- frame is short
abbrev pub shape_of : {O I : Type 0} → ClientCore O I → Request → (now : ℕ) → ClientCore O I → CallShape
shape_of old request now new = record {
  has_deadline = is_some (deadline_of now request.timeout_nano);
  is_next = nat_eq (lendable old.connection) 0;
  is_short = nat_le (lendable new.connection) LONE_FRAME;
}

-- no call will ever expire
abbrev pub NeverExpires : {O I : Type 0} → ClientCore O I → Type 0
NeverExpires core = core.connection.failure ≡ None → (now : ℕ) → now < 2 ^ 64 → due_ids now core.state.calls ≡ []

-- A moment came, and the core has reported the calls that ended by then.
pub record TicksAndTells {O I : Type 0} (seals : Bool) (old : ClientCore O I) (reading : ReadTurn) (new : ClientCore O I) (told : ReadTurn) : Type 0 where
  pub now : ℕ
  pub ticked : ClientCore O I
  pub places : ℕ
  pub ticks : Ticks seals old now ticked
  pub tells : TellsEnded ticked reading places new told

-- a moment came and was reported, or no call will ever expire, and nothing changed
abbrev pub HasTicked : {O I : Type 0} → Bool → ClientCore O I → ReadTurn → ClientCore O I → ReadTurn → Type 0
HasTicked seals old reading new told = TicksAndTells seals old reading new told ⊎ (NeverExpires old × (new ≡ old) × (told ≡ reading))

-- Frames in flight from one core to another: their bytes in a pipe, their seals that are still to be opened, and the frames of one
-- stream.
-- Source: this project's.
use Rattle.std.specs.Prelude.{◌≡◌, ◌≤◌, ℕ, Bool, false, true, not, if◌then◌else◌, nat_eq, List, [], ◌∷◌, ◌++◌, length, map, take, drop}
use Rattle.std.specs.List.{AllByRecursion, filter}
use Rattle.ttrpc_proto.specs.declared.framing.header.TheConstants.{MESSAGE_LENGTH_MAX}
use Rattle.ttrpc_proto.specs.Framing.Header.{FitsHeader}
use Rattle.ttrpc_proto.specs.declared.framing.frame.Incoming.{Incoming}
use Rattle.ttrpc_proto.specs.declared.framing.frame.Incoming.TheVariants.{Frame}
use Rattle.ttrpc_proto.specs.declared.framing.outgoing.Queued.{Queued}
use Rattle.ttrpc_proto.specs.Framing.Frames.{Held, Holds}
use Rattle.ttrpc_proto.specs.Framing.Queue.{Queue, IsQueue, is_request_of, open_part, written_all}
use Rattle.ttrpc_secure.specs.Halves.{Moves, Refusals, IsPaired}
use Rattle.ttrpc_secure.specs.Sends.{associated}
use Rattle.ttrpc_connection.specs.declared.arrived.InboundResult.TheVariants.{Opened}
use Rattle.ttrpc_connection.specs.Frames.{Sent, SendsAll}
use Rattle.ttrpc_connection.specs.Feeds.{Ways, Scene}

-- A frame in flight: the sealed frame as it was queued, and the data that were sealed. A frame is in flight after it is queued, until
-- the other core has all of it or it is thrown away.
pub record Flying : Type 0 where
  pub frame : Queued
  pub plain : List ℕ

-- Returns the frames as they were queued.
abbrev pub frames_of : List Flying → List Queued
frames_of flights = map Flying.frame flights

-- Returns the frame as it comes in.
abbrev pub arrived : Flying → Incoming
arrived x = Frame x.frame.message

-- ---- the bytes

-- Holds if a frame reads back from its written form.
pub record IsSound (f : Queued) : Type 0 where
  pub fits : FitsHeader f.message.header
  pub stated : f.message.header.length ≡ length f.message.payload
  pub short : length f.message.payload ≤ MESSAGE_LENGTH_MAX

-- Holds if each of these frames in flight reads back from its written form.
abbrev pub AreSound : List Flying → Type 0
AreSound flights = AllByRecursion (λ (x : Flying). IsSound x.frame) flights

-- Returns the bytes in a pipe after n more bytes of the first frame left. A pipe that was cut loses them.
abbrev pub bytes_after_carry : Bool → List ℕ → ℕ → Queue → List ℕ
bytes_after_carry cut pipe n q = if cut then pipe else pipe ++ take n (open_part q)

-- THE BYTES IN FLIGHT. The bytes that one core holds, the bytes in the pipe to it, and the bytes lost by a cut follow each other.
-- Holds if they are the written forms of the frames in transit, and then the reported bytes of the other core's first queued frame.
-- The frames in transit were reported whole and aren't yet taken by the receiving core.
pub record AreInFlight (held : Held) (pipe : List ℕ) (cut : Bool) (q : Queue) (transit queued : List Flying) : Type 0 where
  pub valid : IsQueue q
  pub same : frames_of queued ≡ q.frames
  pub sound : AreSound (transit ++ queued)
  pub before : List ℕ
  pub holds : Holds held before
  pub lost : List ℕ
  pub bytes : before ++ (pipe ++ lost) ≡ written_all (frames_of transit) ++ take q.reported (written_all q.frames)
  pub uncut : cut ≡ false → lost ≡ []

-- ---- what is thrown away

-- Returns the first n of these frames in flight, and all others that aren't unary requests of these owners.
abbrev pub flying_without : (ℕ → Bool) → ℕ → List Flying → List Flying
flying_without owners n flights = take n flights ++ filter (λ (x : Flying). not (is_request_of owners x.frame)) (drop n flights)

-- ---- the seals

-- Holds if sealing these frames, one after the other, changes the half from s to t.
abbrev pub Chain : {O : Type 0} → Moves O → O → List Flying → O → Type 0
Chain seals s [] t = t ≡ s
Chain seals s (x ∷ xs) t = (mid : _) × seals s x.plain (associated x.frame.message.header) x.frame.message.payload mid × Chain seals mid xs t

-- THE SEALS IN FLIGHT. Holds if the outbound half reached its state by sealing these frames, in order, from a state that is paired
-- with the other core's inbound half.
pub record AreLinked {O I : Type 0} (seals : Moves O) (opens : Moves I) (refuses : Refusals I) (flights : List Flying) (out : O) (in_ : I) : Type 0 where
  pub start : O
  pub paired : IsPaired seals opens refuses start in_
  pub chain : Chain seals start flights out

-- ---- one stream

-- Returns the frames in flight of one stream id.
abbrev pub parcels : ℕ → List Flying → List Flying
parcels k flights = filter (λ (x : Flying). nat_eq x.frame.message.header.stream_id k) flights

-- Holds if a frame is owned by its own stream id, or isn't a unary request.
abbrev pub IsOwned : Flying → Type 0
IsOwned x = x.frame.is_unary_request ≡ true → x.frame.owner ≡ x.frame.message.header.stream_id

-- ---- frames that act

-- Holds if each frame acts, in order, as opened to the data that were sealed.
abbrev pub ActsOn : {S O I : Type 0} → Ways S O I → ℕ → Scene S O I → List Flying → Scene S O I → Type 0
ActsOn w now old [] new = new ≡ old
ActsOn {S} {O} {I} w now old (x ∷ xs) new =
    (mid : Scene S O I) × (sent : List Sent)
    × w.core.reacts old.state old.outbox.half (record { header = x.frame.message.header; opening = Opened x.plain; now = now }) sent mid.state
    × SendsAll w.out old.outbox sent mid.outbox × ActsOn w now mid xs new

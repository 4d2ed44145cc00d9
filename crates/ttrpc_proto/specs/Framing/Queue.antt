-- The frames still to be written, in order, the state of the first of them, and the events of a queue over time.
-- Source: PROTOCOL.md of ttrpc, "Message Frame".
use Rattle.std.specs.Prelude.{◌≡◌, ◌≤◌, ◌<◌, ◌+◌, ◌-◌, ◌%◌, ◌^◌, ◌&&◌, ◌||◌, ◌⊎◌, not, ℕ, Bool, true, false, if◌then◌else◌, nat_lt, nat_le, nat_eq, List, [], ◌∷◌, ◌++◌, length, take, drop, filter, sum, Option, None, Some}
use Rattle.std.specs.List.{flat_map}
use Rattle.ttrpc_proto.specs.declared.framing.gen_message.GenMessage.{GenMessage}
use Rattle.ttrpc_proto.specs.declared.framing.outgoing.Queued.{Queued}
use Rattle.ttrpc_proto.specs.declared.framing.outgoing.TheConstants.{OUTGOING_LENGTH_MAX}
use Rattle.ttrpc_proto.specs.Framing.Header.{header_bytes}

-- Returns a frame's bytes: the header unchanged, and the payload.
unfoldable pub written : GenMessage → List ℕ
written m = header_bytes m.header ++ m.payload

-- Returns the bytes of frames, one after the other.
abbrev pub written_all : List Queued → List ℕ
written_all frames = flat_map (λ f. written f.message) frames

-- The frames still to be written, and the state of the first of them.
pub record Queue : Type 0 where
  pub frames : List Queued
  -- the number of bytes of the first frame that were reported as written
  pub reported : ℕ
  -- the number of bytes that the last call lent since the last report
  pub lent : ℕ
  -- true if a byte of the first frame was ever lent
  pub begun : Bool
  -- the ticket of the last frame with one that was reported whole, or 0 before the first
  pub sent : ℕ
  -- for each frame, the number of bytes of frames that were thrown away and are held directly after it; 0 if the list is shorter
  pub gone : List ℕ

-- Returns the first frame's bytes from a place on.
abbrev pub first_open : List Queued → ℕ → List ℕ
first_open [] n = []
first_open (f ∷ fs) n = drop n (written f.message)

-- Returns the bytes that are left of the first frame.
abbrev pub open_part : Queue → List ℕ
open_part q = first_open q.frames q.reported

-- Returns all bytes still to be written.
abbrev pub unsent : Queue → List ℕ
unsent q = drop q.reported (written_all q.frames)

-- ---- The number of held bytes

-- Returns the first of these numbers, or 0 if there are none.
abbrev pub first_gone : List ℕ → ℕ
first_gone [] = 0
first_gone (n ∷ ns) = n

-- Returns the numbers with n before them, or no numbers if n is 0 and there are no others.
abbrev pub in_front : ℕ → List ℕ → List ℕ
in_front n [] = if nat_eq n 0 then [] else n ∷ []
in_front n (m ∷ ms) = n ∷ m ∷ ms

-- Returns the numbers without the zeros at their end.
abbrev pub trimmed : List ℕ → List ℕ
trimmed [] = []
trimmed (n ∷ ns) = in_front n (trimmed ns)

-- Returns the number of held bytes: the bytes still to be written, and the bytes of frames that were thrown away after a frame that
-- stays.
abbrev pub held : Queue → ℕ
held q = length (unsent q) + sum q.gone

-- Returns the number of free bytes.
abbrev pub free : Queue → ℕ
free q = OUTGOING_LENGTH_MAX - held q

-- ---- The invariant of every queue

-- Holds if n is less than the number of bytes in the first frame, or 0 if there is no frame.
abbrev pub IsWithin : List Queued → ℕ → Type 0
IsWithin [] n = n ≡ 0
IsWithin (f ∷ fs) n = n < length (written f.message)

-- Holds for every queue: no more was reported and lent than the first frame has, and only of a frame that has begun.
pub record IsQueue (q : Queue) : Type 0 where
  pub within : IsWithin q.frames q.reported
  pub lent : q.lent ≤ length (open_part q)
  pub fresh : q.begun ≡ false → (q.reported ≡ 0) × (q.lent ≡ 0)
  pub none : q.frames ≡ [] → q.begun ≡ false
  pub gone : length q.gone ≤ length q.frames
  pub no_zero : trimmed q.gone ≡ q.gone

-- The queue of no frames.
abbrev pub empty_queue : Queue
empty_queue = record { frames = []; reported = 0; lent = 0; begun = false; sent = 0; gone = [] }

-- Returns the queue with the frame after the others.
abbrev pub with_frame : Queue → Queued → Queue
with_frame q f = record q { frames = q.frames ++ f ∷ [] }

-- Returns the queue after n bytes of the first frame were lent.
abbrev pub with_lent : Queue → ℕ → Queue
with_lent q n = record q { lent = n; begun = q.begun || nat_lt 0 n }

-- Returns the last ticket after one more frame, which has this ticket or none.
abbrev pub ticket_after : Option ℕ → ℕ → ℕ
ticket_after None last = last
ticket_after (Some ticket) last = ticket

-- Returns the last ticket after the first of these frames, if there is one.
abbrev pub first_ticket : List Queued → ℕ → ℕ
first_ticket [] last = last
first_ticket (f ∷ fs) last = ticket_after f.ticket last

-- Returns the queue of these frames with n bytes of the first frame reported in all.
abbrev pub report_first : List Queued → ℕ → Bool → ℕ → List ℕ → Queue
report_first [] n begun sent gone = record { frames = []; reported = 0; lent = 0; begun = false; sent = sent; gone = gone }
report_first (f ∷ fs) n begun sent gone = if nat_lt n (length (written f.message)) then record { frames = f ∷ fs; reported = n; lent = 0; begun = begun; sent = sent; gone = gone } else record { frames = fs; reported = 0; lent = 0; begun = false; sent = ticket_after f.ticket sent; gone = drop 1 gone }

-- Returns the queue after n more bytes of the first frame were reported. A frame that was reported whole is gone, with the bytes that
-- are held directly after it, and the next frame hasn't begun.
abbrev pub after_report : Queue → ℕ → Queue
after_report q n = report_first q.frames (q.reported + n) q.begun q.sent q.gone

-- Returns the number of frames that have begun: 1 for the first frame, or 0.
abbrev pub begun_count : Queue → ℕ
begun_count q = if q.begun then 1 else 0

-- Returns true if there is a last frame that hasn't begun.
abbrev pub last_may_change : Queue → Bool
last_may_change q = nat_lt (begun_count q) (length q.frames)

-- Returns the frame with this payload, and with its length modulo 2^32 in the header.
abbrev pub with_payload : Queued → List ℕ → Queued
with_payload f payload = record f { message = record { header = record f.message.header { length = length payload % 2 ^ 32 }; payload = payload } }

-- Returns the frames with this payload in the last one.
abbrev pub last_filled : List Queued → List ℕ → List Queued
last_filled [] payload = []
last_filled (f ∷ []) payload = with_payload f payload ∷ []
last_filled (f ∷ g ∷ fs) payload = f ∷ last_filled (g ∷ fs) payload

-- Returns true if the last frame may get this payload: the frame hasn't begun, and the payload's bytes are free.
abbrev pub may_fill : Queue → List ℕ → Bool
may_fill q payload = last_may_change q && nat_le (length payload) (free q)

-- Returns the queue with this payload in the last frame, if the frame may get it.
abbrev pub filled : Queue → List ℕ → Queue
filled q payload = if may_fill q payload then record q { frames = last_filled q.frames payload } else q

-- Returns the queue without the last frame and the bytes that are held after it. Nothing changes if the frame has begun or there is
-- none.
abbrev pub withdrawn : Queue → Queue
withdrawn q = if last_may_change q then record q { frames = take (length q.frames - 1) q.frames; gone = trimmed (take (length q.frames - 1) q.gone) } else q

-- ---- Requests of some owners are thrown away

-- Returns true if the frame is a unary request of one of these owners.
abbrev pub is_request_of : (ℕ → Bool) → Queued → Bool
is_request_of owners f = f.is_unary_request && owners f.owner

-- Returns true if there is a first frame and it is a unary request of one of these owners.
abbrev pub first_is_request_of : (ℕ → Bool) → List Queued → Bool
first_is_request_of owners [] = false
first_is_request_of owners (f ∷ fs) = is_request_of owners f

-- Returns true if the first frame is a unary request of one of these owners and has begun.
abbrev pub has_begun : Queue → (ℕ → Bool) → Bool
has_begun q owners = q.begun && first_is_request_of owners q.frames

-- Returns the frames that aren't unary requests of these owners.
abbrev pub frames_without : (ℕ → Bool) → List Queued → List Queued
frames_without owners frames = filter (λ f. not (is_request_of owners f)) frames

-- Returns the number of bytes that are gone with the first of these frames, up to one that stays: their own bytes, and the bytes held
-- after them.
abbrev pub gone_first : (ℕ → Bool) → List Queued → List ℕ → ℕ
gone_first owners [] gone = 0
gone_first owners (f ∷ fs) gone = if is_request_of owners f then length (written f.message) + first_gone gone + gone_first owners fs (drop 1 gone) else 0

-- Returns, for each of these frames that stays, the number of bytes that are held after it then.
abbrev pub gone_behind : (ℕ → Bool) → List Queued → List ℕ → List ℕ
gone_behind owners [] gone = []
gone_behind owners (f ∷ fs) gone = if is_request_of owners f then gone_behind owners fs (drop 1 gone) else in_front (first_gone gone + gone_first owners fs (drop 1 gone)) (gone_behind owners fs (drop 1 gone))

-- Returns the same numbers, but the first frame stays if it has begun.
abbrev pub gone_after : (ℕ → Bool) → Bool → List Queued → List ℕ → List ℕ
gone_after owners false fs gone = gone_behind owners fs gone
gone_after owners true [] gone = gone
gone_after owners true (f ∷ fs) gone = in_front (first_gone gone + gone_first owners fs (drop 1 gone)) (gone_behind owners fs (drop 1 gone))

-- Returns the queue without the unary requests of these owners that haven't begun. The others keep their order. The bytes of the
-- requests are held until the frame before them leaves. If there is none, they are free at once.
abbrev pub without : Queue → (ℕ → Bool) → Queue
without q owners = record q { frames = take (begun_count q) q.frames ++ frames_without owners (drop (begun_count q) q.frames); gone = gone_after owners q.begun q.frames q.gone }

-- ---- Tickets

-- Holds if a frame has no ticket, or has the ticket after this one and isn't a unary request.
abbrev pub IsNext : Option ℕ → Bool → ℕ → Type 0
IsNext None is_unary_request last = Unit {0}
IsNext (Some ticket) is_unary_request last = (ticket ≡ last + 1) × (is_unary_request ≡ false)

-- Holds if the tickets of frames are, in order, the numbers after the first number up to the second.
abbrev pub AreNumbered : ℕ → List Queued → ℕ → Type 0
AreNumbered from [] to = from ≡ to
AreNumbered from (f ∷ fs) to = IsNext f.ticket f.is_unary_request from × AreNumbered (ticket_after f.ticket from) fs to

-- Returns true if this is the ticket that a frame has.
abbrev pub is_ticket : ℕ → Option ℕ → Bool
is_ticket t None = false
is_ticket t (Some ticket) = nat_eq ticket t

-- Returns true if one of the frames has this ticket.
abbrev pub has_ticket : ℕ → List Queued → Bool
has_ticket t [] = false
has_ticket t (f ∷ fs) = is_ticket t f.ticket || has_ticket t fs

-- Returns the last ticket after these frames.
abbrev pub last_ticket : List Queued → ℕ → ℕ
last_ticket [] last = last
last_ticket (f ∷ fs) last = last_ticket fs (ticket_after f.ticket last)

-- ---- The events of a queue over time

-- An event of a queue.
pub data Happening : Type 0 where
  -- a frame is queued
  Placed : Queued → Happening
  -- this many bytes of the first frame are lent
  Lent : ℕ → Happening
  -- this many of the lent bytes are reported as written
  Reported : ℕ → Happening
  -- the unary requests of these owners that haven't begun are thrown away
  Thrown : (ℕ → Bool) → Happening

-- Returns the queue after an event.
abbrev pub after : Queue → Happening → Queue
after q (Placed f) = with_frame q f
after q (Lent n) = with_lent q n
after q (Reported n) = after_report q n
after q (Thrown owners) = without q owners

-- Returns the bytes that leave at an event.
abbrev pub bytes_left : Queue → Happening → List ℕ
bytes_left q (Placed f) = []
bytes_left q (Lent n) = []
bytes_left q (Reported n) = take n (open_part q)
bytes_left q (Thrown owners) = []

-- Returns the first frame, if it is whole when n of its bytes are reported.
abbrev pub report_finishes : List Queued → ℕ → List Queued
report_finishes [] n = []
report_finishes (f ∷ fs) n = if nat_lt n (length (written f.message)) then [] else f ∷ []

-- Returns the frame that is whole after an event, if there is one.
abbrev pub finished_by : Queue → Happening → List Queued
finished_by q (Placed f) = []
finished_by q (Lent n) = []
finished_by q (Reported n) = report_finishes q.frames (q.reported + n)
finished_by q (Thrown owners) = []

-- Returns the frames that are thrown away at an event.
abbrev pub thrown_by : Queue → Happening → List Queued
thrown_by q (Placed f) = []
thrown_by q (Lent n) = []
thrown_by q (Reported n) = []
thrown_by q (Thrown owners) = filter (is_request_of owners) (drop (begun_count q) q.frames)

-- Returns the frame that is queued at an event, if there is one.
abbrev pub placed_by : Happening → List Queued
placed_by (Placed f) = f ∷ []
placed_by (Lent n) = []
placed_by (Reported n) = []
placed_by (Thrown owners) = []

-- Holds if an event may happen: no more bytes are lent than are left of the first frame, and no more are reported than are lent.
abbrev pub MayHappen : Queue → Happening → Type 0
MayHappen q (Placed f) = Unit {0}
MayHappen q (Lent n) = n ≤ length (open_part q)
MayHappen q (Reported n) = n ≤ q.lent
MayHappen q (Thrown owners) = Unit {0}

-- Holds if each event of a history may happen.
abbrev pub Allowed : Queue → List Happening → Type 0
Allowed q [] = Unit {0}
Allowed q (h ∷ hs) = MayHappen q h × Allowed (after q h) hs

-- Returns the queue at the end of a history.
abbrev pub after_all : Queue → List Happening → Queue
after_all q [] = q
after_all q (h ∷ hs) = after_all (after q h) hs

-- Returns the bytes that leave over a history, in order.
abbrev pub all_bytes_left : Queue → List Happening → List ℕ
all_bytes_left q [] = []
all_bytes_left q (h ∷ hs) = bytes_left q h ++ all_bytes_left (after q h) hs

-- Returns the frames that were reported whole over a history, in order.
abbrev pub finished : Queue → List Happening → List Queued
finished q [] = []
finished q (h ∷ hs) = finished_by q h ++ finished (after q h) hs

-- Returns the frames that depart over a history: each frame that is reported whole, and after these the frames that are queued at the
-- end.
abbrev pub departing : Queue → List Happening → List Queued
departing q [] = q.frames
departing q (h ∷ hs) = finished_by q h ++ departing (after q h) hs

-- Returns the frames that are thrown away over a history, in the order of the events.
abbrev pub thrown : Queue → List Happening → List Queued
thrown q [] = []
thrown q (h ∷ hs) = thrown_by q h ++ thrown (after q h) hs

-- Returns the frames that are queued over a history, in order.
abbrev pub placed : List Happening → List Queued
placed hs = flat_map placed_by hs

-- Holds if the items of two lists make up the third, and keep their order: each is the next of the first or of the second.
abbrev pub IsMerge : {X : Type 0} → List X → List X → List X → Type 0
IsMerge xs ys [] = (xs ≡ []) × (ys ≡ [])
IsMerge {X} xs ys (z ∷ zs) = ((rest : List X) × (xs ≡ z ∷ rest) × IsMerge rest ys zs) ⊎ ((rest : List X) × (ys ≡ z ∷ rest) × IsMerge xs rest zs)

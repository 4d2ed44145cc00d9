-- What is in flight one way, from an outbox to a connection, as bytes and as seals, and what becomes of it.
use Rattle.ttrpc_world.proofs.Words.{[], act_as_sent, ActsAll, ActsOn, after_report, ap, append_assoc, AreInFlight, AreLinked, arrived, associated, Bool, BreaksAt, carried_in_flight, Connection, cut_in_flight, cut_to, Disconnected, DisconnectedInside, drop, empty_pipe, empty_queue, Error, failing, Failure, false, Fed, fed_in_flight, Feeds, first_failure, Flying, given, Hears, Held, InboundTransform, Incoming, inl, inr, IsPaired, IsSound, length, List, map, min, more_linked, None, none_in_flight, none_linked, nothing, open_part, Option, OutboundTransform, Outbox, Pipe, pipe_after_carry, placed_in_flight, Queue, refl, Scene, scene, Some, suc, sym, take, take-append-drop, take-map, take_at, taken_from, true, Ways, with_frame, with_lent, zero, ℕ, ◌++◌, ◌∙◌, ◌∷◌, ◌≡◌, ◌≢◌, ◌≤◌, ◌⊎◌}

-- these flights are in transit, and behind them queued
pub record InFlight (held : Held) (p : Pipe) (q : Queue) (flights : List Flying) : Type 0 where
  pub transit : List Flying
  pub queued : List Flying
  pub all : transit ++ queued ≡ flights
  pub bytes : AreInFlight held p.bytes p.cut q transit queued

-- A side that failed takes no more, so nothing need be said of what is still in flight to it.
pub record OneWay {XO YO YI : Type 0} (out : OutboundTransform XO) (in_ : InboundTransform YI) (x : Outbox XO) (y : Connection YO YI) (p : Pipe) (flights : List Flying) : Type 0 where
  pub bytes : y.failure ≡ None → InFlight y.decoder p x.queue flights
  pub linked : y.failure ≡ None → AreLinked out.seals in_.opens in_.refuses flights x.half y.inbound

-- ---- bytes that come

-- what came are the first flights, and the others still are in flight
record Came (incoming : List Incoming) (new : Held) (later : List ℕ) (p : Pipe) (q : Queue) (flights : List Flying) : Type 0 where
  front : List Flying
  rest : List Flying
  all : front ++ rest ≡ flights
  are : incoming ≡ map arrived front
  bytes : InFlight new (record p { bytes = later }) q rest

came : (held : Held) (p : Pipe) (q : Queue) (flights : List Flying) (taken later : List ℕ) (incoming : List Incoming) (new : Held) → p.bytes ≡ taken ++ later → Fed held taken incoming new → InFlight held p q flights → Came incoming new later p q flights
came held p q flights taken later incoming new pipe fed b =
    let f = fed_in_flight held p.bytes p.cut q b.transit b.queued taken later incoming new pipe fed b.bytes in
    record {
      front = f.0;
      rest = f.1 ++ b.queued;
      all = sym (append_assoc f.0 f.1 b.queued) ∙ ap (λ xs. xs ++ b.queued) (sym f.2) ∙ b.all;
      are = f.3;
      bytes = record { transit = f.1; queued = b.queued; all = refl; bytes = f.4 };
    }

-- The first flights have acted as they were sent, and the seals of the others still are in flight.
pub record Lands {S XO YO YI : Type 0} (out : OutboundTransform XO) (w : Ways S YO YI) (now : ℕ) (x : Outbox XO) (old new : Scene S YO YI) (flights : List Flying) : Type 0 where
  pub front : List Flying
  pub rest : List Flying
  pub all : front ++ rest ≡ flights
  pub acts : ActsOn w now old front new
  pub linked : AreLinked out.seals w.in_.opens w.in_.refuses rest x.half new.inbound

module _ {S XO YO YI : Type 0} (out : OutboundTransform XO) (w : Ways S YO YI) (now : ℕ) (s : S) (x : Outbox XO) (y : Connection YO YI) (p : Pipe) (flights : List Flying) where
  lands : (front rest : List Flying) (incoming : List Incoming) (new : Scene S YO YI) → front ++ rest ≡ flights → incoming ≡ map arrived front → AreLinked out.seals w.in_.opens w.in_.refuses flights x.half y.inbound
      → ActsAll w now (scene s y) incoming new → Lands out w now x (scene s y) new flights
  lands front rest incoming new all are linked acts =
      let sent = act_as_sent out.seals w now front rest x.half (scene s y) new (rw all linked) (rw (← are) acts) in
      record { front = front; rest = rest; all = all; acts = sent.0; linked = sent.1 }

  -- a piece is taken whole
  pub feeds_land : (k : ℕ) (t : S) (new : Connection YO YI) → OneWay out w.in_ x y p flights → Feeds w s y (take k p.bytes) now t new
      → (l : Lands out w now x (scene s y) (scene t new) flights) × InFlight new.decoder (taken_from p k) x.queue l.rest
  unfolding lands
  feeds_land k t new way f =
      let c = came y.decoder p x.queue flights (take k p.bytes) (drop k p.bytes) f.frames new.decoder (sym (take-append-drop k p.bytes)) f.fed (way.bytes f.alive) in
      (lands c.front c.rest f.frames (scene t new) c.all c.are (way.linked f.alive) f.acts, c.bytes)

  -- the side fails at the piece
  pub breaks_land : (n : ℕ) (told : Error) (t : S) (new : Connection YO YI) → OneWay out w.in_ x y p flights → (f : BreaksAt w s y p now n told t new) → Lands out w now x (scene s y) f.mid flights
  breaks_land n told t new way f =
      let m : ℕ = min n (length p.bytes) in
      let pipe : p.bytes ≡ f.taken ++ (f.rest ++ drop m p.bytes) =
      sym (take-append-drop m p.bytes) ∙ ap (λ xs. xs ++ drop m p.bytes) f.piece_is ∙ append_assoc f.taken f.rest (drop m p.bytes) in
      let c = came y.decoder p x.queue flights f.taken (f.rest ++ drop m p.bytes) (f.frames ++ given f.last) new.decoder pipe f.fed (way.bytes f.alive) in
      let acted : ℕ = length f.frames in
      lands (take acted c.front) (drop acted c.front ++ c.rest) f.frames f.mid
      (sym (append_assoc (take acted c.front) (drop acted c.front) c.rest) ∙ ap (λ xs. xs ++ c.rest) (take-append-drop acted c.front) ∙ c.all)
      (sym (take_at f.frames (given f.last) acted refl) ∙ ap (take acted) c.are ∙ take-map arrived acted c.front) (way.linked f.alive) f.acts

-- ---- what becomes of a way

module _ {XO YO YI : Type 0} (out : OutboundTransform XO) (in_ : InboundTransform YI) where
  -- nothing was sent yet
  pub starts : {XI : Type 0} (x : Connection XO XI) (y : Connection YO YI) (p : Pipe) → x.outbox.queue ≡ empty_queue → y.decoder ≡ nothing → p ≡ empty_pipe → IsPaired out.seals in_.opens in_.refuses x.outbox.half y.inbound
      → OneWay out in_ x.outbox y p []
  starts x y p queue held pipe paired = record {
    bytes = λ alive. rw (queue, held, pipe) (record { transit = []; queued = []; all = refl; bytes = none_in_flight });
    linked = λ alive. none_linked out.seals in_.opens in_.refuses x.outbox.half y.inbound paired;
  }

  -- the side to which it goes has failed
  pub dead : (x : Outbox XO) (y : Connection YO YI) (p : Pipe) (flights : List Flying) → (y.failure ≡ None → ⊥) → OneWay out in_ x y p flights
  dead x y p flights failed = record { bytes = λ alive. absurd (failed alive); linked = λ alive. absurd (failed alive) }

  -- nothing changed of which it is
  pub goes_on : (x x2 : Outbox XO) (y y2 : Connection YO YI) (p : Pipe) (flights : List Flying) → x2 ≡ x → y2.decoder ≡ y.decoder → y2.inbound ≡ y.inbound → (y2.failure ≡ None → y.failure ≡ None)
      → OneWay out in_ x y p flights → OneWay out in_ x2 y2 p flights
  goes_on x x2 y y2 p flights outbox held inbound lives way =
      record { bytes = λ alive. rw (outbox, held) (way.bytes (lives alive)); linked = λ alive. rw (outbox, inbound) (way.linked (lives alive)) }

  -- one more is sent
  pub joins : (x x2 : Outbox XO) (y : Connection YO YI) (p : Pipe) (flights : List Flying) (f : Flying) → x2.queue ≡ with_frame x.queue f.frame
      → out.seals x.half f.plain (associated f.frame.message.header) f.frame.message.payload x2.half → IsSound f.frame → OneWay out in_ x y p flights → OneWay out in_ x2 y p (flights ++ f ∷ [])
  joins x x2 y p flights f queue seal sound way = record {
    bytes = λ alive. let b = way.bytes alive in record {
      transit = b.transit;
      queued = b.queued ++ f ∷ [];
      all = sym (append_assoc b.transit b.queued (f ∷ [])) ∙ ap (λ xs. xs ++ f ∷ []) b.all;
      bytes = rw queue (placed_in_flight y.decoder p.bytes p.cut x.queue b.transit b.queued f sound b.bytes);
    };
    linked = λ alive. more_linked out.seals in_.opens in_.refuses flights x.half y.inbound f x2.half (way.linked alive) seal;
  }

  -- bytes are carried
  pub carries : (x : Outbox XO) (y : Connection YO YI) (p : Pipe) (flights : List Flying) (k : ℕ) → k ≤ length (open_part x.queue) → OneWay out in_ x y p flights
      → OneWay out in_ (record x { queue = after_report (with_lent x.queue k) k }) y (pipe_after_carry p k x.queue) flights
  carries x y p flights k fits way = record {
    bytes = λ alive.
        let b = way.bytes alive in
        let m = carried_in_flight y.decoder p.bytes p.cut x.queue b.transit b.queued k fits b.bytes in
        record { transit = m.0; queued = m.1; all = m.2 ∙ b.all; bytes = m.3 };
    linked = way.linked;
  }

  -- the pipe is cut
  pub cuts : (x : Outbox XO) (y : Connection YO YI) (p : Pipe) (flights : List Flying) (keep : ℕ) → OneWay out in_ x y p flights → OneWay out in_ x y (cut_to p keep) flights
  cuts x y p flights keep way = record {
    bytes = λ alive. let b = way.bytes alive in record { transit = b.transit; queued = b.queued; all = b.all; bytes = cut_in_flight y.decoder p.bytes p.cut x.queue b.transit b.queued keep b.bytes };
    linked = way.linked;
  }

-- ---- a failure is kept

pub not_both : {X : Type 0} (failure : Option X) (x : X) → failure ≡ Some x → failure ≡ None → ⊥
not_both failure x a b = let bad : Some x ≡ None = sym a ∙ b in cc

pub kept_some : (failure : Option Failure) (why : Failure) → first_failure failure why ≡ None → ⊥
kept_some None why e = cc
kept_some (Some first) why e = cc

-- what is held is nothing, or isn't
cases_of : (bytes : List ℕ) (counted : ℕ) → (record { bytes = bytes; counted = counted } ≡ nothing) ⊎ (record { bytes = bytes; counted = counted } ≢ nothing)
cases_of [] zero = inl refl
cases_of [] (suc n) = inr (λ e. let bad : suc n ≡ zero = ap Held.counted e in cc)
cases_of (b ∷ bytes) counted = inr (λ e. let bad : b ∷ bytes ≡ [] = ap Held.bytes e in cc)

pub either_way : {P : Type 0} (h : Held) → (h ≡ nothing → P) → (h ≢ nothing → P) → P
either_way h none some = elim (cases_of h.bytes h.counted) [
  | inl e ↦ none e
  | inr e ↦ some e
]

-- a side whose pipe may be over is as it was, or has failed
pub as_heard : {O I : Type 0} (P : Connection O I → Type 0) (over : Bool) (old new : Connection O I) → Hears over old new → P old → ((why : Failure) → P (failing old why)) → P new
as_heard P true old new h same fails = either_way old.decoder (λ none. rw (h.between none) (fails Disconnected)) (λ some. rw (h.inside some) (fails DisconnectedInside))
as_heard P false old new h same fails = rw h same

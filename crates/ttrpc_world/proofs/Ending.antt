-- THE FOUR ZEROS: at the end of a clean drained run both queues and both pipes are empty, and nothing is in flight.
use Rattle.ttrpc_world.proofs.Sentences.{begins, Stands, step_on}
use Rattle.ttrpc_world.proofs.Cleanly.{first_step, fresh_run, IsCleanRun, later_run}
use Rattle.ttrpc_world.proofs.Keeps.{AreSteady, Keeps}
use Rattle.ttrpc_world.proofs.Living.{fed_or_short, fed_whole, last_four}
use Rattle.std.proofs.lemmas.Bool.{cases_lt}
use Rattle.std.specs.Prelude.{nat_le}
use Rattle.ttrpc_proto.specs.Framing.Queue.{free}
use Rattle.ttrpc_proto.proofs.Queues.{all_free}
use Rattle.ttrpc_world.proofs.OneWay.{OneWay}
use Rattle.ttrpc_world.proofs.Numbers.{streams_of}
use Rattle.ttrpc_world.proofs.Words.{[], ActsAll, all_has_come, ap, AreClean, arith, Bool, Carry, Client, ClientSide, Connection, Count, Deliver, Delivers, drop, Entry, Failure, false, Fed, Flying, Halves, InboundTransform, Incoming, inl, inr, is_open, IsDrained, IsEmpty, IsFresh, IsOpen, IsQueue, length, lent_of, List, Lives, min, Net, nil_from_length, no_frames_come, None, none_reported, none_to_lend, open_part, Option, other, OutboundTransform, Outbox, Pipe, Queue, Queued, refl, Rules, Runs, safe_limit, Scene, scene, Server, ServerSide, serving, Settings, Side, Some, Steps, subst, sym, take, true, Feeds, Ways, ℕ, ◌++◌, ◌<◌, ◌∙◌, ◌∷◌, ◌≡◌}

-- ---- nothing was lent, and nothing was taken

pub lent_alive : (failure : Option Failure) (n k : ℕ) (q : Queue) → failure ≡ None → k ≡ lent_of failure n q → k ≡ min n (length (open_part q))
lent_alive None n k q e h = h
lent_alive (Some why) n k q e h = cc

-- A DELIVERY OF NO BYTES DOES NOTHING: it changes neither the core nor what it sends.
acts_on_none : {S O I : Type 0} (w : Ways S O I) (now : ℕ) (frames : List Incoming) (old new : Scene S O I) → frames ≡ [] → ActsAll w now old frames new → new ≡ old
acts_on_none w now [] old new e acts = acts
acts_on_none w now (f ∷ fs) old new e acts = cc

feeds_none : {S O I XO : Type 0} {out : OutboundTransform XO} {w : Ways S O I} {s t : S} {x : Outbox XO} {old new : Connection O I} {p : Pipe} {flights : List Flying} {now k : ℕ} → OneWay out w.in_ x old p flights → k ≡ 0 → Feeds w s old (take k p.bytes) now t new → scene t new ≡ scene s old
feeds_none {w = w} {s} {t} {old = old} {new} {p} {now = now} way e f =
    let b = (way.bytes f.alive).bytes in
    let fed = subst (λ (x : ℕ). Fed old.decoder (take x p.bytes) f.frames new.decoder) e f.fed in
    acts_on_none w now f.frames (scene s old) (scene t new) (no_frames_come old.decoder new.decoder b.before f.frames b.holds fed) f.acts

none_fed : {S O I XO : Type 0} {out : OutboundTransform XO} {w : Ways S O I} {s t : S} {x : Outbox XO} {old new : Connection O I} {p : Pipe} {flights : List Flying} {now n k : ℕ} → OneWay out w.in_ x old p flights → p.cut ≡ false → k ≡ 0 → Delivers w s old p now n k t new → scene t new ≡ scene s old
none_fed way whole e d = feeds_none way e (fed_whole whole d)

-- Where an open side takes no byte, there is none.
none_offered : {S O I XO : Type 0} {out : OutboundTransform XO} {w : Ways S O I} {s t : S} {x : Outbox XO} {old new : Connection O I} {p : Pipe} {flights : List Flying} {now n : ℕ} → OneWay out w.in_ x old p flights → Delivers w s old p now n 0 t new → min n (length p.bytes) ≡ 0
none_offered {w = w} {p = p} {n = n} way d = elim (cases_lt 0 (min n (length p.bytes))) [
  | inl some ↦ absurd (let same = ap (λ (c : Scene _ _ _). is_open w c.state c.outbox) (feeds_none way refl d.does) in let shut = d.short some in let opened = d.does.was_open in cc (same, shut, opened))
  | inr none ↦ omega (arith, none)
]

-- a server whose queue is empty has room
has_room : (q : Queue) → IsQueue q → q.frames ≡ [] → nat_le 4194314 (free q) ≡ true
has_room q is none = rw (all_free q is none) refl

-- If nothing is queued and nothing is in the pipe, NOTHING IS IN FLIGHT.
pub none_flies : {XO YO YI : Type 0} {out : OutboundTransform XO} {in_ : InboundTransform YI} {x : Outbox XO} {y : Connection YO YI} {p : Pipe} {flights : List Flying} → OneWay out in_ x y p flights → y.failure ≡ None → p.cut ≡ false → x.queue.frames ≡ [] → p.bytes ≡ [] → flights ≡ []
none_flies {x = x} {y} {p} way alive whole queued carried =
    let b = way.bytes alive in
    let h = all_has_come y.decoder p.bytes p.cut x.queue b.transit b.queued carried whole queued b.bytes in
    sym b.all ∙ ap (λ (xs : List Flying). xs ++ b.queued) h.0 ∙ h.1

-- both cores with what they send, and both pipes
abbrev pub Seen : Type 0 → Type 0 → Type 0 → Type 0 → Type 0
Seen CO CI SO SI = Scene Client CO CI × Scene Server SO SI × List ℕ × List ℕ

abbrev pub seen : {CO CI SO SI : Type 0} → Net CO CI SO SI → Seen CO CI SO SI
seen w = (scene w.client.state w.client.connection, scene w.server.state w.server.connection, w.up.bytes, w.down.bytes)

-- what a side has queued, and what is in the pipe to it
abbrev queue_of : {CO CI SO SI : Type 0} → Side → Seen CO CI SO SI → List Queued
queue_of ClientSide x = x.0.outbox.queue.frames
queue_of ServerSide x = x.1.outbox.queue.frames

abbrev pipe_to : {CO CI SO SI : Type 0} → Side → Seen CO CI SO SI → List ℕ
pipe_to ClientSide x = x.3
pipe_to ServerSide x = x.2

-- holds of each side, if it holds of one and of the other
of_each : (P : Side → Type 0) (side : Side) → P side → P (other side) → (x : Side) → P x
of_each P ClientSide a b ClientSide = a
of_each P ClientSide a b ServerSide = b
of_each P ServerSide a b ClientSide = b
of_each P ServerSide a b ServerSide = a

module _ {CO CI SO SI : Type 0} (c : Halves CO CI) (s : Halves SO SI) (seals : Bool) where
  pub idle : (set : Settings) (f : ℕ → ℕ) (to : Side) (t : List Entry) (w v : Net CO CI SO SI) (n k : ℕ) → Keeps c s set f t w → IsOpen w → k ≡ 0 → Steps c s seals w (Deliver to n) (Count k) v → seen v ≡ seen w
  idle set f ServerSide t w v n k i o e p = elim (fed_or_short c s seals o p) [
    | inl up ↦
        let same = none_fed i.upward o.up e up.does in
        ap seen up.only ∙ ap (λ x. (scene w.client.state w.client.connection, x, drop k w.up.bytes, w.down.bytes)) same ∙ ap (λ (j : ℕ). (scene w.client.state w.client.connection, scene w.server.state w.server.connection, drop j w.up.bytes, w.down.bytes)) e
    | inr short ↦ ap seen short.same
  ]
  idle set f ClientSide t w v n k i o e p =
      let same = none_fed i.downward o.down e p.does in
      ap seen p.only ∙ ap (λ x. (x, scene w.server.state w.server.connection, w.up.bytes, drop k w.down.bytes)) same ∙ ap (λ (j : ℕ). (scene w.client.state w.client.connection, scene w.server.state w.server.connection, w.up.bytes, drop j w.down.bytes)) e

  -- ---- a carry that moves nothing

  none_queued : (failure : Option Failure) (n : ℕ) (q : Queue) → 0 < n → failure ≡ None → IsQueue q → 0 ≡ lent_of failure n q → q.frames ≡ []
  none_queued failure n q some alive is e = none_to_lend q is (omega (arith, some, lent_alive failure n 0 q alive e))

  carry_zero : (set : Settings) (f : ℕ → ℕ) (from : Side) (t : List Entry) (w v : Net CO CI SO SI) (n : ℕ) → 0 < n → Keeps c s set f t w → Lives w → Steps c s seals w (Carry from n) (Count 0) v
      → (queue_of from (seen w) ≡ []) × ((side : Side) → queue_of side (seen v) ≡ queue_of side (seen w))
  carry_zero set f ClientSide t w v n some i a p =
      let q = w.client.connection.outbox.queue in
      let is = (i.upward.bytes a.server).bytes.valid in (
        none_queued w.client.connection.failure n q some a.client is p.count,
        of_each (λ side. queue_of side (seen v) ≡ queue_of side (seen w)) ClientSide (ap (λ (x : Net CO CI SO SI). x.client.connection.outbox.queue.frames) p.only ∙ none_reported q 0 is refl) (ap (λ (x : Net CO CI SO SI). x.server.connection.outbox.queue.frames) p.only),
      )
  carry_zero set f ServerSide t w v n some i a p =
      let q = w.server.connection.outbox.queue in
      let is = (i.downward.bytes a.client).bytes.valid in (
        none_queued w.server.connection.failure n q some a.server is p.count,
        of_each (λ side. queue_of side (seen v) ≡ queue_of side (seen w)) ServerSide (ap (λ (x : Net CO CI SO SI). x.server.connection.outbox.queue.frames) p.only ∙ none_reported q 0 is refl) (ap (λ (x : Net CO CI SO SI). x.client.connection.outbox.queue.frames) p.only),
      )

  -- ---- a delivery that takes nothing

  -- if the server's queue is empty, so that the server has room
  count_zero : (set : Settings) (f : ℕ → ℕ) (to : Side) (t : List Entry) (w v : Net CO CI SO SI) (n : ℕ) → Keeps c s set f t w → Lives w → IsOpen w → queue_of ServerSide (seen w) ≡ [] → Steps c s seals w (Deliver to n) (Count 0) v
      → min n (length (pipe_to to (seen w))) ≡ 0
  count_zero set f ServerSide t w v n i a o none p = elim (fed_or_short c s seals o p) [
    | inl up ↦ none_offered i.upward up.does
    | inr short ↦
        let roomy = has_room w.server.connection.outbox.queue (i.downward.bytes a.client).bytes.valid none in
        let opened : is_open (serving s.out s.in_) w.server.state w.server.connection.outbox ≡ true = rw (o.takes, roomy) refl in
        absurd (let shut = short.shut in cc (opened, shut))
  ]
  count_zero set f ClientSide t w v n i a o none p = none_offered i.downward p.does

  deliver_zero : (set : Settings) (f : ℕ → ℕ) (to : Side) (t : List Entry) (w v : Net CO CI SO SI) (n : ℕ) → 0 < n → Keeps c s set f t w → Lives w → IsOpen w → queue_of ServerSide (seen w) ≡ [] → Steps c s seals w (Deliver to n) (Count 0) v
      → (pipe_to to (seen w) ≡ []) × (seen v ≡ seen w)
  deliver_zero set f to t w v n some i a o none p =
      let pipe = pipe_to to (seen w) in
      (nil_from_length pipe (omega (arith, some, count_zero set f to t w v n i a o none p)), idle set f to t w v n 0 i o refl p)

module _ {CO CI SO SI : Type 0} (c : Halves CO CI) (s : Halves SO SI) (seals : Bool) (steady : AreSteady c s seals) (set : Settings) (f : ℕ → ℕ) where
  -- AT THE END NOTHING IS QUEUED AND NOTHING IS IN A PIPE.
  empty_behind : (rules : Rules) (g : ℕ → ℕ) {trace : List Entry} (d : IsDrained trace) (t front : List Entry) (w v : Net CO CI SO SI) → IsCleanRun c s seals rules g t w (front ++ last_four d) v → Stands c s seals steady set f t w (front ++ last_four d) v → IsEmpty v
  empty_behind rules g d t (e ∷ front) w v y x = empty_behind rules g d (t ++ e ∷ []) front x.run.0 v (later_run c s seals rules g y x.run) (step_on c s seals steady set f x)
  empty_behind rules g d t [] w v y x =
      let x2 = step_on c s seals steady set f x in
      let x3 = step_on c s seals steady set f x2 in
      let x4 = step_on c s seals steady set f x3 in
      let y2 = later_run c s seals rules g y x.run in
      let y3 = later_run c s seals rules g y2 x2.run in
      let y4 = later_run c s seals rules g y3 x3.run in
      let z1 = carry_zero c s seals set f d.from t w x.run.0 d.a d.some.0 x.kept (first_step c s seals rules g y x.run).before x.run.1 in
      let z2 = carry_zero c s seals set f (other d.from) _ x.run.0 x2.run.0 d.b d.some.1 x2.kept (first_step c s seals rules g y2 x2.run).before x2.run.1 in
      let queues = of_each (λ (side : Side). queue_of side (seen x2.run.0) ≡ []) d.from (z2.1 d.from ∙ z1.1 d.from ∙ z1.0) (z2.1 (other d.from) ∙ z2.0) in
      let z3 = deliver_zero c s seals set f d.to _ x2.run.0 x3.run.0 d.c d.some.2 x3.kept (first_step c s seals rules g y3 x3.run).before y3.whole (queues ServerSide) x3.run.1 in
      let z4 = deliver_zero c s seals set f (other d.to) _ x3.run.0 x4.run.0 d.d d.some.3 x4.kept (first_step c s seals rules g y4 x4.run).before y4.whole (ap (λ x. queue_of ServerSide x) z3.1 ∙ queues ServerSide) x4.run.1 in
      let end : seen v ≡ seen x2.run.0 = ap seen x4.run.2 ∙ z4.1 ∙ z3.1 in
      let pipes = of_each (λ (side : Side). pipe_to side (seen x2.run.0) ≡ []) d.to z3.0 (sym (ap (λ x. pipe_to (other d.to) x) z3.1) ∙ z4.0) in
      record {
        up_queue = ap (λ x. queue_of ClientSide x) end ∙ queues ClientSide;
        down_queue = ap (λ x. queue_of ServerSide x) end ∙ queues ServerSide;
        up = ap (λ x. pipe_to ServerSide x) end ∙ pipes ServerSide;
        down = ap (λ x. pipe_to ClientSide x) end ∙ pipes ClientSide;
      }

-- for any run from a fresh start
pub empty_at_end : {CO CI SO SI : Type 0} (c : Halves CO CI) (s : Halves SO SI) (seals : Bool) (steady : AreSteady c s seals)
    (w v : Net CO CI SO SI) (trace : List Entry) (rules : Rules) (f : ℕ → ℕ) → IsFresh c s w → Runs c s seals w trace v → AreClean rules f [] trace → IsDrained trace → IsEmpty v
empty_at_end c s seals steady w v trace rules f n p clean d =
    let g = streams_of c s seals w trace v n p in
    let set : Settings = record { rules = w.server.state.rules; services = w.server.state.services; limit = safe_limit s.out w.server.connection.outbox.half; clean = ⊥ } in
    let x = begins c s seals steady set g.f w trace v (refl, refl, refl) n p g.right (λ never. absurd never) in
    empty_behind c s seals steady set g.f rules f d [] d.front w v (subst (λ (t : List Entry). IsCleanRun c s seals rules f [] w t v) d.ends (fresh_run c s seals rules f w trace v n clean d p))
    (subst (λ (t : List Entry). Stands c s seals steady set g.f [] w t v) d.ends x)

-- A way on which nothing is: no frame is queued, and no byte is in the pipe. A clean step by which its side takes no bytes, and
-- that leaves it so, found it so and put no item in.
use Rattle.ttrpc_world.proofs.Ending.{idle, lent_alive}
use Rattle.ttrpc_world.proofs.Behind.{none_taken}
use Rattle.ttrpc_world.proofs.Keeps.{AreSteady}
use Rattle.ttrpc_world.proofs.Living.{fed_or_short, fed_whole}
use Rattle.ttrpc_world.proofs.Since.{IsKnown}
use Rattle.ttrpc_world.proofs.Timed.{none_due}
use Rattle.ttrpc_world.proofs.Serves.{acts_so, answered, IsAnswered, passes_so}
use Rattle.ttrpc_world.proofs.Words.{[], after_report, Answer, ap, arith, Asked, AsyncRules, Began, Bool, call_at, CallEvent, Carry, ClientCore, ClientEnd, ClientSide, Close, ClosedUp, Connection, Count, DeadlineDuringWrite, Deliver, Done, due_at, EndedDown, EndsStream, EndStream, Entry, Err, Error, Event, Failure, false, Feeds, Flow, flow_of, fun_ext, Halves, HeardDown, HeardUp, if◌then◌else◌, inl, inr, is_clean_event, is_clean_reply, IsQueue, Item, items, length, length-take, lent_of, List, min, Named, nat_eq, Net, never_empty, nil_parts, None, none_reported, nothing_due, Ok, only_if, open_part, OpenEvent, Option, OutboundTransform, Outbox, Passes, put_down, put_up, Queue, Queued, Recv, refl, Reply, Respond, Responds, Response, Result, Rules, rules, scene, Send, SendsAll, SendsOne, Sent, SentDown, SentUp, ServerCore, ServerEnd, ServerSide, Settings, Some, some_of, Steps, StreamEnd, subst, sym, take, taken_back, takes_bytes, throws, Tick, Ticket, true, Ways, with_lent, with_payload, Word, ℕ, ◌++◌, ◌∙◌, ◌∷◌, ◌≡◌}

-- NOTHING IS ON A WAY
pub record IsIdle (queued : List Queued) (pipe : List ℕ) : Type 0 where
  pub none_queued : queued ≡ []
  pub none_carried : pipe ≡ []

-- on the way to the server, or to the client
abbrev pub UpIdle : {CO CI SO SI : Type 0} → Net CO CI SO SI → Type 0
UpIdle w = IsIdle w.client.connection.outbox.queue.frames w.up.bytes

abbrev pub DownIdle : {CO CI SO SI : Type 0} → Net CO CI SO SI → Type 0
DownIdle w = IsIdle w.server.connection.outbox.queue.frames w.down.bytes

idle_as : {queued queued2 : List Queued} {pipe pipe2 : List ℕ} → queued2 ≡ queued → pipe2 ≡ pipe → IsIdle queued2 pipe2 → IsIdle queued pipe
idle_as q p i = record { none_queued = sym q ∙ i.none_queued; none_carried = sym p ∙ i.none_carried }

-- ---- what is queued

sent_one : {O : Type 0} (out : OutboundTransform O) (old : Outbox O) (frame : Queued) (plain : List ℕ) (new : Outbox O) → SendsOne out old frame plain new → new.queue.frames ≡ [] → ⊥
sent_one out old frame plain new p e = never_empty old.queue.frames [] (with_payload frame p.sealed) (sym (ap (λ (q : Queue). q.frames) p.queue) ∙ e)

sent_all : {O : Type 0} (out : OutboundTransform O) (sent : List Sent) (old new : Outbox O) → SendsAll out old sent new → new.queue.frames ≡ [] → old.queue.frames ≡ []
sent_all out [] old new same e = sym (ap (λ (x : Outbox _). x.queue.frames) same) ∙ e
sent_all out (x ∷ sent) old new p e = absurd (sent_one out old x.frame x.plain p.0 p.1 (sent_all out sent p.0 new p.2 e))

responded : {O : Type 0} (out : OutboundTransform O) (rs : Rules) (limit k : ℕ) (r : Response) (sent : List Sent) (old new : Outbox O) → Responds rs limit k r sent → SendsAll out old sent new → new.queue.frames ≡ [] → ⊥
responded out rs limit k r sent old new p sends e =
    let one = subst (λ (xs : List Sent). SendsAll out old xs new) p.is sends in
    sent_one out old _ _ one.0 one.1 (sym (ap (λ (x : Outbox _). x.queue.frames) one.2) ∙ e)

-- if none is queued after bytes were fed, none was before
none_before : {S O I : Type 0} {w : Ways S O I} {s t : S} {old new : Connection O I} {piece : List ℕ} {now : ℕ} → Feeds w s old piece now t new → new.outbox.queue.frames ≡ [] → old.outbox.queue.frames ≡ []
none_before {w = w} {s} {t} {old} {new} {now = now} fed =
    acts_so w now (λ x y. y.outbox.queue.frames ≡ [] → x.outbox.queue.frames ≡ []) (λ x e. e) (λ f fs x y a later e. sent_all w.out a.1.sent x.outbox a.0.outbox a.1.sends (later e)) fed.frames (scene s old) (scene t new) fed.acts

-- ---- a carry

none_moved : (xs : List ℕ) (k n : ℕ) → k ≡ min n (length xs) → take k xs ≡ [] → k ≡ 0
none_moved xs k n e h =
    let size : length (take k xs) ≡ min k (length xs) = length-take k xs in
    let none : length (take k xs) ≡ 0 = ap length h in
    omega (arith, e, size, none)

carried : (failure : Option Failure) (cut : Bool) (q : Queue) (pipe : List ℕ) (n k : ℕ) → failure ≡ None → cut ≡ false → IsQueue q → k ≡ lent_of failure n q → IsIdle (after_report (with_lent q k) k).frames (if cut then pipe else pipe ++ take k (open_part q)) → IsIdle q.frames pipe
carried failure true q pipe n k alive whole is e i = cc
carried failure false q pipe n k alive whole is e i =
    let parts = nil_parts pipe (take k (open_part q)) i.none_carried in
    let none : k ≡ 0 = none_moved (open_part q) k n (lent_alive failure n k q alive e) parts.1 in
    record { none_queued = sym (none_reported q k is none) ∙ i.none_queued; none_carried = parts.0 }

-- ---- what happened puts in no item

nothing_put : (says : List Flow → List (List ℕ)) (b : Bool) (x : Flow) → says [] ≡ [] → says (x ∷ []) ≡ [] → says (only_if b x) ≡ []
nothing_put says true x none one = one
nothing_put says false x none one = none

module _ {CO CI SO SI : Type 0} (c : Halves CO CI) (s : Halves SO SI) (seals : Bool) (steady : AreSteady c s seals) (set : Settings) (f : ℕ → ℕ) where
  -- an event with its reply puts in no item
  abbrev PutsUp : Event → Reply → Type 0
  PutsUp event reply = (k : ℕ) → items (put_up (flow_of f k event reply)) ≡ []

  abbrev PutsDown : Event → Reply → Type 0
  PutsDown event reply = (k : ℕ) → items (put_down set.rules set.limit (flow_of f k event reply)) ≡ []

  heard_none : (says : List Flow → List (List ℕ)) → says [] ≡ [] → ((word : Word) → says (HeardUp word ∷ []) ≡ []) → ((word : Word) → says (HeardDown word ∷ []) ≡ []) → (at : StreamEnd) (given : Option Word) (k : ℕ) → says (flow_of f k (Recv at) (Item given)) ≡ []
  heard_none says none up down (ClientEnd id) None k = none
  heard_none says none up down (ServerEnd id) None k = none
  heard_none says none up down (ClientEnd id) (Some word) k = nothing_put says (nat_eq id k) (HeardDown word) none (down word)
  heard_none says none up down (ServerEnd id) (Some word) k = nothing_put says (nat_eq (f id) k) (HeardUp word) none (up word)

  -- if no call is due, a moment does what it does if there is no call
  ticked_up : (failure : Option Failure) (old : ClientCore CO CI) (now : ℕ) (new : ClientCore CO CI) → IsQueue old.connection.outbox.queue → ((k : ℕ) → due_at now (call_at old.state k) ≡ false) → Passes seals failure old now new
      → new.connection.outbox.queue.frames ≡ old.connection.outbox.queue.frames
  ticked_up None old now new is none p =
      let none_called = (nothing_due seals (record old { state = record old.state { calls = [] } }) now is refl).connection in
      ap (λ (x : Connection CO CI). x.outbox.queue.frames) (p.connection ∙ ap (λ ids. if throws old.state.kind seals then taken_back old.connection ids DeadlineDuringWrite else old.connection) (fun_ext none) ∙ sym none_called)
  ticked_up (Some why) old now new is none same = ap (λ (x : ClientCore CO CI). x.connection.outbox.queue.frames) same

  -- BEHIND THE LAST BYTES THAT THE SERVER TOOK, upwards.
  pub up_back : (t : List Entry) (w : Net CO CI SO SI) (event : Event) (reply : Reply) (v : Net CO CI SO SI) → IsKnown c s seals steady set f t w event reply v → is_clean_event event ≡ true → is_clean_reply reply ≡ true → takes_bytes ServerSide event reply ≡ false → Steps c s seals w event reply v → UpIdle v → UpIdle w × PutsUp event reply
  up_back t w (CallEvent request) (Named id) v i a b z p idle = absurd (sent_one c.out w.client.connection.outbox _ _ v.client.connection.outbox p.1.sends idle.none_queued)
  up_back t w (OpenEvent request up down) (Named id) v i a b z p idle = absurd (sent_one c.out w.client.connection.outbox _ _ v.client.connection.outbox p.1.sends idle.none_queued)
  up_back t w (Send (ClientEnd id) item) (Ticket ticket) v i a b z p idle = absurd (sent_one c.out w.client.connection.outbox _ _ v.client.connection.outbox p.0.sends.sends idle.none_queued)
  up_back t w (Close id) (Ticket ticket) v i a b z p idle = absurd (sent_one c.out w.client.connection.outbox _ _ v.client.connection.outbox p.0.sends.sends idle.none_queued)
  up_back t w (Recv (ClientEnd id)) (Item given) v i a b z p idle = (idle_as (ap (λ (x : ClientCore CO CI). x.connection.outbox.queue.frames) p.0.same) (ap (λ (x : Net CO CI SO SI). x.up.bytes) p.1) idle, heard_none (λ xs. items (put_up xs)) refl (λ word. refl) (λ word. refl) (ClientEnd id) given)
  up_back t w (Recv (ServerEnd id)) (Item given) v i a b z p idle = (subst (λ (x : Net CO CI SO SI). UpIdle x) p.1 idle, heard_none (λ xs. items (put_up xs)) refl (λ word. refl) (λ word. refl) (ServerEnd id) given)
  up_back t w (Send (ServerEnd id) item) (Ticket ticket) v i a b z p idle = (subst (λ (x : Net CO CI SO SI). UpIdle x) p.1 idle, λ k. nothing_put (λ xs. items (put_up xs)) (nat_eq (f id) k) (SentDown item) refl refl)
  up_back t w (Answer id result) Done v i a b z p idle = (subst (λ (x : Net CO CI SO SI). UpIdle x) p.1 idle, λ k. nothing_put (λ xs. items (put_up xs)) (nat_eq (f id) k) (EndedDown (some_of result)) refl refl)
  up_back t w (Respond id response) Done v i a b z p idle = (subst (λ (x : Net CO CI SO SI). UpIdle x) p.only idle, λ k. nothing_put (λ xs. items (put_up xs)) (nat_eq (f id) k) (EndedDown (Ok (Some response))) refl refl)
  up_back t w (EndStream id result) Done v i a b z p idle = (subst (λ (x : Net CO CI SO SI). UpIdle x) p.1 idle, λ k. nothing_put (λ xs. items (put_up xs)) (nat_eq (f id) k) (EndedDown result) refl refl)
  up_back t w (Tick now) Done v i a b z p idle =
      (idle_as (ticked_up w.client.connection.failure w.client now v.client (i.before.upward.bytes i.cleanly.before.server).bytes.valid (none_due c s seals set f t w now i.before i.cleanly.timed i.cleanly.at.in_time) p.does) (ap (λ (x : Net CO CI SO SI). x.up.bytes) p.only) idle, λ k. refl)
  up_back t w (Carry ClientSide n) (Count k) v i a b z p idle = (
    carried w.client.connection.failure w.up.cut w.client.connection.outbox.queue w.up.bytes n k i.cleanly.before.client i.cleanly.whole.up (i.before.upward.bytes i.cleanly.before.server).bytes.valid p.count
        (idle_as (ap (λ (x : Net CO CI SO SI). x.client.connection.outbox.queue.frames) p.only) (ap (λ (x : Net CO CI SO SI). x.up.bytes) p.only) idle),
    λ j. refl,
  )
  up_back t w (Deliver ServerSide n) (Count k) v i a b z p idles =
      let same = idle c s seals set f ServerSide t w v n k i.before i.cleanly.whole (none_taken k z) p in
      (idle_as (ap (λ x. x.0.outbox.queue.frames) same) (ap (λ x. x.2) same) idles, λ j. refl)
  up_back t w (Deliver ClientSide n) (Count k) v i a b z p idle = (record { none_queued = none_before (fed_whole i.cleanly.whole.down p.does) idle.none_queued; none_carried = sym (ap (λ (x : Net CO CI SO SI). x.up.bytes) p.only) ∙ idle.none_carried }, λ j. refl)
  up_back t w event reply v i a b z p idle =
      let queue : v.client.connection.outbox.queue ≡ w.client.connection.outbox.queue = first_of (cc, search rules) in
      let pipe : v.up.bytes ≡ w.up.bytes = first_of (cc, search rules) in
      (idle_as (ap (λ (x : Queue). x.frames) queue) pipe idle, λ k. refl)

  -- what an answer or an end queues
  answered_down : (old : ServerCore SO SI) (id : ℕ) (result : Result Response Error) (new : ServerCore SO SI) → IsAnswered s.out old id result new → new.connection.outbox.queue.frames ≡ [] → (old.connection.outbox.queue.frames ≡ []) × PutsDown (Answer id result) Done
  answered_down old id result new a none = elim a [
    | inl r ↦ absurd (responded s.out old.state.rules _ _ r.0 r.1.sent old.connection.outbox new.connection.outbox r.1.responds r.1.sends none)
    | inr d ↦ (sym (ap (λ (x : ServerCore SO SI). x.connection.outbox.queue.frames) d.2.same) ∙ none, λ k. nothing_put (λ xs. items (put_down set.rules set.limit xs)) (nat_eq (f id) k) (EndedDown (some_of result)) refl (rw d.1 refl))
  ]

  ended_down : (old : ServerCore SO SI) (id : ℕ) (result : Result (Option Response) Error) (new : ServerCore SO SI) → EndsStream s.out old id result new → new.connection.outbox.queue.frames ≡ [] → ⊥
  ended_down old id (Ok None) new p none = sent_one s.out old.connection.outbox p.sends.0 [] new.connection.outbox p.sends.2 none
  ended_down old id (Ok (Some r)) new p none = responded s.out AsyncRules _ _ r p.sends.0 old.connection.outbox new.connection.outbox p.sends.1 p.sends.2 none
  ended_down old id (Err error) new p none = let q = p.sends.2 in responded s.out AsyncRules _ _ p.sends.0 q.0 old.connection.outbox new.connection.outbox q.1 q.2 none

  -- BEHIND THE LAST BYTES THAT THE CLIENT TOOK, downwards.
  pub down_back : (t : List Entry) (w : Net CO CI SO SI) (event : Event) (reply : Reply) (v : Net CO CI SO SI) → IsKnown c s seals steady set f t w event reply v → is_clean_event event ≡ true → is_clean_reply reply ≡ true → takes_bytes ClientSide event reply ≡ false → Steps c s seals w event reply v → DownIdle v → DownIdle w × PutsDown event reply
  down_back t w (CallEvent request) (Named id) v i a b z p idle = (subst (λ (x : Net CO CI SO SI). DownIdle x) p.2 idle, λ k. nothing_put (λ xs. items (put_down set.rules set.limit xs)) (nat_eq id k) (Asked request) refl refl)
  down_back t w (OpenEvent request up down) (Named id) v i a b z p idle = (subst (λ (x : Net CO CI SO SI). DownIdle x) p.2 idle, λ k. nothing_put (λ xs. items (put_down set.rules set.limit xs)) (nat_eq id k) (Began request up) refl refl)
  down_back t w (Send (ClientEnd id) item) (Ticket ticket) v i a b z p idle = (subst (λ (x : Net CO CI SO SI). DownIdle x) p.1 idle, λ k. nothing_put (λ xs. items (put_down set.rules set.limit xs)) (nat_eq id k) (SentUp item) refl refl)
  down_back t w (Close id) (Ticket ticket) v i a b z p idle = (subst (λ (x : Net CO CI SO SI). DownIdle x) p.1 idle, λ k. nothing_put (λ xs. items (put_down set.rules set.limit xs)) (nat_eq id k) ClosedUp refl refl)
  down_back t w (Recv (ClientEnd id)) (Item given) v i a b z p idle = (subst (λ (x : Net CO CI SO SI). DownIdle x) p.1 idle, heard_none (λ xs. items (put_down set.rules set.limit xs)) refl (λ word. refl) (λ word. refl) (ClientEnd id) given)
  down_back t w (Recv (ServerEnd id)) (Item given) v i a b z p idle = (idle_as (ap (λ (x : ServerCore SO SI). x.connection.outbox.queue.frames) p.0.same) (ap (λ (x : Net CO CI SO SI). x.down.bytes) p.1) idle, heard_none (λ xs. items (put_down set.rules set.limit xs)) refl (λ word. refl) (λ word. refl) (ServerEnd id) given)
  down_back t w (Send (ServerEnd id) item) (Ticket ticket) v i a b z p idle = absurd (sent_one s.out w.server.connection.outbox _ _ v.server.connection.outbox p.0.sends.sends idle.none_queued)
  down_back t w (Answer id result) Done v i a b z p idle =
      let y = answered_down w.server id result v.server (answered c s seals w.server id result v.server p.0) idle.none_queued in
      (record { none_queued = y.0; none_carried = sym (ap (λ (x : Net CO CI SO SI). x.down.bytes) p.1) ∙ idle.none_carried }, y.1)
  down_back t w (Respond id response) Done v i a b z p idle = absurd (responded s.out w.server.state.rules _ _ response p.does.sent w.server.connection.outbox v.server.connection.outbox p.does.responds p.does.sends idle.none_queued)
  down_back t w (EndStream id result) Done v i a b z p idle = absurd (ended_down w.server id result v.server p.0 idle.none_queued)
  down_back t w (Tick now) Done v i a b z p idle =
      (record { none_queued = passes_so s.out (λ a x b y. y.queue.frames ≡ [] → x.queue.frames ≡ []) (λ a x h. h) (λ a b d x y z job e later h. sent_all s.out e.sent x y e.sends (later h)) w.server.state.rules w.server.connection.failure w.server now v.server p.serves idle.none_queued; none_carried = sym (ap (λ (x : Net CO CI SO SI). x.down.bytes) p.only) ∙ idle.none_carried }, λ k. refl)
  down_back t w (Carry ServerSide n) (Count k) v i a b z p idle = (
    carried w.server.connection.failure w.down.cut w.server.connection.outbox.queue w.down.bytes n k i.cleanly.before.server i.cleanly.whole.down (i.before.downward.bytes i.cleanly.before.client).bytes.valid p.count
        (idle_as (ap (λ (x : Net CO CI SO SI). x.server.connection.outbox.queue.frames) p.only) (ap (λ (x : Net CO CI SO SI). x.down.bytes) p.only) idle),
    λ j. refl,
  )
  down_back t w (Deliver ClientSide n) (Count k) v i a b z p idles =
      let same = idle c s seals set f ClientSide t w v n k i.before i.cleanly.whole (none_taken k z) p in
      (idle_as (ap (λ x. x.1.outbox.queue.frames) same) (ap (λ x. x.3) same) idles, λ j. refl)
  down_back t w (Deliver ServerSide n) (Count k) v i a b z p idle = elim (fed_or_short c s seals i.cleanly.whole p) [
    | inl up ↦ (record { none_queued = none_before (fed_whole i.cleanly.whole.up up.does) idle.none_queued; none_carried = sym (ap (λ (x : Net CO CI SO SI). x.down.bytes) up.only) ∙ idle.none_carried }, λ j. refl)
    | inr short ↦ (subst (λ (x : Net CO CI SO SI). DownIdle x) short.same idle, λ j. refl)
  ]
  down_back t w event reply v i a b z p idle =
      let queue : v.server.connection.outbox.queue ≡ w.server.connection.outbox.queue = first_of (cc, search rules) in
      let pipe : v.down.bytes ≡ w.down.bytes = first_of (cc, search rules) in
      (idle_as (ap (λ (x : Queue). x.frames) queue) pipe idle, λ k. refl)

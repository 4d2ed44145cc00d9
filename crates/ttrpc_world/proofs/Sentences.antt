-- Each step of a run from a fresh start keeps the invariant; so at each place of it the items of each id are in order.
use Rattle.ttrpc_world.proofs.ByClient.{closed_sends, keeps_ask, keeps_call, keeps_drop, keeps_open, keeps_passes, keeps_recv, keeps_send, keeps_unheard, keeps_unsent}
use Rattle.ttrpc_world.proofs.ByServer.{IsSet, keeps_answer, keeps_drain, keeps_end, keeps_finish, keeps_hand, keeps_recv_up, keeps_respond, keeps_send_up, keeps_ticks, keeps_unheard_up}
use Rattle.ttrpc_world.proofs.Cleanly.{first_step, IsCleanRun, IsCleanStep, later_run}
use Rattle.ttrpc_world.proofs.Constants.{stepped}
use Rattle.ttrpc_world.proofs.Delivers.{IsQuiet, IsTimely}
use Rattle.ttrpc_world.proofs.Timed.{none_due, none_reached, passed_waits, was_timely}
use Rattle.ttrpc_world.proofs.Failing.{ArePlain, fresh_plain, plainly}
use Rattle.ttrpc_world.proofs.Keeps.{AreSteady, Keeps, keeps_still}
use Rattle.ttrpc_world.proofs.Moves.{break_down, break_up, carry_down, carry_up, client_fails, cut_down, cut_up, deliver_down, deliver_up, server_fails, stay_up}
use Rattle.ttrpc_world.proofs.Numbers.{AreRight, counts, fresh_numbers, IsRightRun, Numbers}
use Rattle.ttrpc_world.proofs.OneWay.{starts}
use Rattle.ttrpc_world.proofs.Words.{[], act_of, Answer, ap, append-nil, append_assoc, AreInOrder, arith, Bool, call_at, CallEvent, calls, Carry, ClientCore, ClientEnd, ClientSide, Close, close_put, ClosedUp, Count, Cut, Deliver, Done, Drain, DropCall, DropReceiver, DropSender, EndStream, Entry, Event, Fail, failed_by_hand, false, Finish, flows, Given, given, Halves, Handed, Idle, in_order_here, inl, inr, IsFresh, Item, item_put, jobs_at, List, Named, Net, nothing_read, OpenEvent, Outcome, Recv, refl, Refused, Reply, Respond, rules, Runs, Send, SentUp, ServerCore, ServerEnd, ServerSide, Settings, silent, Some, Steps, stream_at, subst, sym, Take, ThingEnd, ThingItem, Tick, Ticket, Told, true, Unborn, with_client, with_entry, with_server, ℕ, ◌++◌, ◌∙◌, ◌∷◌, ◌≡◌}

module _ {CO CI SO SI : Type 0} (c : Halves CO CI) (s : Halves SO SI) (seals : Bool) (steady : AreSteady c s seals) (set : Settings) (f : ℕ → ℕ) where
  abbrev pub Kept : List Entry → Net CO CI SO SI → Type 0
  Kept trace w = Keeps c s set f trace w

  abbrev pub Right : Net CO CI SO SI → Type 0
  Right w = AreRight f w.server.state.jobs.list

  -- what is right of a step where the whole run is clean, and of what is left of a run
  abbrev pub CleanStep : List Entry → Net CO CI SO SI → Event → Reply → Net CO CI SO SI → Type 0
  CleanStep trace w event reply v = IsCleanStep c s seals set.rules f trace w event reply v

  abbrev pub CleanRun : List Entry → Net CO CI SO SI → List Entry → Net CO CI SO SI → Type 0
  CleanRun before w rest v = IsCleanRun c s seals set.rules f before w rest v

  -- the settings are these, and no side has failed so that it is an end
  pub record Ruled (w : Net CO CI SO SI) : Type 0 where
    pub is_set : IsSet c s seals set f [] w
    pub plain : ArePlain w

  -- an equal net
  along : (trace : List Entry) (w v : Net CO CI SO SI) → v ≡ w → Kept trace w → Kept trace v
  along trace w v e i = subst (λ (x : Net CO CI SO SI). Keeps c s set f trace x) (sym e) i

  -- an entry that is no act of any id, and then what it did
  quietly : (trace : List Entry) (w : Net CO CI SO SI) (event : Event) (reply : Reply) → IsQuiet f event reply → Kept trace w → Kept (with_entry trace event reply) w
  quietly trace w event reply quiet i = keeps_still c s set f trace w event reply quiet i

  -- nothing changed
  same : (trace : List Entry) (w : Net CO CI SO SI) (event : Event) (reply : Reply) (v : Net CO CI SO SI) → IsQuiet f event reply → Kept trace w → v ≡ w → Kept (with_entry trace event reply) v
  same trace w event reply v quiet i e = along (with_entry trace event reply) w v e (quietly trace w event reply quiet i)

  -- the moment plays no part
  at_moment : (t : List Entry) (w : Net CO CI SO SI) (now : ℕ) → Kept t w → Kept t (record w { moment = now })
  at_moment t w now i = record { up = i.up; down = i.down; stories = i.stories; numbers = i.numbers; own = i.own; upward = i.upward; downward = i.downward }

  -- in a clean run calls are timely, once this happened, too
  timely : (trace : List Entry) (w : Net CO CI SO SI) (event : Event) (reply : Reply) (v : Net CO CI SO SI) → ((k : ℕ) → act_of f k event reply ≡ []) → (set.clean → CleanStep trace w event reply v) → IsTimely set f (with_entry trace event reply) w.client.state w.moment
  timely trace w event reply v quiet z clean k q d waits one =
      was_timely f k q d trace w.moment ((z clean).timed.begun k d waits) (sym (ap calls (silent (act_of f k) trace event reply (quiet k))) ∙ one)

  -- a moment comes for both sides
  ticks : (trace : List Entry) (w : Net CO CI SO SI) (now : ℕ) (v : Net CO CI SO SI) → Kept trace w → (set.clean → CleanStep trace w (Tick now) Done v) → Steps c s seals w (Tick now) Done v → Kept (with_entry trace (Tick now) Done) v
  ticks trace w now v i z p =
      let x = with_client w v.client in
      let undue = λ (clean : set.clean). none_reached c s seals set f trace w now i (z clean).timed (z clean).at.in_time in
      along _ _ v p.only (at_moment _ (with_server x v.server) now (quietly trace (with_server x v.server) (Tick now) Done (λ k. (refl, refl))
      (keeps_ticks c s seals set f trace w.server.state.rules w.server.connection.failure x now v.server refl
      (keeps_passes c s seals steady set f trace w now v.client w.client.connection.failure i (λ clean. none_due c s seals set f trace w now i (z clean).timed (z clean).at.in_time) p.does)
      (λ clean k d waits. undue clean k d (passed_waits c s seals w.client.connection.failure w.client now v.client k d p.does waits)) p.serves)))

  -- EACH STEP KEEPS IT, where the function is right before it and behind it.
  pub keeps : (trace : List Entry) (w : Net CO CI SO SI) (event : Event) (reply : Reply) (v : Net CO CI SO SI) → Kept trace w → Ruled w → Right w → Right v → (set.clean → CleanStep trace w event reply v) → Steps c s seals w event reply v → Kept (with_entry trace event reply) v
  keeps trace w (CallEvent request) (Named id) v i u r r2 z p = along _ _ v p.2 (keeps_call c s seals steady set f trace w request id v i p.0 p.1 p.3)
  keeps trace w (OpenEvent request up down) (Named id) v i u r r2 z p = along _ _ v p.2 (keeps_open c s seals steady set f trace w request up down id v i p.0 p.1)
  keeps trace w (Outcome id) (Given outcome) v i u r r2 z p = along _ _ v p.1 (keeps_ask c s seals steady set f trace w id outcome v i (λ clean. (z clean).before.client) p.0)
  keeps trace w (DropCall id) Done v i u r r2 z p = along _ _ v p.only (keeps_drop c s seals steady set f trace w id v i (λ clean. let bad : false ≡ true = (z clean).at.event_is in cc) p)
  keeps trace w (Recv (ClientEnd id)) (Item given) v i u r r2 z p = along _ _ v p.1 (keeps_recv c s seals steady set f trace w id given v i u.plain.client p.0)
  keeps trace w (Recv (ServerEnd id)) (Item given) v i u r r2 z p = along _ _ v p.1 (keeps_recv_up c s seals set f trace w id given v.server i r u.plain.server p.0)
  keeps trace w (Send (ClientEnd id) item) (Ticket ticket) v i u r r2 z p = along _ _ v p.1 (keeps_send c s seals steady set f trace w (Send (ClientEnd id) item) (Ticket ticket) id _ _ _ _ v (SentUp item) (ThingItem item) i (omega arith) p.0 (λ k. (refl, refl)) (item_put item) refl (λ e. refl))
  keeps trace w (Send (ServerEnd id) item) (Ticket ticket) v i u r r2 z p = along _ _ v p.1 (keeps_send_up c s seals set f trace w id item ticket v.server i r p.0)
  keeps trace w (Close id) (Ticket ticket) v i u r r2 z p = along _ _ v p.1 (keeps_send c s seals steady set f trace w (Close id) (Ticket ticket) id _ _ _ _ v ClosedUp ThingEnd i (omega arith) p.0 (λ k. (refl, refl)) close_put refl (λ e. absurd (closed_sends (stream_at w.client.state id) e)))
  keeps trace w (DropReceiver (ClientEnd id)) Done v i u r r2 z p = along _ _ v p.1 (keeps_unheard c s seals steady set f trace w id v i p.0)
  keeps trace w (DropReceiver (ServerEnd id)) Done v i u r r2 z p = along _ _ v p.1 (keeps_unheard_up c s seals set f trace w id i (λ clean. let bad : false ≡ true = (z clean).at.event_is in cc))
  keeps trace w (DropSender id) Done v i u r r2 z p = along _ _ v p.1 (keeps_unsent c s seals steady set f trace w id v i p.0)
  keeps trace w Take (Handed (Some job)) v i u r r2 z p = along _ _ v p.1 (keeps_hand c s seals set f trace w job v i p.0)
  keeps trace w (Answer id result) Done v i u r r2 z p = along _ _ v p.1 (keeps_answer c s seals set f trace w id result v.server i u.is_set (λ clean. (z clean).at.answer_is) r p.0 p.2)
  keeps trace w (Respond id response) Done v i u r r2 z p = along _ _ v p.only (keeps_respond c s seals set f trace w id response v i u.is_set r p)
  keeps trace w (Finish id) Done v i u r r2 z p = along _ _ v p.1 (keeps_finish c s seals set f trace w id v.server i p.0)
  keeps trace w (EndStream id result) Done v i u r r2 z p = along _ _ v p.1 (keeps_end c s seals set f trace w id result v.server i u.is_set r p.0 p.2)
  keeps trace w Drain Done v i u r r2 z p = along _ _ v p (keeps_drain c s seals set f trace w i)
  keeps trace w (Tick now) Done v i u r r2 z p = ticks trace w now v i z p
  keeps trace w (Carry ClientSide n) (Count k) v i u r r2 z p = carry_up c s seals set f _ w n k v (quietly trace w (Carry ClientSide n) (Count k) (λ j. (refl, refl)) i) p
  keeps trace w (Carry ServerSide n) (Count k) v i u r r2 z p = carry_down c s seals set f _ w n k v (quietly trace w (Carry ServerSide n) (Count k) (λ j. (refl, refl)) i) p
  keeps trace w (Deliver ServerSide n) (Count k) v i u r r2 z (inl p) = deliver_up c s seals set f _ w n k v (quietly trace w (Deliver ServerSide n) (Count k) (λ j. (refl, refl)) i) u.is_set.0 u.is_set.2 (timely trace w (Deliver ServerSide n) (Count k) v (λ j. refl) z) r2 p
  keeps trace w (Deliver ServerSide n) (Count k) v i u r r2 z (inr p) = stay_up c s seals set f _ w k v (quietly trace w (Deliver ServerSide n) (Count k) (λ j. (refl, refl)) i) p
  keeps trace w (Deliver ServerSide n) (Refused told) v i u r r2 z (inl p) = break_up c s seals set f _ w n told v (quietly trace w (Deliver ServerSide n) (Refused told) (λ j. (refl, refl)) i) u.is_set.0 u.is_set.2 (timely trace w (Deliver ServerSide n) (Refused told) v (λ j. refl) z) r2 p.0 p.1
  keeps trace w (Deliver ServerSide n) (Refused told) v i u r r2 z (inr p) = same trace w (Deliver ServerSide n) (Refused told) v (λ k. (refl, refl)) i p.1
  keeps trace w (Deliver ClientSide n) (Count k) v i u r r2 z p = deliver_down c s seals set f _ w n k v (quietly trace w (Deliver ClientSide n) (Count k) (λ j. (refl, refl)) i) p
  keeps trace w (Deliver ClientSide n) (Refused told) v i u r r2 z (inl p) = break_down c s seals set f _ w n told v (quietly trace w (Deliver ClientSide n) (Refused told) (λ j. (refl, refl)) i) p.0 p.1
  keeps trace w (Deliver ClientSide n) (Refused told) v i u r r2 z (inr p) = same trace w (Deliver ClientSide n) (Refused told) v (λ k. (refl, refl)) i p.1
  keeps trace w (Cut ServerSide keep) Done v i u r r2 z p = cut_up c s seals set f _ w keep v (quietly trace w (Cut ServerSide keep) Done (λ k. (refl, refl)) i) p
  keeps trace w (Cut ClientSide keep) Done v i u r r2 z p = cut_down c s seals set f _ w keep v (quietly trace w (Cut ClientSide keep) Done (λ k. (refl, refl)) i) p
  keeps trace w (Fail ClientSide) Done v i u r r2 z p =
      along _ _ v p (client_fails c s seals set f (with_entry trace (Fail ClientSide) Done) w (Told failed_by_hand) (quietly trace w (Fail ClientSide) Done (λ k. (refl, refl)) i))
  keeps trace w (Fail ServerSide) Done v i u r r2 z p =
      along _ _ v p (server_fails c s seals set f (with_entry trace (Fail ServerSide) Done) w (Told failed_by_hand) (quietly trace w (Fail ServerSide) Done (λ k. (refl, refl)) i))
  keeps trace w event reply v i u r r2 z p = same trace w event reply v (λ k. (refl, refl)) i (first_of (assumption, cc, search rules))

  -- the settings stay, and no step fails a side so that it is an end
  pub ruled : (w : Net CO CI SO SI) (event : Event) (reply : Reply) (v : Net CO CI SO SI) → Steps c s seals w event reply v → Ruled w → Ruled v
  ruled w event reply v p u =
      let stays = stepped c s seals steady.fixed w event reply v p in
      record { is_set = (stays.rules ∙ u.is_set.0, stays.limit ∙ u.is_set.1, stays.services ∙ u.is_set.2); plain = plainly c s seals w event reply v p u.plain }

  -- right at the first state of what is left of a run
  pub now_right : (w : Net CO CI SO SI) (rest : List Entry) (v : Net CO CI SO SI) → (p : Runs c s seals w rest v) → IsRightRun c s seals f w rest v p → Right w
  now_right w [] v p right = right
  now_right w (e ∷ rest) v p right = right.0

  -- WHERE A RUN STANDS: the invariant, what it needs to go on, and what is left of the run.
  pub record Stands (t : List Entry) (w : Net CO CI SO SI) (rest : List Entry) (v : Net CO CI SO SI) : Type 0 where
    pub kept : Kept t w
    pub is_ruled : Ruled w
    pub run : Runs c s seals w rest v
    pub right : IsRightRun c s seals f w rest v run
    pub clean : set.clean → CleanRun t w rest v

  pub step_on : {t : List Entry} {w : Net CO CI SO SI} {e : Entry} {rest : List Entry} {v : Net CO CI SO SI} → (x : Stands t w (e ∷ rest) v) → Stands (t ++ e ∷ []) x.run.0 rest v
  step_on {t} {w} {e} {rest} {v} x = record {
    kept = keeps t w e.event e.reply x.run.0 x.kept x.is_ruled x.right.0 (now_right x.run.0 rest v x.run.2 x.right.1) (λ clean. first_step c s seals set.rules f (x.clean clean) x.run) x.run.1;
    is_ruled = ruled w e.event e.reply x.run.0 x.run.1 x.is_ruled;
    run = x.run.2;
    right = x.right.1;
    clean = λ clean. later_run c s seals set.rules f (x.clean clean) x.run;
  }

  pub kept_at_end : (t rest : List Entry) (w v : Net CO CI SO SI) → Stands t w rest v → Kept (t ++ rest) v
  kept_at_end t [] w v x = subst (λ (y : List Entry). Kept y v) (sym (append-nil t)) (along t w v x.run x.kept)
  kept_at_end t (e ∷ rest) w v x = subst (λ (y : List Entry). Kept y v) (append_assoc t (e ∷ []) rest) (kept_at_end (t ++ e ∷ []) rest x.run.0 v (step_on x))

  -- up to a place, and where it stands there
  stands_at : (t front back : List Entry) (w v : Net CO CI SO SI) → Stands t w (front ++ back) v → (mid : Net CO CI SO SI) × Stands (t ++ front) mid back v
  stands_at t [] back w v x = (w, subst (λ (y : List Entry). Stands y w back v) (sym (append-nil t)) x)
  stands_at t (e ∷ front) back w v x =
      let l = stands_at (t ++ e ∷ []) front back x.run.0 v (step_on x) in
      (l.0, subst (λ (y : List Entry). Stands y l.0 back v) (append_assoc t (e ∷ []) front) l.1)

  -- it holds at the start
  pub fresh : (w : Net CO CI SO SI) → IsFresh c s w → Kept [] w
  fresh w n = record {
    up = [];
    down = [];
    stories = λ k. record {
      origin = Unborn;
      so_far = Idle;
      known = record {
        young = λ y. refl;
        server = record { within = tt; is_work = refl; works_is = refl; items = []; are_items = tt; may_have = refl; ups_is = refl; jobs_is = ap (λ (x : ServerCore SO SI). jobs_at x.state.jobs.list k) n.server; down = tt };
        client = (ap (λ (x : ClientCore CO CI). call_at x.state k) n.client, ap (λ (x : ClientCore CO CI). stream_at x.state k) n.client, refl);
        tidy = λ clean. refl;
        up = record { is = record { none = refl; errors = nothing_read } };
        down = record { is = (record { none = refl; errors = nothing_read }, refl) };
      };
    };
    numbers = subst (λ (x : ServerCore SO SI). Numbers f (counts x.state.jobs) [] w.client.state.next) (sym n.server) (fresh_numbers f w.client.state.next);
    own = tt;
    upward = starts c.out s.in_ w.client.connection w.server.connection w.up (ap (λ (x : ClientCore CO CI). x.connection.outbox.queue) n.client) (ap (λ (x : ServerCore SO SI). x.connection.decoder) n.server) n.up n.up_paired;
    downward = starts s.out c.in_ w.server.connection w.client.connection w.down (ap (λ (x : ServerCore SO SI). x.connection.outbox.queue) n.server) (ap (λ (x : ClientCore CO CI). x.connection.decoder) n.client) n.down n.down_paired;
  }

  pub begins : (w : Net CO CI SO SI) (trace : List Entry) (v : Net CO CI SO SI) → IsSet c s seals set f [] w → IsFresh c s w → (r : Runs c s seals w trace v) → IsRightRun c s seals f w trace v r → (set.clean → CleanRun [] w trace v) → Stands [] w trace v
  begins w trace v is n r right clean = record { kept = fresh w n; is_ruled = record { is_set = is; plain = fresh_plain n }; run = r; right = right; clean = clean }

  -- AT EACH PLACE the items of each id are in order.
  pub in_order : (w : Net CO CI SO SI) (trace : List Entry) (v : Net CO CI SO SI) → Stands [] w trace v → (front back : List Entry) → trace ≡ front ++ back → (id : ℕ) → AreInOrder set.rules set.limit (flows f id front)
  in_order w trace v x front back is id = in_order_here ((stands_at [] front back w v (subst (λ (t : List Entry). Stands [] w t v) is x)).1.kept.stories id)

-- Both sides live at each place of a clean quiet run: no step clears a failure, and the last deliveries found none. No pipe was
-- cut, and the server isn't draining.
use Rattle.ttrpc_world.proofs.Failing.{lives_back}
use Rattle.ttrpc_world.proofs.Serves.{acts_so, one_less, passes_so}
use Rattle.ttrpc_world.proofs.Words.{[], Answer, ap, AreClean, Bool, Carry, ClientSide, Connection, Count, Deliver, Delivers, DeliversUp, Done, Entry, Event, false, Feeds, Halves, Hears, inl, inr, is_clean_event, is_clean_reply, is_open, is_over, IsDrained, IsFresh, IsOpen, List, Lives, Net, None, not, other, Pipe, refl, Reply, Rules, rules, Runs, scene, Server, ServerCore, ServerSide, serving, Side, Steps, subst, sym, take, taken_from, Tick, true, Ways, with_server, ◌⊎◌, ℕ, ◌++◌, ◌∙◌, ◌∷◌, ◌≡◌}

-- A whole pipe feeds what it delivers, and no end is heard after it.
pub fed_whole : {S O I : Type 0} {w : Ways S O I} {s t : S} {old new : Connection O I} {p : Pipe} {now n k : ℕ} → p.cut ≡ false → Delivers w s old p now n k t new → Feeds w s old (take k p.bytes) now t new
fed_whole {w = w} {s} {t} {old} {new} {p} {now} {k = k} whole d =
    let whole_still : is_over (taken_from p k) ≡ false = rw whole refl in
    let same : new ≡ d.mid = subst (λ (b : Bool). Hears b d.mid new) whole_still d.hears in
    subst (λ (y : Connection _ _). Feeds w s old (take k p.bytes) now t y) (sym same) d.does

-- the last four events of a drained run
abbrev pub last_four : {trace : List Entry} → IsDrained trace → List Entry
last_four d = record { event = Carry d.from d.a; reply = Count 0 } ∷ record { event = Carry (other d.from) d.b; reply = Count 0 }
    ∷ record { event = Deliver d.to d.c; reply = Count 0 } ∷ record { event = Deliver (other d.to) d.d; reply = Count 0 } ∷ []

module _ {CO CI SO SI : Type 0} (c : Halves CO CI) (s : Halves SO SI) (seals : Bool) where
  -- who lives behind a run lived all along
  pub lived : (w : Net CO CI SO SI) (rest : List Entry) (v : Net CO CI SO SI) → Runs c s seals w rest v → Lives v → Lives w
  lived w [] v same h = subst Lives same h
  lived w (e ∷ rest) v r h = lives_back c s seals w e.event e.reply r.0 r.1 (lived r.0 rest v r.2 h)

  -- ---- pipes stay whole, and the server goes on taking

  takes_stay : (w : Net CO CI SO SI) (event : Event) (reply : Reply) (v : Net CO CI SO SI) → is_clean_event event ≡ true → is_clean_reply reply ≡ true → Steps c s seals w event reply v → not v.server.state.draining ≡ not w.server.state.draining
  takes_stay w (Answer id result) Done v e r p = ap (λ (x : Server). not x.draining) (one_less c s seals w.server id result v.server p.0).2
  takes_stay w (Deliver ServerSide n) (Count k) v e r (inr p) = ap (λ (x : Net _ _ _ _). not x.server.state.draining) p.only
  takes_stay w (Tick now) Done v e r p =
      passes_so s.out (λ a x b y. not b.draining ≡ not a.draining) (λ a x. refl) (λ a b d x y z job e later. later ∙ ap (λ (t : Server). not t.draining) e.state) w.server.state.rules w.server.connection.failure w.server now v.server p.serves
  takes_stay w (Deliver ServerSide n) (Count k) v e r (inl p) =
      acts_so (serving s.out s.in_) w.moment (λ x y. not y.state.draining ≡ not x.state.draining) (λ x. refl) (λ f fs x y a later. later ∙ a.1.takes) p.does.does.frames (scene w.server.state w.server.connection) (scene v.server.state p.does.mid) p.does.does.acts
  takes_stay w event reply v e r p = first_of (cc, search rules)

  abbrev CutsStay : Net CO CI SO SI → Net CO CI SO SI → Type 0
  CutsStay w v = (v.up.cut ≡ w.up.cut) × (v.down.cut ≡ w.down.cut)

  cuts_stay : (w : Net CO CI SO SI) (event : Event) (reply : Reply) (v : Net CO CI SO SI) → is_clean_event event ≡ true → is_clean_reply reply ≡ true → Steps c s seals w event reply v → CutsStay w v
  cuts_stay w (Deliver ServerSide n) (Count k) v e r (inl p) = subst (λ (x : Net CO CI SO SI). CutsStay w x) (sym p.only) (refl, refl)
  cuts_stay w (Deliver ServerSide n) (Count k) v e r (inr p) = subst (λ (x : Net CO CI SO SI). CutsStay w x) (sym p.only) (refl, refl)
  cuts_stay w event reply v e r p = (first_of (cc, search rules), first_of (cc, search rules))

  -- A CLEAN STEP LEAVES BOTH PIPES WHOLE, and the server taking.
  pub stays_open : (w : Net CO CI SO SI) (event : Event) (reply : Reply) (v : Net CO CI SO SI) → is_clean_event event ≡ true → is_clean_reply reply ≡ true → Steps c s seals w event reply v → IsOpen w → IsOpen v
  stays_open w event reply v e r p o = let cuts = cuts_stay w event reply v e r p in record { up = cuts.0 ∙ o.up; down = cuts.1 ∙ o.down; takes = takes_stay w event reply v e r p ∙ o.takes }

  pub stay_open : (rules : Rules) (f : ℕ → ℕ) (front : List Entry) (w : Net CO CI SO SI) (rest : List Entry) (v : Net CO CI SO SI) → AreClean rules f front rest → Runs c s seals w rest v → IsOpen w → IsOpen v
  stay_open rules f front w [] v clean same o = subst IsOpen (sym same) o
  stay_open rules f front w (e ∷ rest) v clean r o = stay_open rules f (front ++ e ∷ []) r.0 rest v clean.1 r.2 (stays_open w e.event e.reply r.0 clean.0.event_is clean.0.reply_is r.1 o)

  -- ---- what the last four events are

  pub runs_joined : (w : Net CO CI SO SI) (front : List Entry) (mid : Net CO CI SO SI) (back : List Entry) (v : Net CO CI SO SI) → Runs c s seals w front mid → Runs c s seals mid back v → Runs c s seals w (front ++ back) v
  runs_joined w [] mid back v same r = subst (λ (x : Net CO CI SO SI). Runs c s seals x back v) same r
  runs_joined w (e ∷ front) mid back v p r = (p.0, p.1, runs_joined p.0 front mid back v p.2 r)

  pub clean_front : (rules : Rules) (f : ℕ → ℕ) (done front back : List Entry) → AreClean rules f done (front ++ back) → AreClean rules f done front
  clean_front rules f done [] back clean = tt
  clean_front rules f done (e ∷ front) back clean = (clean.0, clean_front rules f (done ++ e ∷ []) front back clean.1)

  -- a delivery found the server short of room, and changed nothing
  pub record FindsNoRoom (w : Net CO CI SO SI) (k : ℕ) (v : Net CO CI SO SI) : Type 0 where
    pub none : k ≡ 0
    pub alive : w.server.connection.failure ≡ None
    pub shut : is_open (serving s.out s.in_) w.server.state w.server.connection.outbox ≡ false
    pub same : v ≡ w

  -- a server that isn't draining is fed by each delivery, or short of room
  pub fed_or_short : {w v : Net CO CI SO SI} {n k : ℕ} → IsOpen w → Steps c s seals w (Deliver ServerSide n) (Count k) v → DeliversUp c s seals w n k v ⊎ FindsNoRoom w k v
  fed_or_short o (inl p) = inl p
  fed_or_short {w} {v} o (inr p) =
      let whole : is_over w.up ≡ false = rw o.up refl in
      let same : v.server.connection ≡ w.server.connection = subst (λ (b : Bool). Hears b w.server.connection v.server.connection) whole p.hears in
      inr (record { none = p.none; alive = p.alive; shut = p.shut; same = p.only ∙ ap (λ (d : Connection SO SI). with_server w (record w.server { connection = d })) same })

  up_lives : {w v : Net CO CI SO SI} {n k : ℕ} → IsOpen w → Steps c s seals w (Deliver ServerSide n) (Count k) v → v.server.connection.failure ≡ None
  up_lives o p = elim (fed_or_short o p) [
    | inl up ↦ (fed_whole o.up up.does).still
    | inr short ↦ ap (λ (y : Net CO CI SO SI). y.server.connection.failure) short.same ∙ short.alive
  ]

  up_leaves_client : {w v : Net CO CI SO SI} {n k : ℕ} → IsOpen w → Steps c s seals w (Deliver ServerSide n) (Count k) v → v.client.connection.failure ≡ w.client.connection.failure
  up_leaves_client o p = elim (fed_or_short o p) [
    | inl up ↦ ap (λ (y : Net CO CI SO SI). y.client.connection.failure) up.only
    | inr short ↦ ap (λ (y : Net CO CI SO SI). y.client.connection.failure) short.same
  ]

  -- Deliveries that reply a count leave their sides alive.
  last_two : (to : Side) (a b : ℕ) (w x v : Net CO CI SO SI) → IsOpen w → IsOpen x → Steps c s seals w (Deliver to a) (Count 0) x → Steps c s seals x (Deliver (other to) b) (Count 0) v → Lives v
  last_two ServerSide a b w x v o o2 p q = record { client = (fed_whole o2.down q.does).still; server = ap (λ (y : Net CO CI SO SI). y.server.connection.failure) q.only ∙ up_lives o p }
  last_two ClientSide a b w x v o o2 p q = record { server = up_lives o2 q; client = up_leaves_client o2 q ∙ (fed_whole o.down p.does).still }

  -- At the end of a clean drained run both sides live.
  lives_behind : (rules : Rules) (f : ℕ → ℕ) {trace : List Entry} (d : IsDrained trace) (done front : List Entry) (w v : Net CO CI SO SI) → IsOpen w → AreClean rules f done (front ++ last_four d) → Runs c s seals w (front ++ last_four d) v → Lives v
  lives_behind rules f d done [] w v o clean r =
      let o1 = stays_open w (Carry d.from d.a) (Count 0) r.0 refl refl r.1 o in
      let o2 = stays_open r.0 (Carry (other d.from) d.b) (Count 0) r.2.0 refl refl r.2.1 o1 in
      let o3 = stays_open r.2.0 (Deliver d.to d.c) (Count 0) r.2.2.0 refl refl r.2.2.1 o2 in
      subst Lives (sym r.2.2.2.2) (last_two d.to d.c d.d r.2.0 r.2.2.0 r.2.2.2.0 o2 o3 r.2.2.1 r.2.2.2.1)
  lives_behind rules f d done (e ∷ front) w v o clean r =
      lives_behind rules f d (done ++ e ∷ []) front r.0 v (stays_open w e.event e.reply r.0 clean.0.event_is clean.0.reply_is r.1 o) clean.1 r.2

  pub lives_at_end : (rules : Rules) (f : ℕ → ℕ) (w : Net CO CI SO SI) (trace : List Entry) (v : Net CO CI SO SI) → IsOpen w → AreClean rules f [] trace → IsDrained trace → Runs c s seals w trace v → Lives v
  lives_at_end rules f w trace v o clean d run =
      lives_behind rules f d [] d.front w v o (subst (λ (t : List Entry). AreClean rules f [] t) d.ends clean) (subst (λ (t : List Entry). Runs c s seals w t v) d.ends run)

pub fresh_open : {CO CI SO SI : Type 0} {c : Halves CO CI} {s : Halves SO SI} {w : Net CO CI SO SI} → IsFresh c s w → IsOpen w
fresh_open n = record { up = ap (λ (p : Pipe). p.cut) n.up; down = ap (λ (p : Pipe). p.cut) n.down; takes = ap (λ (x : ServerCore _ _). not x.state.draining) n.server }

-- AT EACH PLACE of a clean run that ends drained both sides live, both pipes are whole and the server takes.
pub lives_at : {CO CI SO SI : Type 0} (c : Halves CO CI) (s : Halves SO SI) (seals : Bool) (w mid v : Net CO CI SO SI) (front back : List Entry) (rules : Rules) (f : ℕ → ℕ) → IsFresh c s w → Runs c s seals w front mid → Runs c s seals mid back v
    → AreClean rules f [] (front ++ back) → IsDrained (front ++ back) → Lives mid × IsOpen mid
lives_at c s seals w mid v front back rules f fresh one two clean drained =
    let o = fresh_open fresh in (
      lived c s seals mid back v two (lives_at_end c s seals rules f w (front ++ back) v o clean drained (runs_joined c s seals w front mid back v one two)),
      stay_open c s seals rules f [] w front mid (clean_front c s seals rules f [] front back clean) one o,
    )

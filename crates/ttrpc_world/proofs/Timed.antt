-- A call that waits has the deadline of its call in the trace. So a moment that reaches no deadline finds none due, and changes
-- nothing at the client.
use Rattle.ttrpc_world.proofs.Keeps.{Keeps}
use Rattle.ttrpc_world.proofs.Serves.{acts_so}
use Rattle.ttrpc_world.proofs.Words.{[], Act, act_of, acts, ActsAll, ap, append_assoc, arith, arrives, AtClient, Bool, Born, ByCall, ByOpen, CallState, call_at, Called, CallEvent, calling, calls, calls_append, cases_eq, Client, ClientCore, ClientSide, Count, deadline_of, Deliver, Done, due_at, Ended, Entry, eq-eqb, Event, Expired, expired_at, Failure, false, Given, Halves, if◌then◌else◌, Incoming, inl, inr, is_call_due, is_clean_event, is_clean_reply, is_none_of, is_some, IsFresh, IsInTime, IsPatient, CallResult, call_result_of, LandsOn, left_of, List, moment_after, moment_behind, Named, negsuc, Net, None, number_of, only_if, only_one, Option, or_parts, Origin, Outcome, outcomes, Passes, pos, reaches, reaches_at, reaches_one, refl, Refused, Reply, Request, rules, said_then, Scene, scene, ServerSide, Settings, Some, Steps, StreamState, subst, suc, sym, Tick, true, Unborn, Waiting, with_entry, zero, ℕ, ℤ, ◌&&◌, ◌++◌, ◌+◌, ◌∙◌, ◌∷◌, ◌≡◌, ◌≢◌, ◌≤◌, ◌⊎◌}

-- the call of this id is made at such a moment, and this is right of it
abbrev pub Makes : (Option CallState → Type 0) → ℕ → ℕ → Event → Reply → Type 0
Makes P k moment (CallEvent request) (Named id) = (id ≡ k) × P (Some (Waiting (deadline_of moment request.timeout_nano)))
Makes P k moment event reply = ⊥

-- it is made, and this is its deadline
abbrev pub IsCallOf : ℕ → Option ℕ → ℕ → Event → Reply → Type 0
IsCallOf k d = Makes (λ e. e ≡ Some (Waiting d)) k

-- calls that wait alike have the same deadline
same_deadline : (a b : Option ℕ) → Some (Waiting a) ≡ Some (Waiting b) → b ≡ a
same_deadline a b e = cc

-- it is among these entries, of which the first stands at such a moment
abbrev pub HasCall : ℕ → Option ℕ → ℕ → List Entry → Type 0
HasCall k d moment [] = ⊥
HasCall k d moment (e ∷ es) = IsCallOf k d moment e.event e.reply ⊎ HasCall k d (moment_after moment e.event e.reply) es

pub has_still : (k : ℕ) (d : Option ℕ) (moment : ℕ) (es : List Entry) (event : Event) (reply : Reply) → HasCall k d moment es → HasCall k d moment (with_entry es event reply)
has_still k d moment [] event reply h = absurd h
has_still k d moment (e ∷ es) event reply (inl h) = inl h
has_still k d moment (e ∷ es) event reply (inr h) = inr (has_still k d (moment_after moment e.event e.reply) es event reply h)

pub has_now : (k : ℕ) (d : Option ℕ) (moment : ℕ) (es : List Entry) (event : Event) (reply : Reply) → IsCallOf k d (moment_behind moment es) event reply → HasCall k d moment (with_entry es event reply)
has_now k d moment [] event reply h = inl h
has_now k d moment (e ∷ es) event reply h = inr (has_now k d (moment_after moment e.event e.reply) es event reply h)

pub behind_entry : (moment : ℕ) (es : List Entry) (event : Event) (reply : Reply) → moment_behind moment (with_entry es event reply) ≡ moment_after (moment_behind moment es) event reply
behind_entry moment [] event reply = refl
behind_entry moment (e ∷ es) event reply = behind_entry (moment_after moment e.event e.reply) es event reply

-- ---- a moment that reaches no deadline

and_false : (a b : Bool) → b ≡ true → (a && b) ≡ false → a ≡ false
and_false false b h e = refl
and_false true b h e = let bad : true ≡ false = sym h ∙ e in cc

reaches_not : (f : ℕ → ℕ) (front : List Entry) (now moment k : ℕ) (d : Option ℕ) (event : Event) (reply : Reply) → IsCallOf k d moment event reply → outcomes (acts f k front) ≡ [] → reaches_at f front now moment event reply ≡ false → reaches now d ≡ false
reaches_not f front now moment k d (CallEvent request) (Named id) is none h =
    ap (reaches now) (same_deadline _ d is.1) ∙ and_false (reaches now (deadline_of moment request.timeout_nano)) (is_none_of (outcomes (acts f id front))) (ap is_none_of (ap (λ (i : ℕ). outcomes (acts f i front)) is.0 ∙ none)) h
reaches_not f front now moment k d event reply is none h = absurd is

pub in_time : (f : ℕ → ℕ) (front : List Entry) (now moment k : ℕ) (d : Option ℕ) (es : List Entry) → HasCall k d moment es → outcomes (acts f k front) ≡ [] → reaches_one f front now moment es ≡ false → reaches now d ≡ false
in_time f front now moment k d [] is none h = absurd is
in_time f front now moment k d (e ∷ es) (inl is) none h =
    reaches_not f front now moment k d e.event e.reply is none (or_parts (reaches_at f front now moment e.event e.reply) (reaches_one f front now (moment_after moment e.event e.reply) es) h).0
in_time f front now moment k d (e ∷ es) (inr has) none h =
    in_time f front now (moment_after moment e.event e.reply) k d es has none (or_parts (reaches_at f front now moment e.event e.reply) (reaches_one f front now (moment_after moment e.event e.reply) es) h).1

-- ---- a call that waits waited before, or was made

left_waits : (failed : Bool) (e : Option CallState) (d : Option ℕ) → left_of failed e ≡ Some (Waiting d) → e ≡ Some (Waiting d)
left_waits false (Some (Waiting x)) d h = h
left_waits true (Some (Waiting x)) d h = cc
left_waits failed e d h = cc

-- nothing but an expiry comes of a moment
if_is : (due : Bool) (c x : CallState) → (x ≡ Expired → ⊥) → Some (if due then Expired else c) ≡ Some x → Some c ≡ Some x
if_is false c x never h = h
if_is true c x never h = absurd (never (let same : Expired ≡ x = cc in sym same))

pub expired_is : (now : ℕ) (e : Option CallState) (x : CallState) → (x ≡ Expired → ⊥) → expired_at now e ≡ Some x → e ≡ Some x
expired_is now None x never h = cc
expired_is now (Some c) x never h = if_is (is_call_due now c) c x never h

landed_waits : (landing : CallResult) (e e2 : Option CallState) (d : Option ℕ) → LandsOn landing e e2 → e2 ≡ Some (Waiting d) → e ≡ Some (Waiting d)
landed_waits landing (Some (Waiting x)) e2 d l h = let bad : Some (Ended l.0) ≡ Some (Waiting d) = sym l.2 ∙ h in cc
landed_waits landing e e2 d l h = sym l ∙ h

-- ---- the moment of its call

-- it was made at a moment that has passed by now, and is among the calls of its id
pub record WasCalled (k : ℕ) (d : Option ℕ) (t : List Entry) (now : ℕ) : Type 0 where
  pub moment : ℕ
  pub request : Request
  pub early : moment ≤ now
  pub deadline : d ≡ deadline_of moment request.timeout_nano
  pub named : (f : ℕ → ℕ) → (front back : List Request) × (calls (acts f k t) ≡ front ++ request ∷ back)

calls_grow : (f : ℕ → ℕ) (k : ℕ) (t : List Entry) (event : Event) (reply : Reply) → calls (acts f k (with_entry t event reply)) ≡ calls (acts f k t) ++ calls (act_of f k event reply)
calls_grow f k t event reply = ap calls (said_then (act_of f k) t event reply) ∙ calls_append (acts f k t) (act_of f k event reply)

called_still : (k : ℕ) (d : Option ℕ) (t : List Entry) (now later : ℕ) (event : Event) (reply : Reply) → now ≤ later → WasCalled k d t now → WasCalled k d (with_entry t event reply) later
called_still k d t now later event reply rises w = record {
  moment = w.moment;
  request = w.request;
  early = omega (arith, w.early, rises);
  deadline = w.deadline;
  named = λ f. let n = w.named f in (n.0, n.1 ++ calls (act_of f k event reply), calls_grow f k t event reply ∙ ap (λ (xs : List Request). xs ++ calls (act_of f k event reply)) n.2 ∙ append_assoc n.0 (w.request ∷ n.1) (calls (act_of f k event reply)));
}

called_now : (k : ℕ) (d : Option ℕ) (t : List Entry) (now later : ℕ) (event : Event) (reply : Reply) → now ≤ later → IsCallOf k d now event reply → WasCalled k d (with_entry t event reply) later
called_now k d t now later (CallEvent request) (Named id) rises is = record {
  moment = now;
  request = request;
  early = rises;
  deadline = same_deadline _ d is.1;
  named = λ f. (calls (acts f k t), [], calls_grow f k t (CallEvent request) (Named id) ∙ ap (λ (b : Bool). calls (acts f k t) ++ calls (only_if b (Called request))) (eq-eqb id k is.0));
}
called_now k d t now later event reply rises is = absurd is

-- what was made later is due no earlier
later_due : (moment now : ℕ) (timeout : ℤ) → moment ≤ now → IsPatient (deadline_of moment timeout) (deadline_of now timeout)
later_due moment now (pos zero) le = tt
later_due moment now (pos (suc n)) le = (moment + number_of (pos (suc n)), refl, omega (arith, le))
later_due moment now (negsuc n) le = (moment + number_of (negsuc n), refl, omega (arith, le))

pub was_timely : (f : ℕ → ℕ) (k : ℕ) (q : Request) (d : Option ℕ) (t : List Entry) (now : ℕ) → WasCalled k d t now → calls (acts f k t) ≡ q ∷ [] → IsPatient d (deadline_of now q.timeout_nano)
was_timely f k q d t now w one =
    let n = w.named f in
    let same : w.request ≡ q = (only_one n.0 n.1 w.request q (sym n.2 ∙ one)).1 in
    rw (w.deadline, same) (later_due w.moment now q.timeout_nano w.early)

same_least : (a b d : ℕ) → a ≤ b → d ≡ b → a ≤ d
same_least a b d le is = omega (arith, le, is)

-- WHAT IS RIGHT OF A CALL BEHIND A CLEAN STEP was so before it, or the call was made: where it is so of what asking leaves, of what
-- a moment leaves, and of what a delivery leaves.
module _ {CO CI SO SI : Type 0} (c : Halves CO CI) (s : Halves SO SI) (seals : Bool) (P : Option CallState → Type 0) (left : (failed : Bool) (e : Option CallState) → P (left_of failed e) → P e) (passed : (now : ℕ) (e : Option CallState) → P (expired_at now e) → P e) where
  by_rule : (rule : Option CallState → Option CallState) → ((e : Option CallState) → P (rule e) → P e) → (old new : Client) (id k : ℕ) → call_at new id ≡ rule (call_at old id) → ((j : ℕ) → j ≢ id → call_at new j ≡ call_at old j) → P (call_at new k) → P (call_at old k)
  by_rule rule back old new id k own others h = elim (cases_eq id k) [
    | inl e ↦ back (call_at old k) (subst P (subst (λ (i : ℕ). call_at new i ≡ rule (call_at old i)) e own) h)
    | inr e ↦ subst P (others k (λ same. e (sym same))) h
  ]

  pub passed_back : (failure : Option Failure) (old : ClientCore CO CI) (now : ℕ) (new : ClientCore CO CI) (k : ℕ) → Passes seals failure old now new → P (call_at new.state k) → P (call_at old.state k)
  passed_back None old now new k p h = passed now (call_at old.state k) (subst P (p.expires.calls k) h)
  passed_back (Some why) old now new k same h = subst (λ (x : ClientCore CO CI). P (call_at x.state k)) same h

  pub called_back : (w : Net CO CI SO SI) (event : Event) (reply : Reply) (v : Net CO CI SO SI) (k : ℕ) → is_clean_event event ≡ true → is_clean_reply reply ≡ true
      → ((n j : ℕ) → event ≡ Deliver ClientSide n → reply ≡ Count j → Steps c s seals w (Deliver ClientSide n) (Count j) v → P (call_at v.client.state k) → P (call_at w.client.state k))
      → Steps c s seals w event reply v → P (call_at v.client.state k) → P (call_at w.client.state k) ⊎ Makes P k w.moment event reply
  called_back w (CallEvent request) (Named id) v k e r delivered p h = elim (cases_eq id k) [
    | inl same ↦ inr (same, subst P (subst (λ (i : ℕ). call_at v.client.state i ≡ Some (Waiting (deadline_of w.moment request.timeout_nano))) same p.1.own) h)
    | inr other ↦ inl (subst P (p.1.others k (λ same. other (sym same))) h)
  ]
  called_back w (Outcome id) (Given given) v k e r delivered p h = inl (by_rule (left_of (is_some w.client.connection.failure)) (left (is_some w.client.connection.failure)) w.client.state v.client.state id k p.0.own p.0.others h)
  called_back w (Tick now) Done v k e r delivered p h = inl (passed_back w.client.connection.failure w.client now v.client k p.does h)
  called_back w (Deliver ClientSide n) (Count j) v k e r delivered p h = inl (delivered n j refl refl p h)
  called_back w event reply v k e r delivered p h =
      let same : call_at v.client.state k ≡ call_at w.client.state k = first_of (cc, search rules) in
      inl (subst P same h)

module _ {CO CI SO SI : Type 0} (c : Halves CO CI) (s : Halves SO SI) (seals : Bool) where
  acted_waits : (fs : List Incoming) (old new : Scene Client CO CI) (k : ℕ) (d : Option ℕ) → ActsAll (calling c.out c.in_) 0 old fs new → call_at new.state k ≡ Some (Waiting d) → call_at old.state k ≡ Some (Waiting d)
  acted_waits fs old new k d = acts_so (calling c.out c.in_) 0 (λ x y. call_at y.state k ≡ Some (Waiting d) → call_at x.state k ≡ Some (Waiting d)) (λ x h. h) (λ f fs x y acts later h.
      let l = acts.1.reacts.lands in
      let a = arrives f acts.1.opening 0 in
      let landing : CallResult = call_result_of a.header a.opening in
      elim (cases_eq a.header.stream_id k) [
        | inl e ↦ landed_waits landing (call_at x.state k) (call_at acts.0.state k) d (subst (λ (i : ℕ). LandsOn landing (call_at x.state i) (call_at acts.0.state i)) e l.own) (later h)
        | inr e ↦ sym (l.others k (λ same. e (sym same))) ∙ later h
      ]) fs old new

  pub passed_waits : (failure : Option Failure) (old : ClientCore CO CI) (now : ℕ) (new : ClientCore CO CI) (k : ℕ) (d : Option ℕ) → Passes seals failure old now new → call_at new.state k ≡ Some (Waiting d) → call_at old.state k ≡ Some (Waiting d)
  passed_waits failure old now new k d = passed_back c s seals (λ (e : Option CallState). e ≡ Some (Waiting d)) (λ failed e. left_waits failed e d) (λ at e. expired_is at e (Waiting d) (λ same. cc)) failure old now new k

  waited : (w : Net CO CI SO SI) (event : Event) (reply : Reply) (v : Net CO CI SO SI) (k : ℕ) (d : Option ℕ) → is_clean_event event ≡ true → is_clean_reply reply ≡ true → Steps c s seals w event reply v
      → call_at v.client.state k ≡ Some (Waiting d) → (call_at w.client.state k ≡ Some (Waiting d)) ⊎ IsCallOf k d w.moment event reply
  waited w event reply v k d e r p h =
      called_back c s seals (λ (x : Option CallState). x ≡ Some (Waiting d)) (λ failed x. left_waits failed x d) (λ at x. expired_is at x (Waiting d) (λ same. cc)) w event reply v k e r
      (λ n j is count q. acted_waits q.does.does.frames (scene w.client.state w.client.connection) (scene v.client.state q.does.mid) k d q.does.does.acts) p h

  moment_goes : (w : Net CO CI SO SI) (event : Event) (reply : Reply) (v : Net CO CI SO SI) → Steps c s seals w event reply v → v.moment ≡ moment_after w.moment event reply
  moment_goes w (Tick now) Done v p = ap (λ (x : Net CO CI SO SI). x.moment) p.only
  moment_goes w (Deliver ServerSide n) (Count k) v (inl p) = ap (λ (x : Net CO CI SO SI). x.moment) p.only
  moment_goes w (Deliver ServerSide n) (Refused told) v (inl p) = ap (λ (x : Net CO CI SO SI). x.moment) p.1
  moment_goes w (Deliver ClientSide n) (Refused told) v (inl p) = ap (λ (x : Net CO CI SO SI). x.moment) p.1
  moment_goes w (Deliver ServerSide n) (Count k) v (inr p) = ap (λ (x : Net CO CI SO SI). x.moment) p.only
  moment_goes w (Deliver to n) (Refused told) v (inr p) = ap (λ (x : Net CO CI SO SI). x.moment) p.1
  moment_goes w event reply v p = first_of (cc, search rules)

  -- no moment is earlier than the one before it
  moment_rises : (w : Net CO CI SO SI) (event : Event) (reply : Reply) (v : Net CO CI SO SI) → Steps c s seals w event reply v → w.moment ≤ v.moment
  moment_rises w (Tick now) Done v p = same_least w.moment now v.moment p.later (ap (λ (x : Net CO CI SO SI). x.moment) p.only)
  moment_rises w event reply v p = same_least w.moment w.moment v.moment (omega arith) (moment_goes w event reply v p)

  -- THE DEADLINES OF A NET are those of its trace: its moment is the last one that came, and each call that waits has the
  -- deadline of its call.
  pub record IsTimed (t : List Entry) (w : Net CO CI SO SI) : Type 0 where
    pub moment : w.moment ≡ moment_behind 0 t
    pub calls : (k : ℕ) (d : Option ℕ) → call_at w.client.state k ≡ Some (Waiting d) → HasCall k d 0 t
    pub begun : (k : ℕ) (d : Option ℕ) → call_at w.client.state k ≡ Some (Waiting d) → WasCalled k d t w.moment

  -- EACH CLEAN STEP KEEPS THEM.
  pub timed : (t : List Entry) (w : Net CO CI SO SI) (event : Event) (reply : Reply) (v : Net CO CI SO SI) → is_clean_event event ≡ true → is_clean_reply reply ≡ true → Steps c s seals w event reply v → IsTimed t w → IsTimed (with_entry t event reply) v
  timed t w event reply v e r p h = record {
    moment = moment_goes w event reply v p ∙ ap (λ (m : ℕ). moment_after m event reply) h.moment ∙ sym (behind_entry 0 t event reply);
    calls = λ k d waits. elim (waited w event reply v k d e r p waits) [
      | inl was ↦ has_still k d 0 t event reply (h.calls k d was)
      | inr is ↦ has_now k d 0 t event reply (subst (λ (m : ℕ). IsCallOf k d m event reply) h.moment is)
    ];
    begun = λ k d waits. elim (waited w event reply v k d e r p waits) [
      | inl was ↦ called_still k d t w.moment v.moment event reply (moment_rises w event reply v p) (h.begun k d was)
      | inr is ↦ called_now k d t w.moment v.moment event reply (moment_rises w event reply v p) is
    ];
  }

  -- a call that waits has given no outcome
  waits_ungiven : (k : ℕ) (o : Origin) (a : List Act) (e : Option CallState) (st : Option StreamState) (d : Option ℕ) → AtClient o a e st → e ≡ Some (Waiting d) → outcomes a ≡ []
  waits_ungiven k Unborn a e st d h is = h.2
  waits_ungiven k (Born (ByCall q)) a (Some (Waiting x)) st d h is = h.0
  waits_ungiven k (Born (ByCall q)) a e st d h is = cc
  waits_ungiven k (Born (ByOpen q up down)) a e st d h is = h.1

  due_reaches : (now : ℕ) (d : Option ℕ) → is_call_due now (Waiting d) ≡ reaches now d
  due_reaches now None = refl
  due_reaches now (Some at) = refl

  -- a call isn't due, if the moment doesn't reach its deadline
  undue : (now : ℕ) (e : Option CallState) → ((d : Option ℕ) → e ≡ Some (Waiting d) → reaches now d ≡ false) → due_at now e ≡ false
  undue now (Some (Waiting d)) h = due_reaches now d ∙ h d refl
  undue now e h = refl

  -- A CLEAN MOMENT REACHES NO DEADLINE of a call that waits, so it finds none due.
  pub none_reached : (set : Settings) (f : ℕ → ℕ) (t : List Entry) (w : Net CO CI SO SI) (now : ℕ) → Keeps c s set f t w → IsTimed t w → IsInTime f t (Tick now) Done → (k : ℕ) (d : Option ℕ) → call_at w.client.state k ≡ Some (Waiting d) → reaches now d ≡ false
  none_reached set f t w now i h clean k d waits = in_time f t now 0 k d t (h.calls k d waits) (waits_ungiven k (i.stories k).origin _ _ _ d (i.stories k).known.client waits) clean

  pub none_due : (set : Settings) (f : ℕ → ℕ) (t : List Entry) (w : Net CO CI SO SI) (now : ℕ) → Keeps c s set f t w → IsTimed t w → IsInTime f t (Tick now) Done → (k : ℕ) → due_at now (call_at w.client.state k) ≡ false
  none_due set f t w now i h clean k = undue now (call_at w.client.state k) (none_reached set f t w now i h clean k)

pub fresh_timed : {CO CI SO SI : Type 0} (c : Halves CO CI) (s : Halves SO SI) (seals : Bool) (w : Net CO CI SO SI) → IsFresh c s w → IsTimed c s seals [] w
fresh_timed c s seals w n = record { moment = n.moment; calls = λ k d waits. absurd (none k d waits); begun = λ k d waits. absurd (none k d waits) }
  where
    none : (k : ℕ) (d : Option ℕ) → call_at w.client.state k ≡ Some (Waiting d) → ⊥
    none k d waits =
        let is : call_at w.client.state k ≡ None = ap (λ (x : ClientCore _ _). call_at x.state k) n.client in
        let bad : None ≡ Some (Waiting d) = sym is ∙ waits in
        cc

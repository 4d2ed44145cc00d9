-- What holds behind the last bytes that a side took: where a call's outcome was asked for, none is kept; and where no job waited,
-- none does.
use Rattle.ttrpc_world.proofs.Ending.{idle}
use Rattle.ttrpc_world.proofs.Keeps.{Keeps}
use Rattle.ttrpc_world.proofs.Numbers.{received}
use Rattle.ttrpc_world.proofs.Timed.{called_back, expired_is, Makes}
use Rattle.ttrpc_world.proofs.Serves.{one_less, passes_so}
use Rattle.ttrpc_world.proofs.Words.{[], ActiveJob, all_at, all_less, Answer, ap, arith, asks_outcome, Bool, CallState, call_at, CallEvent, ClientSide, Count, deadline_of, Deliver, Done, Ended, EndsOne, EndStream, Entry, eqb-true, Error, Event, false, Finish, Given, Halves, Handed, inl, inr, is_clean_event, is_clean_reply, is_some, IsOpen, Item, JobList, left_of, List, Lives, ltb-false, map, Named, nat_lt, Net, None, NoneWaits, Option, Outcome, Recv, Reply, Response, Result, rules, Server, ServerEnd, ServerSide, Settings, Some, StaysFound, Steps, subst, sym, Take, takes_bytes, takes_nothing, Tick, true, Waiting, ℕ, ◌∙◌, ◌∷◌, ◌≡◌, ◌≤◌}

pub none_taken : (k : ℕ) → nat_lt 0 k ≡ false → k ≡ 0
none_taken k h = let le : k ≤ 0 = ltb-false 0 k h in omega (arith, le)

-- asking leaves no outcome
left_none : (failed : Bool) (e : Option CallState) (o : Result Response Error) → left_of failed e ≡ Some (Ended o) → ⊥
left_none false (Some (Waiting x)) o h = cc
left_none true (Some (Waiting x)) o h = cc
left_none failed e o h = cc

never_made : (k : ℕ) (o : Result Response Error) (moment : ℕ) (event : Event) (reply : Reply) → Makes (λ (e : Option CallState). e ≡ Some (Ended o)) k moment event reply → ⊥
never_made k o moment (CallEvent request) (Named id) made = let bad : Some (Waiting (deadline_of moment request.timeout_nano)) ≡ Some (Ended o) = made.1 in cc
never_made k o moment event reply made = absurd made

module _ {CO CI SO SI : Type 0} (c : Halves CO CI) (s : Halves SO SI) (seals : Bool) where
  -- A CLEAN STEP BY WHICH THE CLIENT TAKES NO BYTES makes no outcome: one that is kept behind it was kept before.
  pub kept_before : (set : Settings) (f : ℕ → ℕ) (t : List Entry) (w : Net CO CI SO SI) (event : Event) (reply : Reply) (v : Net CO CI SO SI) (k : ℕ) (o : Result Response Error) → Keeps c s set f t w → IsOpen w → is_clean_event event ≡ true → is_clean_reply reply ≡ true
      → takes_bytes ClientSide event reply ≡ false → Steps c s seals w event reply v → call_at v.client.state k ≡ Some (Ended o) → call_at w.client.state k ≡ Some (Ended o)
  kept_before set f t w event reply v k o i u e r z p h =
      elim (called_back c s seals (λ (x : Option CallState). x ≡ Some (Ended o)) (λ failed x y. absurd (left_none failed x o y)) (λ now x. expired_is now x (Ended o) (λ same. cc)) w event reply v k e r
      (λ n j is count q g.
      let none : takes_bytes ClientSide (Deliver ClientSide n) (Count j) ≡ false = subst (λ (y : Reply). takes_bytes ClientSide (Deliver ClientSide n) y ≡ false) count (subst (λ (x : Event). takes_bytes ClientSide x reply ≡ false) is z) in
      sym (ap (λ x. call_at x.0.state k) (idle c s seals set f ClientSide t w v n j i u (none_taken j none) q)) ∙ g) p h) [
        | inl was ↦ was
        | inr made ↦ absurd (never_made k o w.moment event reply made)
      ]

  -- Where it was asked for, none is kept.
  pub none_kept : (w : Net CO CI SO SI) (event : Event) (reply : Reply) (v : Net CO CI SO SI) (k : ℕ) (o : Result Response Error) → is_clean_reply reply ≡ true → asks_outcome k event reply ≡ true → Steps c s seals w event reply v → call_at v.client.state k ≡ Some (Ended o) → ⊥
  none_kept w (Outcome id) (Given given) v k o r asks p h =
      let same : id ≡ k = eqb-true id k asks in
      left_none (is_some w.client.connection.failure) (call_at w.client.state k) o (sym (subst (λ (i : ℕ). call_at v.client.state i ≡ left_of (is_some w.client.connection.failure) (call_at w.client.state i)) same p.0.own) ∙ h)
  none_kept w (Outcome id) reply v k o r asks p h = absurd p
  none_kept w event reply v k o r asks p h = let bad : false ≡ true = asks in cc

  -- ---- no job waits

  ends_idle : (old new : List ActiveJob) (id : ℕ) (job : ActiveJob) → EndsOne old id job new → NoneWaits old → NoneWaits new
  ends_idle old new id job t h = subst NoneWaits (sym t.jobs) (all_less (λ (j : ActiveJob). j.request ≡ None) t.at.front t.at.back job (subst NoneWaits t.at.is h))

  maps_idle : (g : ActiveJob → ActiveJob) → StaysFound g → (js : List ActiveJob) → NoneWaits js → NoneWaits (map g js)
  maps_idle g found [] h = tt
  maps_idle g found (j ∷ js) h = (found.request j ∙ h.0, maps_idle g found js h.1)

  same_idle : (w v : Net CO CI SO SI) → v.server.state.jobs ≡ w.server.state.jobs → NoneWaits w.server.state.jobs.list → NoneWaits v.server.state.jobs.list
  same_idle w v e h = subst (λ (x : JobList). NoneWaits x.list) (sym e) h

  -- A CLEAN STEP BY WHICH THE SERVER TAKES NO BYTES makes no job.
  pub idle_still : (set : Settings) (f : ℕ → ℕ) (t : List Entry) (w : Net CO CI SO SI) (event : Event) (reply : Reply) (v : Net CO CI SO SI) → Keeps c s set f t w → IsOpen w → is_clean_event event ≡ true → is_clean_reply reply ≡ true
      → takes_bytes ServerSide event reply ≡ false → Steps c s seals w event reply v → NoneWaits w.server.state.jobs.list → NoneWaits v.server.state.jobs.list
  idle_still set f t w Take (Handed (Some job)) v i u e r z p h =
      let hands = p.0.hands in
      let bad : Some job.request ≡ None = sym hands.request ∙ all_at (λ (j : ActiveJob). j.request ≡ None) hands.front hands.back hands.job (subst NoneWaits hands.was h) in
      cc
  idle_still set f t w (Answer id result) Done v i u e r z p h = let a = one_less c s seals w.server id result v.server p.0 in ends_idle w.server.state.jobs.list v.server.state.jobs.list id a.0 a.1 h
  idle_still set f t w (Finish id) Done v i u e r z p h = ends_idle w.server.state.jobs.list v.server.state.jobs.list id p.0.job p.0.ends h
  idle_still set f t w (EndStream id result) Done v i u e r z p h = ends_idle w.server.state.jobs.list v.server.state.jobs.list id p.0.job p.0.ends h
  idle_still set f t w (Recv (ServerEnd id)) (Item given) v i u e r z p h =
      let x = received w.server.state.rules w.server.connection.failure w.server.state id given v.server.state.jobs.list p.0.own in
      subst NoneWaits (sym x.is) (maps_idle x.g x.found w.server.state.jobs.list h)
  idle_still set f t w (Tick now) Done v i u e r z p h =
      passes_so s.out (λ a x b y. NoneWaits a.jobs.list → NoneWaits b.jobs.list) (λ a x none. none) (λ a b d x y z job one later none.
      later (subst (λ (t : Server). NoneWaits t.jobs.list) (sym one.state) (all_less (λ (j : ActiveJob). j.request ≡ None) one.at.front one.at.back job (subst NoneWaits one.at.is none))))
      w.server.state.rules w.server.connection.failure w.server now v.server p.serves h
  idle_still set f t w (Deliver ServerSide n) (Count k) v i u e r z p h = same_idle w v (ap (λ x. x.1.state.jobs) (idle c s seals set f ServerSide t w v n k i u (none_taken k z) p)) h
  idle_still set f t w event reply v i u e r z p h = let same : v.server.state.jobs ≡ w.server.state.jobs = first_of (cc, search rules) in same_idle w v same h

  -- Where none was found, none waits.
  pub none_waits : (w : Net CO CI SO SI) (event : Event) (reply : Reply) (v : Net CO CI SO SI) → Lives w → takes_nothing event reply ≡ true → Steps c s seals w event reply v → NoneWaits v.server.state.jobs.list
  none_waits w Take (Handed None) v a it p = same_idle w v (ap (λ (x : Net CO CI SO SI). x.server.state.jobs) p.1) (p.0 a.server)
  none_waits w event reply v a it p = let bad : false ≡ true = it in cc

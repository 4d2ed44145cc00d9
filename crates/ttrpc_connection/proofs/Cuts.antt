-- A piece that is fed in two parts at one moment does what it does whole, so that calls with pieces cut otherwise lead
-- to the same.
use Rattle.ttrpc_connection.proofs.Words.{◌≡◌, ◌⊎◌, inl, inr, ℕ, Bool, true, false, cond, nat_eq, List, [], ◌∷◌, ◌++◌, length, map, Option, Some, None, IsSome, is_some, arith, rules, refl, sym, ap, subst, ◌∙◌, append_assoc, length-append, append-nil, append_cancel_left, cases_Bool, map-append, Error, Incoming, Held, nothing, Holds, Fed, given, Queue, Happening, Placed, nothing_held, exact, Connection, Ways, Scene, ActsAll, Feeds, Breaks, is_open, scene, Call, Gave, Lent, Reported, Failed, Did, Others, AreLawful, Gives, Calls, Runs, before_others, joined}
use Rattle.ttrpc_connection.proofs.Feeding.{breaks_behind, breaks_so, fed_twice, feeds_joined, open_before, open_takes, still_takes}
use Rattle.ttrpc_connection.proofs.Holding.{fed_one_way, fed_some}
use Rattle.ttrpc_connection.proofs.Leaving.{gives_grow}

-- ---- lists

split : (taken rest p q : List ℕ) → taken ++ rest ≡ p ++ q
    → ((x : List ℕ) × (p ≡ taken ++ x) × (rest ≡ x ++ q)) ⊎ ((z : ℕ) × (zs : List ℕ) × (taken ≡ p ++ z ∷ zs) × (q ≡ z ∷ zs ++ rest))
split [] rest p q e = inl (p, refl, e)
split (a ∷ taken) rest [] q e = inr (a, taken, refl, sym e)
split (a ∷ taken) rest (b ∷ p) q e =
    let first : a ≡ b = cc in
    elim (split taken rest p q cc) [
      | inl h ↦ inl (h.0, rw (first, h.1) refl, h.2)
      | inr h ↦ inr (h.0, h.1, rw (first, h.2) refl, h.3)
    ]

none_behind : {X : Type 0} (xs ys : List X) → xs ++ ys ≡ [] → ys ≡ []
none_behind [] ys e = e
none_behind (x ∷ xs) ys e = cc

none_before : {X : Type 0} (xs ys : List X) → xs ++ ys ≡ [] → xs ≡ []
none_before [] ys e = refl
none_before (x ∷ xs) ys e = cc

abbrev LastIn : List Incoming → List Incoming → List Incoming → Option Incoming → Type 0
LastIn fs gs frames last = (zs : List Incoming) × (gs ≡ zs ++ given last) × (frames ≡ fs ++ zs)

last_in : (fs gs frames : List Incoming) (last : Option Incoming) → fs ++ gs ≡ frames ++ given last → (IsSome last → gs ≡ [] → ⊥) → LastIn fs gs frames last
last_in [] gs frames last e some = (frames, e, refl)
last_in (f ∷ fs) gs [] None e some = cc
last_in (f ∷ fs) gs [] (Some l) e some = absurd (some refl (none_behind fs gs cc))
last_in (f ∷ fs) gs (b ∷ frames) last e some =
    let h = last_in fs gs frames last (cc) some in
    (h.0, h.1, cc (h.2))

-- ---- pieces that are fed

ends_not : (held new : Held) (before : List ℕ) (z : ℕ) (zs : List ℕ) → Holds held before → Fed held (z ∷ zs) [] new → new ≡ nothing → ⊥
ends_not held new before z zs holds fed end =
    let rest = fed before holds in
    let none : rest.0 ≡ [] = exact [] rest.0 (rw (← end) rest.2) in
    omega (arith, length-append before (z ∷ zs), ap length (rest.1 ∙ none))

module _ {S O I : Type 0} (w : Ways S O I) where
  acts_apart : (at : ℕ) (fs gs : List Incoming) (old new : Scene S O I) → ActsAll w at old (fs ++ gs) new → (mid : Scene S O I) × ActsAll w at old fs mid × ActsAll w at mid gs new
  acts_apart at [] gs old new acts = (old, refl, acts)
  acts_apart at (f ∷ fs) gs old new acts =
      let more = acts_apart at fs gs acts.0 new acts.2 in
      (more.0, (acts.0, acts.1, more.1), more.2)

  breaks_before : (s : S) (old : Connection O I) (at : ℕ) (told : Error) (t : S) (new : Connection O I) (p q : List ℕ) → Breaks w s old p at told t new → Breaks w s old (p ++ q) at told t new
  breaks_before s old at told t new p q b =
      breaks_so w s s old old (p ++ q) p at told t new b b.frames b.taken (b.rest ++ q) b.alive (ap (λ xs. xs ++ q) b.piece_is ∙ append_assoc b.taken b.rest q) b.fed b.acts

  pub gives_joined : (s : S) (old : Connection O I) (at : ℕ) (u : S) (mid : Connection O I) (t : S) (new : Connection O I) (p q : List ℕ) → Gives w s old p at u mid → Gives w u mid q at t new → Gives w s old (p ++ q) at t new
  gives_joined s old at u mid t new p q one (inr (inr (inr (inr none), is, same))) = rw (none, append-nil, is, same) one
  gives_joined s old at u mid t new p q (inr (inr (inr (inr none), is, same))) two =
      rw none (subst (λ x. Gives w x old q at t new) is (subst (λ c. Gives w u c q at t new) same two))
  gives_joined s old at u mid t new p q (inl one) (inl two) = inl (feeds_joined w s old at u mid t new p q one two)
  gives_joined s old at u mid t new p q (inl one) (inr (inl two)) = inr (inl (two.0, breaks_behind w s old at u mid two.0 t new p q one two.1))
  gives_joined s old at u mid t new p q (inl one) (inr (inr (inl failed, is, same))) = absurd (cc (one.still, failed))
  gives_joined s old at u mid t new p q (inl one) (inr (inr (inr (inl drains), is, same))) = absurd (cc (still_takes w s old p at u mid one, drains))
  gives_joined s old at u mid t new p q (inr (inl one)) (inl two) = absurd (cc (one.1.fails, two.alive))
  gives_joined s old at u mid t new p q (inr (inl one)) (inr (inl two)) = absurd (cc (one.1.fails, two.1.alive))
  gives_joined s old at u mid t new p q (inr (inl one)) (inr (inr two)) = inr (inl (one.0, rw (two.1, two.2) (breaks_before s old at one.0 u mid p q one.1)))
  gives_joined s old at u mid t new p q (inr (inr (inl failed, is, same))) (inl two) = absurd (cc (failed, same, two.alive))
  gives_joined s old at u mid t new p q (inr (inr (inl failed, is, same))) (inr (inl two)) = absurd (cc (failed, same, two.1.alive))
  gives_joined s old at u mid t new p q (inr (inr (inr (inl drains), is, same))) (inl two) = absurd (let takes = open_takes w u mid.outbox two.was_open in cc (drains, ap w.core.takes is, takes))
  gives_joined s old at u mid t new p q (inr (inr (inr (inl drains), is, same))) (inr (inl two)) =
      absurd (let takes = open_takes w u mid.outbox (open_before w at two.1.frames (scene u mid) two.1.mid two.1.acts two.1.was_open) in cc (drains, ap w.core.takes is, takes))
  gives_joined s old at u mid t new p q (inr (inr (inl failed, is, same))) (inr (inr two)) = inr (inr (inl failed, two.1 ∙ is, two.2 ∙ same))
  gives_joined s old at u mid t new p q (inr (inr (inr (inl drains), is, same))) (inr (inr two)) = inr (inr (inr (inl drains), two.1 ∙ is, two.2 ∙ same))

  abbrev GivesApart : S → Connection O I → ℕ → S → Connection O I → List ℕ → List ℕ → Type 0
  GivesApart s old at t new p q = (u : S) × (mid : Connection O I) × Gives w s old p at u mid × Gives w u mid q at t new

  -- a core is open before bytes that are taken
  open_between : (at : ℕ) (t : S) (new : Connection O I) (held after : Held) (before : List ℕ) (z : ℕ) (zs : List ℕ) (fs : List Incoming) (mid : Scene S O I) → Holds held before → Fed held (z ∷ zs) fs after → after ≡ new.decoder
      → (is_open w t new.outbox ≡ false → new.decoder ≡ nothing) → ActsAll w at mid fs (scene t new) → is_open w mid.state mid.outbox ≡ true
  open_between at t new held after before z zs (f ∷ fs) mid holds fed same stops acts = acts.1.was_open
  open_between at t new held after before z zs [] mid holds fed same stops acts = elim (cases_Bool (is_open w mid.state mid.outbox)) [
    | inl was_open ↦ was_open
    | inr shut ↦ absurd (ends_not held after before z zs holds fed (same ∙ stops (ap (λ (c : Scene S O I). is_open w c.state c.outbox) acts ∙ shut)))
  ]

  feeds_apart : (s : S) (old : Connection O I) (at : ℕ) (t : S) (new : Connection O I) (before p q : List ℕ) → Holds old.decoder before → Feeds w s old (p ++ q) at t new → GivesApart s old at t new p q
  feeds_apart s old at t new before p [] holds feeds = (t, new, inl (subst (λ xs. Feeds w s old xs at t new) (append-nil p) feeds), inr (inr (inr (inr refl), refl, refl)))
  feeds_apart s old at t new before p (z ∷ zs) holds feeds =
      let q = z ∷ zs in
      let one = fed_some old.decoder before p holds in
      let rest = one.2 before holds in
      let two = fed_some one.1 rest.0 q rest.2 in
      let whole = fed_twice old.decoder one.1 two.1 p q one.0 two.0 one.2 two.2 in
      let same = fed_one_way old.decoder two.1 new.decoder before (p ++ q) (one.0 ++ two.0) feeds.frames holds whole feeds.fed in
      let acts = acts_apart at one.0 two.0 (scene s old) (scene t new) (rw same.0 feeds.acts) in
      let was_open = open_between at t new one.1 two.1 rest.0 z zs two.0 acts.0 rest.2 two.2 same.1 feeds.stops acts.2 in (
        acts.0.state,
        record { decoder = one.1; outbox = acts.0.outbox; inbound = acts.0.inbound; failure = None; known = old.known },
        inl (record { was_open = feeds.was_open; alive = feeds.alive; still = refl; frames = one.0; fed = one.2; acts = acts.1; stops = λ shut. absurd (cc (was_open, shut)) }),
        inl (record { was_open = was_open; alive = refl; still = feeds.still; frames = two.0; fed = rw (← same.1) two.2; acts = acts.2; stops = feeds.stops }),
      )

  breaks_apart : (s : S) (old : Connection O I) (at : ℕ) (told : Error) (t : S) (new : Connection O I) (before p q : List ℕ) → Holds old.decoder before → Breaks w s old (p ++ q) at told t new → GivesApart s old at t new p q
  breaks_apart s old at told t new before p q holds b = elim (split b.taken b.rest p q (sym b.piece_is)) [
    | inl h ↦ (
      t,
      new,
      inr (inl (told, breaks_so w s s old old p (p ++ q) at told t new b b.frames b.taken h.0 b.alive h.1 b.fed b.acts)),
      inr (inr (inl (ap is_some b.fails), refl, refl)),
    )
    | inr h ↦
        let more = h.0 ∷ h.1 in
        let one = fed_some old.decoder before p holds in
        let rest = one.2 before holds in
        let two = fed_some one.1 rest.0 more rest.2 in
        let whole = fed_twice old.decoder one.1 two.1 p more one.0 two.0 one.2 two.2 in
        let same = fed_one_way old.decoder two.1 new.decoder before (p ++ more) (one.0 ++ two.0) (b.frames ++ given b.last) holds whole (rw (← h.2) b.fed) in
        let last = last_in one.0 two.0 b.frames b.last same.0
        (λ some none. ends_not one.1 two.1 rest.0 h.0 h.1 rest.2 (subst (λ fs. Fed one.1 more fs two.1) none two.2) (same.1 ∙ b.at_its_end some)) in
        let acts = acts_apart at one.0 last.0 (scene s old) b.mid (rw (← last.2) b.acts) in
        let mid : Connection O I = record { decoder = one.1; outbox = acts.0.outbox; inbound = acts.0.inbound; failure = None; known = old.known } in
        let was_open = open_before w at last.0 acts.0 b.mid acts.2 b.was_open in (
          acts.0.state,
          mid,
          inl (record { was_open = open_before w at b.frames (scene s old) b.mid b.acts b.was_open; alive = b.alive; still = refl; frames = one.0; fed = one.2; acts = acts.1; stops = λ shut. absurd (cc (was_open, shut)) }),
          inr (inl (told, breaks_so w acts.0.state s mid old q (p ++ q) at told t new b last.0 more b.rest refl h.3 (rw (← last.1, ← same.1) two.2) acts.2)),
        )
  ]

  pub gives_apart : (s : S) (old : Connection O I) (at : ℕ) (t : S) (new : Connection O I) (before p q : List ℕ) → Holds old.decoder before → Gives w s old (p ++ q) at t new → GivesApart s old at t new p q
  gives_apart s old at t new before p q holds (inl feeds) = feeds_apart s old at t new before p q holds feeds
  gives_apart s old at t new before p q holds (inr (inl b)) = breaks_apart s old at b.0 t new before p q holds b.1
  gives_apart s old at t new before p q holds (inr (inr (inl failed, is, same))) = (s, old, inr (inr (inl failed, refl, refl)), inr (inr (inl failed, is, same)))
  gives_apart s old at t new before p q holds (inr (inr (inr (inl drains), is, same))) = (s, old, inr (inr (inr (inl drains), refl, refl)), inr (inr (inr (inl drains), is, same)))
  gives_apart s old at t new before p q holds (inr (inr (inr (inr none), is, same))) =
      (s, old, inr (inr (inr (inr (none_before p q none)), refl, refl)), inr (inr (inr (inr (none_behind p q none)), is, same)))

-- ---- calls one after the other

-- what is held is held of some bytes
abbrev pub HoldsSome : Held → Type 0
HoldsSome held = (before : List ℕ) × Holds held before

module _ {A S O I : Type 0} (w : Ways S O I) (others : Others A S O I) where
  call_holds : AreLawful others → (c : Call A) (s : S) (old : Connection O I) (hs : List Happening) (t : S) (new : Connection O I) → HoldsSome old.decoder → Calls w others s old c hs t new → HoldsSome new.decoder
  call_holds lawful (Gave piece at) s old hs t new some (inl feeds, queued) = let rest = feeds.fed some.0 some.1 in (rest.0, rest.2)
  call_holds lawful (Gave piece at) s old hs t new some (inr (inl b), queued) = let rest = b.1.fed some.0 some.1 in (rest.0, rest.2)
  call_holds lawful (Gave piece at) s old hs t new some (inr (inr failed), queued) = rw failed.2 some
  call_holds lawful (Lent n) s old hs t new some call = rw call.3 some
  call_holds lawful (Reported n) s old hs t new some call = rw call.2 some
  call_holds lawful Failed s old hs t new some call = rw call.1.1 some
  call_holds lawful (Did a) s old hs t new some call = rw (lawful.decoder a s old hs t new call) some

  two_as_one : (p q : List ℕ) (at : ℕ) (cs : List (Call A)) (s : S) (old : Connection O I) (hs : List Happening) (t : S) (new : Connection O I)
      → Runs w others s old (Gave p at ∷ Gave q at ∷ cs) hs t new → Runs w others s old (Gave (p ++ q) at ∷ cs) hs t new
  two_as_one p q at cs s old hs t new run =
      let two = run.6 in
      let one = run.4.1 in
      let more = two.4.1 in (
        two.0,
        two.1,
        run.2 ++ two.2,
        two.3,
        (
          gives_joined w s old at run.0 run.1 two.0 two.1 p q run.4.0 two.4.0,
          (one.0 ++ more.0, rw (more.1, one.1, append_assoc) refl, rw (one.2, more.2, map-append) refl),
        ),
        rw (run.5, two.5, append_assoc) refl,
        two.6,
      )

  one_as_two : (p q : List ℕ) (at : ℕ) (cs : List (Call A)) (s : S) (old : Connection O I) (hs : List Happening) (t : S) (new : Connection O I)
      → HoldsSome old.decoder → Runs w others s old (Gave (p ++ q) at ∷ cs) hs t new → Runs w others s old (Gave p at ∷ Gave q at ∷ cs) hs t new
  one_as_two p q at cs s old hs t new some run =
      let apart = gives_apart w s old at run.0 run.1 some.0 p q some.1 run.4.0 in
      let mid = apart.1 in
      let one = gives_grow w s old p at apart.0 mid apart.2 in
      let two = gives_grow w apart.0 mid q at run.0 run.1 apart.3 in
      let first : mid.outbox.queue.frames ≡ old.outbox.queue.frames ++ one.0 = ap (λ (q : Queue). q.frames) one.1 in
      let second : run.1.outbox.queue.frames ≡ mid.outbox.queue.frames ++ two.0 = ap (λ (q : Queue). q.frames) two.1 in
      let same : run.4.1.0 ≡ one.0 ++ two.0 = append_cancel_left old.outbox.queue.frames run.4.1.0 (one.0 ++ two.0) (rw (← append_assoc, ← first, ← second) (sym run.4.1.1)) in (
        apart.0,
        mid,
        map Placed one.0,
        map Placed two.0 ++ run.3,
        (apart.2, (one.0, first, refl)),
        rw (run.5, run.4.1.2, same, map-append, append_assoc) refl,
        (run.0, run.1, map Placed two.0, run.3, (apart.3, (two.0, second, refl)), refl, run.6),
      )

  -- pieces at one moment are put together and cut again
  abbrev Cut : List (Call A) → List (Call A) → Type 0
  Cut cs ds = (s : S) (old : Connection O I) (hs : List Happening) (t : S) (new : Connection O I) → HoldsSome old.decoder
      → (Runs w others s old cs hs t new → Runs w others s old ds hs t new) × (Runs w others s old ds hs t new → Runs w others s old cs hs t new)

  cut_not : (cs : List (Call A)) → Cut cs cs
  cut_not cs s old hs t new some = (λ run. run, λ run. run)

  cut_if : (p : List ℕ) (at : ℕ) (q : List ℕ) (m : ℕ) (b : Bool) → nat_eq m at ≡ b → (cs : List (Call A)) → Cut (Gave p at ∷ Gave q m ∷ cs) (cond b (Gave (p ++ q) at ∷ cs) (Gave p at ∷ Gave q m ∷ cs))
  cut_if p at q m true e cs = let same : m ≡ at = search rules in rw same (λ s old hs t new some. (two_as_one p q at cs s old hs t new, one_as_two p q at cs s old hs t new some))
  cut_if p at q m false e cs = cut_not (Gave p at ∷ Gave q m ∷ cs)

  cut_first : (p : List ℕ) (at : ℕ) (cs : List (Call A)) → Cut (Gave p at ∷ cs) (before_others p at cs)
  cut_first p at (Gave q m ∷ cs) = cut_if p at q m (nat_eq m at) refl cs
  cut_first p at cs = cut_not (Gave p at ∷ cs)

  -- after the first call the rest goes on in another way
  cut_later : AreLawful others → (c : Call A) (cs ds : List (Call A)) → Cut cs ds → Cut (c ∷ cs) (c ∷ ds)
  cut_later lawful c cs ds cut s old hs t new some = (
    λ run. (run.0, run.1, run.2, run.3, run.4, run.5, (cut run.0 run.1 run.3 t new (call_holds lawful c s old run.2 run.0 run.1 some run.4)).0 run.6),
    λ run. (run.0, run.1, run.2, run.3, run.4, run.5, (cut run.0 run.1 run.3 t new (call_holds lawful c s old run.2 run.0 run.1 some run.4)).1 run.6),
  )

  cut_all : AreLawful others → (cs : List (Call A)) → Cut cs (joined cs)
  cut_all lawful [] = cut_not []
  cut_all lawful (Gave p at ∷ cs) = λ s old hs t new some.
      let later = cut_later lawful (Gave p at) cs (joined cs) (cut_all lawful cs) s old hs t new some in
      let first = cut_first p at (joined cs) s old hs t new some in
      (λ run. first.0 (later.0 run), λ run. later.1 (first.1 run))
  cut_all lawful (c ∷ cs) = cut_later lawful c cs (joined cs) (cut_all lawful cs)

  pub any_cutting : AreLawful others → (cs ds : List (Call A)) (s : S) (old : Connection O I) (hs : List Happening) (t : S) (new : Connection O I)
      → old.decoder ≡ nothing → joined cs ≡ joined ds → Runs w others s old cs hs t new → Runs w others s old ds hs t new
  any_cutting lawful cs ds s old hs t new start same run =
      let some : HoldsSome old.decoder = ([], rw start nothing_held) in
      (cut_all lawful ds s old hs t new some).1 (rw (← same) ((cut_all lawful cs s old hs t new some).0 run))

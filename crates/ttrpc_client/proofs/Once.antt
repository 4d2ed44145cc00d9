-- The outcome of a call is given once.
use Rattle.ttrpc_client.proofs.Words.{cases_eq, cases_lt, eq-eqb, ne_eqb, arith, ◌≡◌, ◌≢◌, ◌⊎◌, inl, inr, ℕ, ◌<◌, ◌≤◌, List, [], ◌∷◌, ◌++◌, length, length-append, Option, Some, None, is_some, Result, Bool, refl, sym, ap, subst, ◌∙◌, Error, Happening, OutboundTransform, InboundTransform, Connection, Failure, ACall, CallState, Waiting, ClientCore, Called, Told, asked_by, called, core, ids_asked, ids_used, used_by, outcomes_of, told_by, Client, IsClient, call_at, GivesOutcome, TakesOutcome, calling, left_of, Did, Calls, Runs, all_in_front, all_behind}
use Rattle.ttrpc_proto.specs.declared.messages.Response.{Response}
use Rattle.ttrpc_client.proofs.Turning.{Leaves, call_leaves, leaves_valid, run_leaves}
use Rattle.ttrpc_client.proofs.Rising.{Apart, all_within, never_below, rise_up}

-- nothing is kept of a call whose outcome was given
gone_by_giving : (failure : Option Failure) (call : Option CallState) (outcome : Result Response Error) → GivesOutcome failure call (Some outcome) → left_of (is_some failure) call ≡ None
gone_by_giving failure None outcome gives = refl
gone_by_giving None (Some (Waiting deadline)) outcome gives = cc
gone_by_giving (Some why) (Some (Waiting deadline)) outcome gives = refl
gone_by_giving failure (Some call) outcome gives = refl

-- ---- a call

-- it gave no outcome of this id, or one, of a call of which nothing is kept then
abbrev GivesAtMostOne : ℕ → ACall Called → Client → Client → Type 0
GivesAtMostOne k c old new = (told_by k c ≡ []) ⊎ ((length (told_by k c) ≡ 1) × (call_at old k ≢ None) × (call_at new k ≡ None))

tells_at_most_one : {O I : Type 0} (k id : ℕ) (outcome : Result Response Error) (old new : ClientCore O I) → TakesOutcome old id (Some outcome) new → GivesAtMostOne k (Did (Told id (Some outcome))) old.state new.state
tells_at_most_one k id outcome old new tells = elim (cases_eq id k) [
  | inl same ↦ rw (← same) (inr (
    rw (eq-eqb id id refl) refl,
    (λ none. let bad : Some outcome ≡ None = rw none at tells.gives in cc),
    tells.own ∙ gone_by_giving old.connection.failure (call_at old.state id) outcome tells.gives,
  ))
  | inr apart ↦ inl (rw (ne_eqb id k apart) refl)
]

-- ---- calls one after the other

none_of_none : (k : ℕ) (c : ACall Called) (old new : Client) → GivesAtMostOne k c old new → call_at old k ≡ None → told_by k c ≡ []
none_of_none k c old new (inl none) kept = none
none_of_none k c old new (inr one) kept = absurd (one.1 kept)

abbrev AtMostOne : List (Result Response Error) → Type 0
AtMostOne os = length os ≤ 1

then_none : (os ps : List (Result Response Error)) → length os ≡ 1 → ps ≡ [] → AtMostOne (os ++ ps)
then_none os ps one none = subst (λ l. AtMostOne (os ++ l)) (sym none) (omega (arith, one, length-append os []))

module _ {O I : Type 0} (out : OutboundTransform O) (in_ : InboundTransform I) (seals : Bool) where
  call_gives : (k : ℕ) (c : ACall Called) (s : Client) (old : Connection O I) (hs : List Happening) (t : Client) (new : Connection O I) → Calls (calling out in_) (called out seals) s old c hs t new
      → GivesAtMostOne k c s t
  call_gives k (Did (Told id (Some outcome))) s old hs t new call = tells_at_most_one k id outcome (core s old) (core t new) call.0
  call_gives k c s old hs t new call = inl refl

  pub run_gives_none : (k : ℕ) (cs : List (ACall Called)) (s : Client) (old : Connection O I) (hs : List Happening) (t : Client) (new : Connection O I) → Runs (calling out in_) (called out seals) s old cs hs t new
      → call_at s k ≡ None → Apart k (ids_asked cs) → outcomes_of k cs ≡ []
  run_gives_none k [] s old hs t new run none apart = refl
  run_gives_none k (c ∷ cs) s old hs t new run none apart =
      let mid = run.0 in
      let leaves : Leaves (used_by c) (asked_by c) s mid = call_leaves out in_ seals c s old run.2 mid run.1 run.4 in
      let still : call_at mid k ≡ None = leaves.none k (all_in_front (λ id. k ≢ id) (asked_by c) (ids_asked cs) apart) none in
      ap (λ os. os ++ outcomes_of k cs) (none_of_none k c s mid (call_gives k c s old run.2 mid run.1 run.4) none)
      ∙ run_gives_none k cs mid run.1 run.3 t new run.6 still (all_behind (λ id. k ≢ id) (asked_by c) (ids_asked cs) apart)

  pub run_gives_one : (k : ℕ) (cs : List (ACall Called)) (s : Client) (old : Connection O I) (hs : List Happening) (t : Client) (new : Connection O I)
      → IsClient s.next s.calls → Runs (calling out in_) (called out seals) s old cs hs t new → AtMostOne (outcomes_of k cs)
  run_gives_one k [] s old hs t new valid run = omega arith
  run_gives_one k (c ∷ cs) s old hs t new valid run =
      let mid = run.0 in
      let leaves : Leaves (used_by c) (asked_by c) s mid = call_leaves out in_ seals c s old run.2 mid run.1 run.4 in
      elim (call_gives k c s old run.2 mid run.1 run.4) [
        | inl none ↦ subst (λ os. AtMostOne (os ++ outcomes_of k cs)) (sym none) (run_gives_one k cs mid run.1 run.3 t new (leaves_valid (used_by c) (asked_by c) s mid leaves valid) run.6)
        | inr one ↦
            let before : k < s.next = elim (cases_lt k s.next) [ inl less ↦ less | inr le ↦ absurd (one.1 (valid.fresh k le)) ] in
            let up = rise_up s.next (used_by c) mid.next leaves.rises in
            let later = run_leaves out in_ seals cs mid run.1 run.3 t new run.6 in
            then_none (told_by k c) (outcomes_of k cs) one.0
            (run_gives_none k cs mid run.1 run.3 t new run.6 one.2 (all_within (λ id. k ≢ id) (ids_asked cs) (ids_used cs) later.within (never_below k mid.next (ids_used cs) t.next (omega (arith, before, up)) later.rises)))
      ]

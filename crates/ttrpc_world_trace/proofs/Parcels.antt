-- The flights of one stream, and what a throw leaves of them. No bytes, no seals, no queue.
use Rattle.ttrpc_world_trace.proofs.FlightWords.{◌≡◌, ◌≤◌, ◌⊎◌, inl, inr, ℕ, Bool, true, false, nat_eq, List, [], ◌∷◌, ◌++◌, length, arith, refl, sym, ap, subst, ◌∙◌, length-append, AllByRecursion, filter, eq-eqb, ne_eqb, Flying, IsOwned, flying_without, parcels, cases_Bool, cases_eq, and_right, all_behind, under_both}
use Rattle.ttrpc_world_trace.proofs.Losing.{left_behind, stays}

-- ---- the flights of one stream

abbrev pub id_of : Flying → ℕ
id_of x = x.frame.message.header.stream_id

-- ---- what a throw leaves of them

filter_twice : {X : Type 0} (p q : X → Bool) (xs : List X) → filter p (filter q xs) ≡ filter q (filter p xs)
filter_twice p q [] = refl
filter_twice p q (x ∷ xs) =
    let later = filter_twice p q xs in
    elim (cases_Bool (p x)) [
      | inl e ↦ elim (cases_Bool (q x)) [ inl f ↦ rw (f, e, f, later) refl | inr f ↦ rw (f, e, f, later) refl ]
      | inr e ↦ elim (cases_Bool (q x)) [ inl f ↦ rw (f, e, later) refl | inr f ↦ rw (f, e, later) refl ]
    ]

-- of at most one item it stays or nothing does
few_left : {X : Type 0} (p : X → Bool) (xs ys : List X) → length (xs ++ ys) ≤ 1 → (xs ++ filter p ys ≡ xs ++ ys) ⊎ (xs ++ filter p ys ≡ [])
few_left p xs [] le = inl refl
few_left p [] (y ∷ []) le = elim (cases_Bool (p y)) [ inl e ↦ inl (rw e refl) | inr e ↦ inr (rw e refl) ]
few_left p [] (y ∷ z ∷ ys) le = absurd (omega (arith, le))
few_left p (x ∷ xs) (y ∷ ys) le = absurd (omega (arith, le, length-append xs (y ∷ ys)))

abbrev LeftOf : ℕ → List Flying → List Flying → Type 0
LeftOf k all left = length (parcels k all) ≤ 1 → (parcels k left ≡ parcels k all) ⊎ (parcels k left ≡ [])

left_of : (k : ℕ) (keep : Flying → Bool) (front back : List Flying) → LeftOf k (front ++ back) (front ++ filter keep back)
left_of k keep front back le =
    let all = under_both id_of k front back in
    let left : parcels k (front ++ filter keep back) ≡ parcels k front ++ filter keep (parcels k back) =
    under_both id_of k front (filter keep back) ∙ ap (λ xs. parcels k front ++ xs) (filter_twice (λ (x : Flying). nat_eq (id_of x) k) keep back) in
    rw (all, left) (few_left keep (parcels k front) (parcels k back) (subst (λ (xs : List Flying). length xs ≤ 1) all le))

pub parcels_thrown : (k : ℕ) (owners : ℕ → Bool) (n : ℕ) (transit queued : List Flying) → LeftOf k (transit ++ queued) (transit ++ flying_without owners n queued)
parcels_thrown k owners n transit queued = left_behind (LeftOf k) owners n transit queued (left_of k (stays owners))

-- what isn't a unary request of theirs stays
stays_there : (k : ℕ) (owners : ℕ → Bool) (x : Flying) → owners k ≡ false → IsOwned x → id_of x ≡ k → stays owners x ≡ true
stays_there k owners x none own is = elim (cases_Bool x.frame.is_unary_request) [
  | inl e ↦ rw (and_right x.frame.is_unary_request (owners x.frame.owner) (ap owners (own e ∙ is) ∙ none)) refl
  | inr e ↦ rw e refl
]

own_stay : (k : ℕ) (owners : ℕ → Bool) → owners k ≡ false → (xs : List Flying) → AllByRecursion IsOwned xs → filter (stays owners) (parcels k xs) ≡ parcels k xs
own_stay k owners none [] own = refl
own_stay k owners none (x ∷ xs) own =
    let later = own_stay k owners none xs own.1 in
    elim (cases_eq (id_of x) k) [
      | inl e ↦ rw (eq-eqb (id_of x) k e, stays_there k owners x none own.0 e, later) refl
      | inr e ↦ rw (ne_eqb (id_of x) k e, later) refl
    ]

pub parcels_thrown_elsewhere : (k : ℕ) (owners : ℕ → Bool) (n : ℕ) (queued : List Flying) → owners k ≡ false → AllByRecursion IsOwned queued
    → parcels k (flying_without owners n queued) ≡ parcels k queued
parcels_thrown_elsewhere k owners n queued none =
    left_behind (λ all left. AllByRecursion IsOwned all → parcels k left ≡ parcels k all) owners n [] queued
    (λ front back own. under_both id_of k front (filter (stays owners) back)
    ∙ ap (λ xs. parcels k front ++ xs) (filter_twice (λ (x : Flying). nat_eq (id_of x) k) (stays owners) back ∙ own_stay k owners none back (all_behind IsOwned front back own))
    ∙ sym (under_both id_of k front back))

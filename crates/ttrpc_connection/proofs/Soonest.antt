-- Deadlines that are added and taken away, the first of them, and those that are due.
use Rattle.ttrpc_connection.proofs.Words.{arith, rules, ◌≡◌, ◌<◌, ◌≤◌, ◌∙◌, ℕ, List, [], ◌∷◌, Option, Some, Bool, true, false, refl, sym, ap, subst, nat_cmp, nat_eq, list_any, is_at, cases_Bool, cases_eq, eq-eqb, ne_eqb, inl, inr, Equal-is, AllByRecursion}
use Rattle.std.specs.Prelude.{nat_le, ◌||◌}
use Rattle.std.specs.Ordering.{is_gt}
use Rattle.std.specs.declared.cmp.Ordering.TheVariants.{Greater, Less}
use Rattle.std.specs.List.{IsDistinct}
use Rattle.std.specs.List.Sorted.{IsStrictlySortedBy}
use Rattle.std.proofs.lemmas.Bool.Decides.{nat_tests}
use Rattle.std.proofs.lemmas.Cmp.{by_ranked, ranked}
use Rattle.std.proofs.lemmas.Map.Keys.{sorted_head, sorted_tail}
use Rattle.ttrpc_connection.specs.Deadlines.{ChangesTo, due_ids, has_deadline, sooner}
use Rattle.std.proofs.lemmas.Map.Lookups.{exact_pairs, exact_unsigned}

-- another deadline is at another place
elsewhere : (at id d k : ℕ) → (k ≡ id → at ≡ d → ⊥) → is_at (sooner (at, id)) (d, k) ≡ false
elsewhere at id d k apart = elim (cases_Bool (is_at (sooner (at, id)) (d, k))) [
  | inl e ↦
      let same : (at, id) ≡ (d, k) = exact_pairs nat_cmp nat_cmp exact_unsigned exact_unsigned (at, id) (d, k) (search (rules, Equal-is)) in
      absurd (apart (sym (ap (λ (p : ℕ × ℕ). p.1) same)) (ap (λ (p : ℕ × ℕ). p.0) same))
  | inr e ↦ e
]

pub changes : (there : Bool) (old new : List (ℕ × ℕ)) (id moment : ℕ) (deadline : Option ℕ) → deadline ≡ Some moment → has_deadline new moment id ≡ there
    → ((q : ℕ × ℕ) → is_at (sooner (moment, id)) q ≡ false → list_any (is_at (sooner q)) new ≡ list_any (is_at (sooner q)) old)
    → ChangesTo there old id deadline new
changes there old new id moment deadline is own others at k = rw is (elim (cases_eq k id) [
  | inl here ↦ elim (cases_eq at moment) [
    | inl now ↦ rw (eq-eqb k id here, eq-eqb at moment now, here, now) own
    | inr apart ↦ rw (eq-eqb k id here, ne_eqb at moment apart) (others (at, k) (elsewhere moment id at k (λ _ now. apart (sym now))))
  ]
  | inr apart ↦ rw (ne_eqb k id apart) (others (at, k) (elsewhere moment id at k (λ here _. apart here)))
])

pub least : (p q : ℕ × ℕ) → is_gt (sooner p q) ≡ false → p.0 ≤ q.0
least p q h = by_ranked _ _ _ (nat_cmp p.0 q.0) (ranked p.0 q.0 _ refl) (λ _ less. omega (arith, less)) (λ _ same. omega (arith, same)) (λ e _. let bad : true ≡ false = rw e at h in cc)

-- of those at one moment
pub least_id : (p : ℕ × ℕ) (id : ℕ) → is_gt (sooner p (p.0, id)) ≡ false → p.1 ≤ id
least_id p id h = by_ranked _ _ _ (nat_cmp p.0 p.0) (ranked p.0 p.0 _ refl) (λ _ less. absurd (omega (arith, less)))
    (λ e _. by_ranked _ _ _ (nat_cmp p.1 id) (ranked p.1 id _ refl) (λ _ less. omega (arith, less)) (λ _ same. omega (arith, same)) (λ f _. let bad : true ≡ false = rw (e, f) at h in cc))
    (λ _ more. absurd (omega (arith, more)))

-- ---- those that are due

-- a deadline is where it is
here : (at id : ℕ) → is_at (sooner (at, id)) (at, id) ≡ true
here at id = by_ranked _ _ _ (nat_cmp at at) (ranked at at _ refl) (λ _ less. absurd (omega (arith, less))) (λ e _.
    by_ranked _ _ _ (nat_cmp id id) (ranked id id _ refl) (λ _ less. absurd (omega (arith, less))) (λ f _. rw (e, f) refl) (λ _ more. absurd (omega (arith, more)))) (λ _ more. absurd (omega (arith, more)))

or_left : (a b : Bool) → a ≡ true → (a || b) ≡ true
or_left true b h = refl
or_left false b h = cc

or_right : (a b : Bool) → b ≡ true → (a || b) ≡ true
or_right true b h = refl
or_right false b h = h

-- a deadline is among them that is the first, or behind it
had : (d : ℕ × ℕ) (ds : List (ℕ × ℕ)) → has_deadline (d ∷ ds) d.0 d.1 ≡ true
had d ds = or_left (is_at (sooner (d.0, d.1)) d) (has_deadline ds d.0 d.1) (here d.0 d.1)

had_behind : (d : ℕ × ℕ) (ds : List (ℕ × ℕ)) (at id : ℕ) → has_deadline ds at id ≡ true → has_deadline (d ∷ ds) at id ≡ true
had_behind d ds at id there = or_right (is_at (sooner (at, id)) d) (has_deadline ds at id) there

is_le : (a b : ℕ) → nat_le a b ≡ true → a ≤ b
is_le a b h = grind (arith, nat_tests, h)

le_is : (a b : ℕ) → a ≤ b → nat_le a b ≡ true
le_is a b h = grind (arith, nat_tests, h)

-- an id that is due has a deadline that is no later
pub has_due : (now id : ℕ) (ds : List (ℕ × ℕ)) → list_any (nat_eq id) (due_ids now ds) ≡ true → (at : ℕ) × (at ≤ now) × (has_deadline ds at id ≡ true)
has_due now id [] there = absurd (cc)
has_due now id (d ∷ ds) there = elim (cases_Bool (nat_le d.0 now)) [
  | inl due ↦ elim (cases_eq id d.1) [
    | inl same ↦ (d.0, is_le d.0 now due, subst (λ k. has_deadline (d ∷ ds) d.0 k ≡ true) (sym same) (had d ds))
    | inr apart ↦
        let rest : list_any (nat_eq id) (due_ids now ds) ≡ true = rw (due, ne_eqb id d.1 apart) at there in
        let x = has_due now id ds rest in
        (x.0, x.1, had_behind d ds x.0 id x.2)
  ]
  | inr not ↦
      let rest : list_any (nat_eq id) (due_ids now ds) ≡ true = rw not at there in
      let x = has_due now id ds rest in
      (x.0, x.1, had_behind d ds x.0 id x.2)
]

-- an id with a deadline that is no later is due
pub is_due_id : (now at id : ℕ) (ds : List (ℕ × ℕ)) → at ≤ now → has_deadline ds at id ≡ true → list_any (nat_eq id) (due_ids now ds) ≡ true
is_due_id now at id [] le there = absurd (cc)
is_due_id now at id (d ∷ ds) le there = elim (cases_Bool (is_at (sooner (at, id)) d)) [
  | inl e ↦
      let same : (at, id) ≡ d = exact_pairs nat_cmp nat_cmp exact_unsigned exact_unsigned (at, id) d (search (rules, Equal-is)) in
      let due : nat_le d.0 now ≡ true = le_is d.0 now (subst (λ (p : ℕ × ℕ). p.0 ≤ now) same le) in
      rw due (or_left (nat_eq id d.1) (list_any (nat_eq id) (due_ids now ds)) (eq-eqb id d.1 (ap (λ (p : ℕ × ℕ). p.1) same)))
  | inr e ↦
      let rest = is_due_id now at id ds le (rw e at there) in
      elim (cases_Bool (nat_le d.0 now)) [
        | inl due ↦ rw due (or_right (nat_eq id d.1) (list_any (nat_eq id) (due_ids now ds)) rest)
        | inr not ↦ rw not rest
      ]
]

-- the first of those in order isn't behind itself
not_behind : (d : ℕ × ℕ) (ds : List (ℕ × ℕ)) → AllByRecursion (λ q. sooner d q ≡ Less) ds → has_deadline ds d.0 d.1 ≡ false
not_behind d [] all = refl
not_behind d (q ∷ ds) all = rw all.0 (not_behind d ds all.1)

none_passes : (p : ℕ → Bool) (ks : List ℕ) → list_any p ks ≡ false → AllByRecursion (λ k. p k ≡ false) ks
none_passes p [] none = tt
none_passes p (k ∷ ks) none = elim (cases_Bool (p k)) [
  | inl e ↦ let bad : true ≡ false = rw e at none in cc
  | inr e ↦ (e, none_passes p ks (rw e at none))
]

-- no id has two deadlines
abbrev IsOne : List (ℕ × ℕ) → Type 0
IsOne ds = (at id moment : ℕ) → has_deadline ds at id ≡ true → has_deadline ds moment id ≡ true → at ≡ moment

first_once : (now : ℕ) (d : ℕ × ℕ) (ds : List (ℕ × ℕ)) → IsStrictlySortedBy sooner (d ∷ ds) → IsOne (d ∷ ds) → list_any (nat_eq d.1) (due_ids now ds) ≡ false
first_once now d ds sorted one = elim (cases_Bool (list_any (nat_eq d.1) (due_ids now ds))) [
  | inl there ↦
      let x = has_due now d.1 ds there in
      let same : d.0 ≡ x.0 = one d.0 d.1 x.0 (had d ds) (had_behind d ds x.0 d.1 x.2) in
      let again : has_deadline ds d.0 d.1 ≡ true = subst (λ at. has_deadline ds at d.1 ≡ true) (sym same) x.2 in
      let bad : true ≡ false = sym again ∙ not_behind d ds (sorted_head sooner d ds sorted) in cc
  | inr none ↦ none
]

-- so each is due once
pub due_once : (now : ℕ) (ds : List (ℕ × ℕ)) → IsStrictlySortedBy sooner ds → IsOne ds → IsDistinct nat_eq (due_ids now ds)
unfolding IsDistinct
due_once now [] sorted one = tt
due_once now (d ∷ ds) sorted one =
    let rest = due_once now ds (sorted_tail sooner d ds sorted) (λ at id moment h i. one at id moment (had_behind d ds at id h) (had_behind d ds moment id i)) in
    elim (cases_Bool (nat_le d.0 now)) [
      | inl due ↦ rw due (none_passes (nat_eq d.1) (due_ids now ds) (first_once now d ds sorted one), rest)
      | inr not ↦ rw not rest
    ]

-- none is due that stands behind one that is later
pub none_due_from : (now : ℕ) (d : ℕ × ℕ) (ds : List (ℕ × ℕ)) → IsStrictlySortedBy sooner (d ∷ ds) → now < d.0 → due_ids now (d ∷ ds) ≡ []
none_due_from now d ds sorted later = rw (later_is d.0 later) (rest ds (sorted_head sooner d ds sorted))
  where
    later_is : (at : ℕ) → now < at → nat_le at now ≡ false
    later_is at less = grind (arith, nat_tests, less)

    no_sooner : (q : ℕ × ℕ) → sooner d q ≡ Less → d.0 ≤ q.0
    no_sooner q h = by_ranked _ _ _ (nat_cmp d.0 q.0) (ranked d.0 q.0 _ refl) (λ _ less. omega (arith, less)) (λ _ same. omega (arith, same)) (λ e _. let bad : Greater ≡ Less = rw e at h in cc)

    rest : (qs : List (ℕ × ℕ)) → AllByRecursion (λ q. sooner d q ≡ Less) qs → due_ids now qs ≡ []
    rest [] all = refl
    rest (q ∷ qs) all = let le = no_sooner q all.0 in rw (later_is q.0 (omega (arith, le, later))) (rest qs all.1)

-- one that is no later is due, in front of the others
pub due_first : (now : ℕ) (d : ℕ × ℕ) (ds : List (ℕ × ℕ)) → d.0 ≤ now → due_ids now (d ∷ ds) ≡ d.1 ∷ due_ids now ds
due_first now d ds le = rw (le_is d.0 now le) refl

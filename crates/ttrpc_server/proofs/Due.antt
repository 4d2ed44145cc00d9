-- Which jobs are due: those whose ids are listed at a tick, by rising id.
use Rattle.ttrpc_server.proofs.Words.{arith, inl, inr, ◌≡◌, ◌≢◌, ◌<◌, ◌≤◌, ◌&&◌, ℕ, nat_eq, nat_cmp, List, [], ◌∷◌, length, list_any, map, Option, Some, None, Bool, true, false, refl, sym, ap, subst, ◌∙◌, AllByRecursion, cases_Bool, ActiveJob, Rising, deadline_in, is_due_at, due_jobs, is_due, IsDeadline}
use Rattle.std.specs.Prelude.{◌||◌, nat_le, IsPermutation}
use Rattle.std.specs.Option.{option_map_or}
use Rattle.std.specs.List.{IsDistinct}
use Rattle.std.specs.List.Sorted.{IsNonDecreasing, IsStrictlySortedBy}
use Rattle.std.specs.Cmp.{nat_eq_equiv}
use Rattle.std.specs.declared.cmp.Ordering.TheVariants.{Less}
use Rattle.std.proofs.lemmas.Bool.Decides.{nat_tests}
use Rattle.std.proofs.lemmas.List.Sorted.{list_any-IsPermutation}
use Rattle.std.proofs.lemmas.Map.Keys.{IsDistinct-IsPermutation, IsStrictlyIncreasing-from_distinct, sorted_from_strictly_increasing, sorted_head, sorted_tail}
use Rattle.std.proofs.lemmas.Map.Made.{length-le_from_is_member}
use Rattle.ttrpc_connection.specs.Deadlines.{due_ids, has_deadline, is_moment, sooner}
use Rattle.ttrpc_connection.proofs.Soonest.{due_once, has_due, is_due_id}
use Rattle.ttrpc_connection.proofs.Words.{cases_eq, eq-eqb, eqb-true, ne_eqb}
use Rattle.ttrpc_server.proofs.Kept.{none_below}

-- their ids
abbrev pub ids_of : List ActiveJob → List ℕ
ids_of jobs = map (λ j. j.id) jobs

-- ---- a job and its deadline

or_left : (a b : Bool) → a ≡ true → (a || b) ≡ true
or_left true b h = refl
or_left false b h = cc

or_right : (a b : Bool) → b ≡ true → (a || b) ≡ true
or_right true b h = refl
or_right false b h = h

both : (a b : Bool) → a ≡ true → b ≡ true → (a && b) ≡ true
both true b h i = i
both false b h i = cc

is_le : (a b : ℕ) → nat_le a b ≡ true → a ≤ b
is_le a b h = grind (arith, nat_tests, h)

le_is : (a b : ℕ) → a ≤ b → nat_le a b ≡ true
le_is a b h = grind (arith, nat_tests, h)

-- a deadline that has passed is a moment that is no later
due_moment : (now : ℕ) (deadline : Option ℕ) → option_map_or (λ at. nat_le at now) deadline false ≡ true → (at : ℕ) × (at ≤ now) × (is_moment at deadline ≡ true)
due_moment now None due = absurd (cc)
due_moment now (Some at) due = (at, is_le at now due, eq-eqb at at refl)

moment_due : (now at : ℕ) (deadline : Option ℕ) → at ≤ now → is_moment at deadline ≡ true → option_map_or (λ at. nat_le at now) deadline false ≡ true
moment_due now at None le is = absurd (cc)
moment_due now at (Some moment) le is = let same : at ≡ moment = eqb-true at moment is in le_is moment now (subst (λ n. n ≤ now) same le)

one_moment : (at moment : ℕ) (deadline : Option ℕ) → is_moment at deadline ≡ true → is_moment moment deadline ≡ true → at ≡ moment
one_moment at moment None is was = absurd (cc)
one_moment at moment (Some d) is was = eqb-true at d is ∙ sym (eqb-true moment d was)

-- ---- the jobs that are due have deadlines that are no later, and others have none

job_due : (now id : ℕ) (js : List ActiveJob) → list_any (nat_eq id) (ids_of (due_jobs now js)) ≡ true → (at : ℕ) × (at ≤ now) × (is_due_at js at id ≡ true)
job_due now id [] there = absurd (cc)
job_due now id (j ∷ js) there = elim (cases_Bool (is_due now j)) [
  | inl due ↦ elim (cases_eq id j.id) [
    | inl same ↦
        let x = due_moment now (deadline_in j.body) due in
        (x.0, x.1, or_left (nat_eq id j.id && is_moment x.0 (deadline_in j.body)) (is_due_at js x.0 id) (both _ _ (eq-eqb id j.id same) x.2))
    | inr apart ↦
        let rest : list_any (nat_eq id) (ids_of (due_jobs now js)) ≡ true = rw (due, ne_eqb id j.id apart) at there in
        let x = job_due now id js rest in
        (x.0, x.1, or_right (nat_eq id j.id && is_moment x.0 (deadline_in j.body)) (is_due_at js x.0 id) x.2)
  ]
  | inr not ↦
      let rest : list_any (nat_eq id) (ids_of (due_jobs now js)) ≡ true = rw not at there in
      let x = job_due now id js rest in
      (x.0, x.1, or_right (nat_eq id j.id && is_moment x.0 (deadline_in j.body)) (is_due_at js x.0 id) x.2)
]

due_job : (now at id : ℕ) (js : List ActiveJob) → at ≤ now → is_due_at js at id ≡ true → list_any (nat_eq id) (ids_of (due_jobs now js)) ≡ true
due_job now at id [] le there = absurd (cc)
due_job now at id (j ∷ js) le there = elim (cases_Bool (nat_eq id j.id && is_moment at (deadline_in j.body))) [
  | inl e ↦
      let due : is_due now j ≡ true = moment_due now at (deadline_in j.body) le (second _ _ e) in
      rw due (or_left (nat_eq id j.id) (list_any (nat_eq id) (ids_of (due_jobs now js))) (first _ _ e))
  | inr e ↦
      let rest = due_job now at id js le (rw e at there) in
      elim (cases_Bool (is_due now j)) [
        | inl due ↦ rw due (or_right (nat_eq id j.id) (list_any (nat_eq id) (ids_of (due_jobs now js))) rest)
        | inr not ↦ rw not rest
      ]
]
  where
    first : (a b : Bool) → (a && b) ≡ true → a ≡ true
    first true b h = refl
    first false b h = h

    second : (a b : Bool) → (a && b) ≡ true → b ≡ true
    second true b h = h
    second false b h = cc

-- each job has one deadline
one_deadline : (low high : ℕ) (js : List ActiveJob) → Rising low js high → (at id moment : ℕ) → is_due_at js at id ≡ true → is_due_at js moment id ≡ true → at ≡ moment
one_deadline low high [] rising at id moment is was = absurd (cc)
one_deadline low high (j ∷ js) rising at id moment is was = elim (cases_eq id j.id) [
  | inl same ↦
      let none : (n : ℕ) → is_due_at js n id ≡ false = λ n. none_below j.id high id n js rising.1 (omega (arith, same)) in
      one_moment at moment (deadline_in j.body) (own at none same is) (own moment none same was)
  | inr apart ↦ one_deadline j.id high js rising.1 at id moment (rw (ne_eqb id j.id apart) at is) (rw (ne_eqb id j.id apart) at was)
]
  where
    by : (a b c : Bool) → a ≡ true → c ≡ false → ((a && b) || c) ≡ true → b ≡ true
    by true true c p q h = refl
    by true false c p q h = let bad : false ≡ true = sym q ∙ h in cc
    by false b c p q h = cc

    own : (n : ℕ) → ((n : ℕ) → is_due_at js n id ≡ false) → id ≡ j.id → is_due_at (j ∷ js) n id ≡ true → is_moment n (deadline_in j.body) ≡ true
    own n none same h = by (nat_eq id j.id) (is_moment n (deadline_in j.body)) (is_due_at js n id) (eq-eqb id j.id same) (none n) h

-- ---- what is listed

same_answers : (a b : Bool) → (a ≡ true → b ≡ true) → (b ≡ true → a ≡ true) → a ≡ b
same_answers true b h i = sym (h refl)
same_answers false true h i = i refl
same_answers false false h i = refl

-- those that rise and have the same numbers are the same
same_sorted : (xs ys : List ℕ) → IsStrictlySortedBy nat_cmp xs → IsStrictlySortedBy nat_cmp ys → ((k : ℕ) → list_any (nat_eq k) xs ≡ list_any (nat_eq k) ys) → xs ≡ ys
same_sorted [] [] p q same = refl
same_sorted [] (y ∷ ys) p q same = let has = or_left (nat_eq y y) (list_any (nat_eq y) ys) (eq-eqb y y refl) in let bad : false ≡ true = same y ∙ has in cc
same_sorted (x ∷ xs) [] p q same = let has = or_left (nat_eq x x) (list_any (nat_eq x) xs) (eq-eqb x x refl) in let bad : true ≡ false = sym has ∙ same x in cc
same_sorted (x ∷ xs) (y ∷ ys) p q same =
    let lt_xs = above_all x xs (sorted_head nat_cmp x xs p) in
    let lt_ys = above_all y ys (sorted_head nat_cmp y ys q) in
    let here : x ≡ y = elim (cases_eq x y) [
      | inl is ↦ is
      | inr apart ↦
          let in_ys : list_any (nat_eq x) ys ≡ true = rw (ne_eqb x y apart) at (sym (same x) ∙ or_left (nat_eq x x) (list_any (nat_eq x) xs) (eq-eqb x x refl)) in
          let in_xs : list_any (nat_eq y) xs ≡ true = rw (ne_eqb y x (λ e. apart (sym e))) at (same y ∙ or_left (nat_eq y y) (list_any (nat_eq y) ys) (eq-eqb y y refl)) in
          let yx = lt_ys x in_ys in let xy = lt_xs y in_xs in absurd (omega (arith, yx, xy))
    ] in
    let tails : (k : ℕ) → list_any (nat_eq k) xs ≡ list_any (nat_eq k) ys = λ k. same_answers _ _
    (λ h. let less = lt_xs k h in let apart : k ≢ y = omega (arith, less, here) in rw (ne_eqb k y apart) at (sym (same k) ∙ or_right (nat_eq k x) (list_any (nat_eq k) xs) h))
    (λ h. let less = lt_ys k h in let apart : k ≢ x = omega (arith, less, here) in rw (ne_eqb k x apart) at (same k ∙ or_right (nat_eq k y) (list_any (nat_eq k) ys) h)) in
    rw (here, same_sorted xs ys (sorted_tail nat_cmp x xs p) (sorted_tail nat_cmp y ys q) tails) refl
  where
    less_of : (a b : ℕ) → nat_cmp a b ≡ Less → a < b
    less_of a b h = grind (arith, nat_tests, h)

    above_all : (n : ℕ) (ks : List ℕ) → AllByRecursion (λ k. nat_cmp n k ≡ Less) ks → (k : ℕ) → list_any (nat_eq k) ks ≡ true → n < k
    above_all n [] all k there = absurd (cc)
    above_all n (x ∷ ks) all k there = elim (cases_eq k x) [
      | inl is ↦ subst (λ i. n < i) (sym is) (less_of n x all.0)
      | inr apart ↦ above_all n ks all.1 k (rw (ne_eqb k x apart) at there)
    ]

-- the ids of the jobs that are due rise
above_due : (now n low high : ℕ) (js : List ActiveJob) → n ≤ low → Rising low js high → AllByRecursion (λ k. nat_cmp n k ≡ Less) (ids_of (due_jobs now js))
above_due now n low high [] le rising = tt
above_due now n low high (j ∷ js) le rising = elim (cases_Bool (is_due now j)) [
  | inl due ↦ rw due (less n j.id (omega (arith, le, rising.0)), above_due now n j.id high js (omega (arith, le, rising.0)) rising.1)
  | inr not ↦ rw not (above_due now n j.id high js (omega (arith, le, rising.0)) rising.1)
]
  where
    less : (a b : ℕ) → a < b → nat_cmp a b ≡ Less
    less a b h = grind (arith, nat_tests, h)

due_rise : (now low high : ℕ) (js : List ActiveJob) → Rising low js high → IsStrictlySortedBy nat_cmp (ids_of (due_jobs now js))
unfolding IsStrictlySortedBy
due_rise now low high [] rising = tt
due_rise now low high (j ∷ js) rising = elim (cases_Bool (is_due now j)) [
  | inl due ↦ rw due (above_due now j.id j.id high js (omega arith) rising.1, due_rise now j.id high js rising.1)
  | inr not ↦ rw not (due_rise now j.id high js rising.1)
]

module _ (now last : ℕ) (ds : List (ℕ × ℕ)) (js : List ActiveJob) (rising : Rising 0 js last) (ordered : IsStrictlySortedBy sooner ds)
    (deadlines : (at id : ℕ) → has_deadline ds at id ≡ is_due_at js at id) where
  same_ids : (k : ℕ) → list_any (nat_eq k) (due_ids now ds) ≡ list_any (nat_eq k) (ids_of (due_jobs now js))
  same_ids k = same_answers _ _
      (λ h. let x = has_due now k ds h in due_job now x.0 k js x.1 (sym (deadlines x.0 k) ∙ x.2))
      (λ h. let x = job_due now k js h in is_due_id now x.0 k ds x.1 (deadlines x.0 k ∙ x.2))

  once : IsDistinct nat_eq (due_ids now ds)
  once = due_once now ds ordered (λ at id moment h i. one_deadline 0 last js rising at id moment (sym (deadlines at id) ∙ h) (sym (deadlines moment id) ∙ i))

  fewer : (js : List ActiveJob) → length (ids_of (due_jobs now js)) ≤ length js
  fewer [] = omega arith
  fewer (j ∷ js) = let n = fewer js in elim (cases_Bool (is_due now j)) [ inl due ↦ rw due (omega (arith, n)) | inr not ↦ rw not (omega (arith, n)) ]

  -- they are no more than the jobs
  pub due_fit : length (due_ids now ds) ≤ length js
  due_fit =
      let n = length-le_from_is_member nat_eq_equiv (due_ids now ds) (ids_of (due_jobs now js)) once (λ q h. sym (same_ids q) ∙ h) in
      let m = fewer js in omega (arith, n, m)

  -- put into order, they are the ids of the jobs that are due
  pub due_listed : (listed : List ℕ) → IsPermutation (due_ids now ds) listed → IsNonDecreasing listed → listed ≡ ids_of (due_jobs now js)
  due_listed listed moved rise =
      let apart = IsDistinct-IsPermutation nat_eq flips (due_ids now ds) listed moved once in
      same_sorted listed (ids_of (due_jobs now js)) (sorted_from_strictly_increasing listed (IsStrictlyIncreasing-from_distinct listed rise apart)) (due_rise now 0 last js rising)
      (λ k. sym (list_any-IsPermutation (nat_eq k) (due_ids now ds) listed moved) ∙ same_ids k)
    where
      flips : (x y : ℕ) → nat_eq x y ≡ nat_eq y x
      flips x y = nat_eq_equiv.symm x y

-- ---- the soonest

module _ (ds : List (ℕ × ℕ)) (js : List ActiveJob) (deadlines : (at id : ℕ) → has_deadline ds at id ≡ is_due_at js at id) where
  -- where each deadline is later, no job is due
  pub none_due_before : (now : ℕ) → ((at id : ℕ) → has_deadline ds at id ≡ true → now < at) → due_jobs now js ≡ []
  none_due_before now later = by (due_jobs now js) refl
    where
      by : (ks : List ActiveJob) → ks ≡ due_jobs now js → ks ≡ []
      by [] is = refl
      by (k ∷ ks) is =
          let there : list_any (nat_eq k.id) (ids_of (due_jobs now js)) ≡ true = subst (λ l. list_any (nat_eq k.id) (ids_of l) ≡ true) is (or_left (nat_eq k.id k.id) (list_any (nat_eq k.id) (ids_of ks)) (eq-eqb k.id k.id refl)) in
          let x = job_due now k.id js there in
          let less = later x.0 k.id (deadlines x.0 k.id ∙ x.2) in
          let le = x.1 in absurd (omega (arith, less, le))

  -- the least of them is the least moment at which a job is due
  pub is_deadline : (at id : ℕ) → has_deadline ds at id ≡ true → ((moment k : ℕ) → has_deadline ds moment k ≡ true → at ≤ moment) → IsDeadline js at
  is_deadline at id there least = record {
    some = λ none.
        let is = due_job at at id js (omega arith) (sym (deadlines at id) ∙ there) in
        let bad : false ≡ true = sym (ap (λ l. list_any (nat_eq id) (ids_of l)) none) ∙ is in cc;
    earlier = λ now less. none_due_before now (λ moment k h. let le = least moment k h in omega (arith, le, less));
  }

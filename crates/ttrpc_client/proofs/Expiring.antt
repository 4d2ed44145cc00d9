-- Calls that expire: which are due, and what is left of those that are.
use Rattle.ttrpc_client.proofs.Words.{rules, arith, ◌≡◌, ◌≢◌, ◌<◌, ◌≤◌, ◌%◌, ◌^◌, cases_lt, IsClient, ℕ, List, [], ◌∷◌, length, Option, Some, None, true, false, refl, sym, ap, subst, ◌∙◌, IsPermutation-cons, IsPermutation-middle, IsPermutation-refl, IsPermutation-trans, length_permutation, insert_entry, is_at, ranked, AllByRecursion, IsPermutation, IsStrictlySortedBy, keys_of, nat_cmp, CallState, Waiting, Expired, Client, OthersStay, call_in, IsDeadline, due_at, due_ids, expired_at, is_due, ExpiresOne, Settles, AreDeadlines, deadline_in, has_deadline, is_moment, cases_Bool, inl, inr, IfSome, values_of, nat_cmp_total, by_ranked, same_Some, eq_by_cmp_equiv, none_below_head}
use Rattle.std.proofs.lemmas.List.Elements.{recursion_from_All}
use Rattle.std.proofs.lemmas.Map.{lookup-none}
use Rattle.std.proofs.lemmas.Map.Keys.{IsDistinct-from_sorted, sorted_tail}
use Rattle.std.proofs.lemmas.Map.Views.{All-values_from_lookup}
use Rattle.ttrpc_client.proofs.Entries.{at_or_apart}

abbrev pub IsOrdered : List (ℕ × CallState) → Type 0
IsOrdered calls = IsStrictlySortedBy nat_cmp (keys_of calls)

-- ---- a deadline and its call

waiting_at : (at : ℕ) (call : Option CallState) → is_moment at (deadline_in call) ≡ true → call ≡ Some (Waiting (Some at))
waiting_at at (Some (Waiting (Some deadline))) h = let same : at ≡ deadline = search (rules, h) in ap (λ d. Some (Waiting (Some d))) (sym same)
waiting_at at call h = cc

pub found : (ds : List (ℕ × ℕ)) (calls : List (ℕ × CallState)) (at id : ℕ) → AreDeadlines ds calls → has_deadline ds at id ≡ true → call_in calls id ≡ Some (Waiting (Some at))
found ds calls at id are there = waiting_at at (call_in calls id) (sym (are at id) ∙ there)

-- a call that is kept has an id of 32 bits
pub id_fits : (next : ℕ) (calls : List (ℕ × CallState)) (id : ℕ) (call : CallState) → IsClient next calls → call_in calls id ≡ Some call → id < 2 ^ 32
id_fits next calls id call valid is =
    let some : call_in calls id ≢ None = λ none. let bad : Some call ≡ None = sym is ∙ none in cc in
    let odd : id % 2 ≡ 1 = valid.odd_calls id some in
    elim (cases_lt id next) [
      | inl less ↦ omega (arith, odd, less, valid.in_range)
      | inr not ↦ absurd (some (valid.fresh id (omega (arith, not))))
    ]

-- so none is due above
pub none_above : (next : ℕ) (calls : List (ℕ × CallState)) (id now : ℕ) → IsClient next calls → 2 ^ 32 ≤ id → due_at now (call_in calls id) ≡ false
none_above next calls id now valid above = by (call_in calls id) refl
  where
    by : (call : Option CallState) → call_in calls id ≡ call → due_at now call ≡ false
    by None is = refl
    by (Some call) is = absurd (let fits = id_fits next calls id call valid is in omega (arith, fits, above))

-- ---- none is due

none_of : (now : ℕ) (es : List (ℕ × CallState)) → AllByRecursion (λ call. is_due now call ≡ false) (values_of es) → due_ids now es ≡ []
none_of now [] all = refl
none_of now (e ∷ es) all = rw all.0 (none_of now es all.1)

later_due : (now : ℕ) (call : Option CallState) → ((at : ℕ) → is_moment at (deadline_in call) ≡ true → now < at) → IfSome call (λ c. is_due now c ≡ false)
later_due now None later = tt
later_due now (Some (Waiting (Some at))) later = let less = later at (search rules) in search (rules, less)
later_due now (Some call) later = refl

-- where each deadline is later, no call is due
pub none_due_before : (ds : List (ℕ × ℕ)) (calls : List (ℕ × CallState)) (now : ℕ) → IsOrdered calls → AreDeadlines ds calls → ((at id : ℕ) → has_deadline ds at id ≡ true → now < at) → due_ids now calls ≡ []
none_due_before ds calls now ordered are later = none_of now calls (recursion_from_All _ (values_of calls) (All-values_from_lookup (eq_by_cmp_equiv nat_cmp_total) (λ call. is_due now call ≡ false) calls
    (IsDistinct-from_sorted nat_cmp (keys_of calls) ordered) (λ id. later_due now (call_in calls id) (λ at there. later at id (are at id ∙ there)))))

-- where none is due, no call of any id is
pub not_due : (now k : ℕ) (es : List (ℕ × CallState)) → due_ids now es ≡ [] → due_at now (call_in es k) ≡ false
not_due now k [] h = refl
not_due now k (e ∷ es) h = elim (cases_Bool (is_due now e.1)) [
  | inl due ↦ let bad : e.0 ∷ due_ids now es ≡ [] = rw due at h in cc
  | inr kept ↦ let later = not_due now k es (rw kept at h) in elim (cases_Bool (is_at (nat_cmp k) e.0)) [ inl at ↦ rw at kept | inr at ↦ rw at later ]
]

pub stays_as_it_is : (now : ℕ) (call : Option CallState) → due_at now call ≡ false → expired_at now call ≡ call
stays_as_it_is now None h = refl
stays_as_it_is now (Some call) h = rw h refl

-- ---- one that is due expires

-- it is in its place, and its entry alone changes
pub expired_one : (now id : ℕ) (call : CallState) (es : List (ℕ × CallState)) → IsOrdered es → is_due now call ≡ true → call_in es id ≡ Some call
    → IsPermutation (id ∷ due_ids now (insert_entry nat_cmp es id Expired)) (due_ids now es)
expired_one now id call [] ordered due h = cc
expired_one now id call (e ∷ es) ordered due h = by_ranked _ _ _ (nat_cmp id e.0) (ranked id e.0 _ refl)
    (λ q _. let bad : Some call ≡ None = sym h ∙ lookup-none (is_at (nat_cmp id)) (e ∷ es) (none_below_head nat_cmp_total id e es ordered q) in cc)
    (λ q same.
    let is : is_due now e.1 ≡ true = ap (is_due now) (same_Some e.1 call (rw q at h)) ∙ due in
    rw (q, is, same) (IsPermutation-refl (e.0 ∷ due_ids now es)))
    (λ q _.
    let later = expired_one now id call es (sorted_tail nat_cmp e.0 (keys_of es) ordered) due (rw q at h) in
    let left = due_ids now (insert_entry nat_cmp es id Expired) in
    rw q (elim (cases_Bool (is_due now e.1)) [
      | inl is ↦ rw is (IsPermutation-trans (id ∷ e.0 ∷ left) (e.0 ∷ id ∷ left) (e.0 ∷ due_ids now es) (IsPermutation-middle (id ∷ []) e.0 left) (IsPermutation-cons e.0 (id ∷ left) (due_ids now es) later))
      | inr is ↦ rw is later
    ]))

-- what a call is in the end doesn't depend on whether it has expired already
by_id : (now id : ℕ) (old new : List (ℕ × CallState)) → expired_at now (call_in old id) ≡ Some Expired → call_in new id ≡ Some Expired → OthersStay old id new
    → (k : ℕ) → expired_at now (call_in new k) ≡ expired_at now (call_in old k)
by_id now id old new due own others = at_or_apart (λ k. expired_at now (call_in new k) ≡ expired_at now (call_in old k)) id
    (ap (expired_at now) own ∙ sym due) (λ k apart. ap (expired_at now) (others k apart))

pub expires : (old new : Client) (now at id : ℕ) → call_in old.calls id ≡ Some (Waiting (Some at)) → at ≤ now → Settles old id Expired new → ExpiresOne old now id new
expires old new now at id was le settles =
    let due : is_due now (Waiting (Some at)) ≡ true = search (rules, le) in
    let becomes : expired_at now (call_in old.calls id) ≡ Some Expired = rw (was, due) refl in
    record {
      due = subst (λ cs. IsPermutation (id ∷ due_ids now cs) (due_ids now old.calls)) (sym settles.calls) (expired_one now id (Waiting (Some at)) old.calls settles.was_ordered due was);
      calls = by_id now id old.calls new.calls becomes settles.own settles.others;
      same = settles.same;
    }

pub is_deadline : (ds : List (ℕ × ℕ)) (calls : List (ℕ × CallState)) (at id : ℕ) → IsOrdered calls → AreDeadlines ds calls → has_deadline ds at id ≡ true
    → ((moment k : ℕ) → has_deadline ds moment k ≡ true → at ≤ moment) → IsDeadline calls at
is_deadline ds calls at id ordered are there least = record {
  some = λ none.
      let now : at ≤ at = omega arith in
      let count = length_permutation _ (due_ids at calls) (expired_one at id (Waiting (Some at)) calls ordered (search (rules, now)) (found ds calls at id are there)) in
      omega (arith, count, ap (λ (xs : List ℕ). length xs) none);
  earlier = λ now less. none_due_before ds calls now ordered are (λ moment k h. let le = least moment k h in omega (arith, le, less));
}

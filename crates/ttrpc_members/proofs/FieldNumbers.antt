-- Numbers of fields: which are valid, and what is among two lists of them.
use Rattle.std.proofs.Common.{◌≡◌, ◌≢◌, ℕ, ◌<◌, ◌≤◌, ◌^◌, List, [], ◌∷◌, ◌++◌, Bool, true, false, nat_eq, nat_lt, if◌then◌else◌, refl, sym, ap, ◌∙◌, arith, inl, inr}
use Rattle.std.proofs.lemmas.Bool.{eqb-true, ltb-true}
use Rattle.std.proofs.lemmas.Bool.Decides.{eqb_tells}
use Rattle.ttrpc_members.specs.Laws.{is_number, is_among, are_valid}

pub same_number : (n : ℕ) → nat_eq n n ≡ true
same_number n = elim (eqb_tells n n) [ inl e ↦ e.0 | inr e ↦ absurd (e.1 refl) ]

-- numbers that are equal are told so
pub equal_number : (n k : ℕ) → n ≡ k → nat_eq n k ≡ true
equal_number n k e = ap (λ (m : ℕ). nat_eq n m) (sym e) ∙ same_number n

-- and numbers that differ
pub other_number : (n k : ℕ) → n ≢ k → nat_eq n k ≡ false
other_number n k differ = by_test (nat_eq n k) refl
  where
    by_test : (b : Bool) → nat_eq n k ≡ b → b ≡ false
    by_test true e = absurd (differ (eqb-true n k e))
    by_test false e = refl

-- one number alone
pub among_one : (n : ℕ) → is_among n (n ∷ []) ≡ true
among_one n = ap (λ b. if b then true else false) (same_number n)

chosen_false : (b : Bool) → (if b then true else false) ≡ false → b ≡ false
chosen_false true e = absurd cc
chosen_false false e = refl

pub not_among_one : (n k : ℕ) → is_among n (k ∷ []) ≡ false → nat_eq n k ≡ false
not_among_one n k e = chosen_false (nat_eq n k) e

pub record IsValid (n : ℕ) : Type 0 where
  pub low : 1 ≤ n
  pub high : n < 2 ^ 29

both_true : (a b : Bool) → (if a then b else false) ≡ true → (a ≡ true) × (b ≡ true)
both_true true b e = (refl, e)
both_true false b e = absurd cc

first_false : (a b : Bool) → (if a then false else b) ≡ true → (a ≡ false) × (b ≡ true)
first_false true b e = absurd cc
first_false false b e = (refl, e)

is_valid : (n : ℕ) → is_number n ≡ true → IsValid n
is_valid n e =
    let t = both_true (nat_lt 0 n) (nat_lt n 536870912) e in
    let a = ltb-true 0 n t.0 in
    let b = ltb-true n 536870912 t.1 in
    record { low = omega (arith, a); high = omega (arith, b) }

pub record AreValid (n : ℕ) (ns : List ℕ) : Type 0 where
  pub first : IsValid n
  pub apart : is_among n ns ≡ false
  pub others : are_valid ns ≡ true

pub valid_cons : (n : ℕ) (ns : List ℕ) → are_valid (n ∷ ns) ≡ true → AreValid n ns
valid_cons n ns e =
    let t = both_true (is_number n) (if is_among n ns then false else are_valid ns) e in
    let u = first_false (is_among n ns) (are_valid ns) t.1 in
    record { first = is_valid n t.0; apart = u.0; others = u.1 }

-- ---- two lists

among-append_step : (b c : Bool) (n : ℕ) (ns ks : List ℕ) → is_among n (ns ++ ks) ≡ (if is_among n ns then true else is_among n ks) → (if b then true else is_among n (ns ++ ks)) ≡ (if (if b then true else is_among n ns) then true else is_among n ks)
among-append_step true c n ns ks e = refl
among-append_step false c n ns ks e = e

pub among-append : (n : ℕ) (ns ks : List ℕ) → is_among n (ns ++ ks) ≡ (if is_among n ns then true else is_among n ks)
among-append n [] ks = refl
among-append n (m ∷ ns) ks = among-append_step (nat_eq n m) true n ns ks (among-append n ns ks)

either_false : (a b : Bool) → (if a then true else b) ≡ false → (a ≡ false) × (b ≡ false)
either_false true b e = absurd cc
either_false false b e = (refl, e)

pub record AreApart (ns ks : List ℕ) : Type 0 where
  pub first : are_valid ns ≡ true
  pub second : are_valid ks ≡ true
  pub apart : (n : ℕ) → is_among n ns ≡ true → is_among n ks ≡ false

pub not_among_either : (n : ℕ) (ns ks : List ℕ) → is_among n (ns ++ ks) ≡ false → (is_among n ns ≡ false) × (is_among n ks ≡ false)
not_among_either n ns ks e = either_false (is_among n ns) (is_among n ks) (sym (among-append n ns ks) ∙ e)

pub among_first : (n : ℕ) (ns ks : List ℕ) → is_among n ns ≡ true → is_among n (ns ++ ks) ≡ true
among_first n ns ks e = among-append n ns ks ∙ ap (λ b. if b then true else is_among n ks) e

either_true : (a b : Bool) → b ≡ true → (if a then true else b) ≡ true
either_true true b e = refl
either_true false b e = e

pub among_second : (n : ℕ) (ns ks : List ℕ) → is_among n ks ≡ true → is_among n (ns ++ ks) ≡ true
among_second n ns ks e = among-append n ns ks ∙ either_true (is_among n ns) (is_among n ks) e

apart_step : (b : Bool) (n m : ℕ) (ns ks : List ℕ) → nat_eq n m ≡ b → is_among m ks ≡ false → (is_among n ns ≡ true → is_among n ks ≡ false) → (if b then true else is_among n ns) ≡ true → is_among n ks ≡ false
apart_step true n m ns ks same here there e = let is = eqb-true n m same in rw is here
apart_step false n m ns ks same here there e = there e

valid_true : (a b : Bool) → a ≡ true → b ≡ true → (if a then b else false) ≡ true
valid_true a b e f = rw (e, f) refl

joined_valid : (n : ℕ) (ns : List ℕ) → is_number n ≡ true → is_among n ns ≡ false → are_valid ns ≡ true → are_valid (n ∷ ns) ≡ true
joined_valid n ns a b c = rw (a, b, c) refl

pub valid_apart : (ns ks : List ℕ) → are_valid (ns ++ ks) ≡ true → AreApart ns ks
valid_apart [] ks e = record { first = refl; second = e; apart = λ n h. absurd cc }
valid_apart (n ∷ ns) ks e =
    let t = both_true (is_number n) (if is_among n (ns ++ ks) then false else are_valid (ns ++ ks)) e in
    let u = first_false (is_among n (ns ++ ks)) (are_valid (ns ++ ks)) t.1 in
    let r = valid_apart ns ks u.1 in
    let away = not_among_either n ns ks u.0 in
    record {
      first = joined_valid n ns t.0 away.0 r.first;
      second = r.second;
      apart = λ m h. apart_step (nat_eq m n) m n ns ks refl away.1 (r.apart m) h;
    }

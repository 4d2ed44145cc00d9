-- What holds of each item of a list, and the items of one key: for the crates above, too.
use Rattle.std.proofs.Common.{◌≡◌, ◌≢◌, ◌∙◌, ap, ℕ, nat_eq, List, [], ◌∷◌, ◌++◌, filter}
use Rattle.std.proofs.lemmas.Bool.{cond-false, cond-true, eq-eqb, ne_eqb}
use Rattle.std.proofs.lemmas.List.{append-nil}
use Rattle.std.proofs.lemmas.List.Elements.{filter-append}
use Rattle.std.specs.List.{AllByRecursion}

module _ {X : Type 0} (P : X → Type 0) where
  pub all_in_front : (xs ys : List X) → AllByRecursion P (xs ++ ys) → AllByRecursion P xs
  all_in_front [] ys h = tt
  all_in_front (x ∷ xs) ys h = (h.0, all_in_front xs ys h.1)

  pub all_behind : (xs ys : List X) → AllByRecursion P (xs ++ ys) → AllByRecursion P ys
  all_behind [] ys h = h
  all_behind (x ∷ xs) ys h = all_behind xs ys h.1

  pub all_joined : (xs ys : List X) → AllByRecursion P xs → AllByRecursion P ys → AllByRecursion P (xs ++ ys)
  all_joined [] ys h i = i
  all_joined (x ∷ xs) ys h i = (h.0, all_joined xs ys h.1 i)

  -- what holds of each holds of one among them, if it is another one then of that, and of the others
  pub all_at : (front back : List X) (x : X) → AllByRecursion P (front ++ x ∷ back) → P x
  all_at front back x h = (all_behind front (x ∷ back) h).0

  pub all_changed : (front back : List X) (x new : X) → P new → AllByRecursion P (front ++ x ∷ back) → AllByRecursion P (front ++ new ∷ back)
  all_changed front back x new now h = all_joined front (new ∷ back) (all_in_front front (x ∷ back) h) (now, (all_behind front (x ∷ back) h).1)

  pub all_less : (front back : List X) (x : X) → AllByRecursion P (front ++ x ∷ back) → AllByRecursion P (front ++ back)
  all_less front back x h = all_joined front back (all_in_front front (x ∷ back) h) (all_behind front (x ∷ back) h).1

-- ---- the items of one key

module _ {X : Type 0} (key : X → ℕ) (k : ℕ) where
  abbrev pub under : List X → List X
  under xs = filter (λ x. nat_eq (key x) k) xs

  pub under_both : (xs ys : List X) → under (xs ++ ys) ≡ under xs ++ under ys
  under_both xs ys = filter-append (λ x. nat_eq (key x) k) xs ys

  pub under_own : (x : X) (xs : List X) → key x ≡ k → under (x ∷ xs) ≡ x ∷ under xs
  under_own x xs own = cond-true (nat_eq (key x) k) _ _ (eq-eqb (key x) k own)

  pub under_other : (x : X) (xs : List X) → key x ≢ k → under (x ∷ xs) ≡ under xs
  under_other x xs other = cond-false (nat_eq (key x) k) _ _ (ne_eqb (key x) k other)

  pub between_own : (front back : List X) (x : X) → key x ≡ k → under (front ++ x ∷ back) ≡ under front ++ x ∷ under back
  between_own front back x own = under_both front (x ∷ back) ∙ ap (λ xs. under front ++ xs) (under_own x back own)

  pub between_other : (front back : List X) (x : X) → key x ≢ k → under (front ++ x ∷ back) ≡ under front ++ under back
  between_other front back x other = under_both front (x ∷ back) ∙ ap (λ xs. under front ++ xs) (under_other x back other)

  pub pushed_own : (x : X) (xs : List X) → key x ≡ k → under (xs ++ x ∷ []) ≡ under xs ++ x ∷ []
  pushed_own x xs own = between_own xs [] x own

  pub pushed_other : (x : X) (xs : List X) → key x ≢ k → under (xs ++ x ∷ []) ≡ under xs
  pushed_other x xs other = between_other xs [] x other ∙ append-nil (under xs)

-- How a search halves the places that are left, by looks at their ids.
use Rattle.std.proofs.Common.{arith, ◌≡◌, ◌∙◌, ◌<◌, ◌≤◌, ◌^◌, ◌/◌, ◌+◌, ◌-◌, ℕ, zero, suc, List, [], ◌∷◌, get_or, length, Some, None, refl, sym, ap, subst, inl, inr}
use Rattle.std.proofs.lemmas.Bool.{cases_lt}
use Rattle.std.proofs.lemmas.Map.Entries.{lookup_at_gap}
use Rattle.std.proofs.lemmas.Option.{slice_get_read}
use Rattle.std.specs.BTreeMap.{is_at}
use Rattle.std.specs.Cmp.{nat_cmp_total, ranked}
use Rattle.std.specs.declared.cmp.Ordering.{Ordering}
use Rattle.std.specs.declared.cmp.Ordering.TheVariants.{Greater, Less}
use Rattle.std.specs.List.{AllByRecursion, slice_get}
unfoldable use Rattle.std.specs.List.Sorted.{IsStrictlySortedBy}
use Rattle.std.specs.Map.{keys_of, lookup}
use Rattle.std.specs.Ordering.{nat_cmp}
use Rattle.ttrpc_client.specs.pending.Places.{Rise}
use Rattle.ttrpc_client.proofs.Places.{greater, less, under_at}

-- so many places are left that the looks at them come to no more than this
abbrev pub IsLookedAt : (whole left before now : ℕ) → Type 0
IsLookedAt whole left before now = (digits : ℕ) → whole < 2 ^ digits → (rest : ℕ) × (left < 2 ^ rest) × (now + rest ≤ before + digits)

less_rest : (less left before now digits rest : ℕ) → 0 < left → less ≤ left / 2 → left < 2 ^ rest → now + rest ≤ before + digits → (r : ℕ) × (less < 2 ^ r) × (now + 1 + r ≤ before + digits)
less_rest less left before now digits zero some half b s = absurd (omega (arith, some, b))
less_rest less left before now digits (suc r) some half b s = (r, omega (arith, half, b), omega (arith, s))

-- one look halves the places that are left
pub halved : (whole left less before now : ℕ) → 0 < left → less ≤ left / 2 → IsLookedAt whole left before now → IsLookedAt whole less before (now + 1)
halved whole left less before now some half looked digits h = let was = looked digits h in less_rest less left before now digits was.0 some half was.1 was.2

-- the place in the middle of those that are left
abbrev pub middle : ℕ → ℕ → ℕ
middle low high = low + (high - low) / 2

-- what a comparison with the wanted id says of the id
pub asked : (id wanted k : ℕ) (o : Ordering) → wanted ≡ id → o ≡ nat_cmp wanted k → nat_cmp id k ≡ o
asked id wanted k o same is = ap (λ i. nat_cmp i k) (sym same) ∙ sym is

module _ {Y : Type 0} where
  -- What a search knows before a look: the ids before low are below this one and those from high on above it, and how
  -- many looks there were.
  pub record IsSought (id : ℕ) (ps : List (ℕ × Y)) (low high before now : ℕ) : Type 0 where
    pub order : low ≤ high
    pub within : high ≤ length ps
    pub below : (j : ℕ) (p : ℕ × Y) → j < low → slice_get ps j ≡ Some p → p.0 < id
    pub above : (j : ℕ) (p : ℕ × Y) → high ≤ j → slice_get ps j ≡ Some p → id < p.0
    pub looks : IsLookedAt (length ps) (high - low) before now

  earlier : (ps : List (ℕ × Y)) (i j : ℕ) (p q : ℕ × Y) → Rise ps → i < j → slice_get ps i ≡ Some p → slice_get ps j ≡ Some q → p.0 < q.0
  unfolding IsStrictlySortedBy
  earlier [] i j p q rise lt here there = absurd (cc)
  earlier (r ∷ ps) i zero p q rise lt here there = absurd (omega (arith, lt))
  earlier (r ∷ ps) zero (suc j) p q rise lt here there = let is : r ≡ p = cc in under_at p.0 q.0 q.1 ps j (subst (λ (s : ℕ × Y). AllByRecursion (λ y. nat_cmp s.0 y ≡ Less) (keys_of ps)) is rise.0) there
  earlier (r ∷ ps) (suc i) (suc j) p q rise lt here there = earlier ps i j p q rise.1 (omega (arith, lt)) here there

  same_pair : (ps : List (ℕ × Y)) (i j : ℕ) (p q : ℕ × Y) → i ≡ j → slice_get ps i ≡ Some p → slice_get ps j ≡ Some q → p.0 ≡ q.0
  same_pair ps i j p q is here there = let both : Some p ≡ Some q = sym here ∙ ap (slice_get ps) is ∙ there in let one : p ≡ q = cc in ap (λ (s : ℕ × Y). s.0) one

  pub read_middle : (id : ℕ) (ps : List (ℕ × Y)) (low high before now : ℕ) (p : ℕ × Y) → IsSought id ps low high before now → low < high → p ≡ get_or ps (middle low high) p → slice_get ps (middle low high) ≡ Some p
  read_middle id ps low high before now p sought some read = let within = sought.within in slice_get_read ps (length ps) (middle low high) p refl (omega (arith, some, within)) read

  pub none_left : (id : ℕ) (ps : List (ℕ × Y)) (low high before now : ℕ) → Rise ps → IsSought id ps low high before now → high ≤ low → lookup (is_at (nat_cmp id)) ps ≡ None
  none_left id ps low high before now rise sought done = lookup_at_gap nat_cmp_total id ps low rise (λ j p lt here. greater id p.0 (sought.below j p lt here)) (λ p here. less id p.0 (sought.above low p done here))

  -- where the id is below that in the middle, and where it is above it
  pub went_left : (id : ℕ) (ps : List (ℕ × Y)) (low high before now later : ℕ) (p : ℕ × Y) → Rise ps → IsSought id ps low high before now → low < high → p ≡ get_or ps (middle low high) p
      → nat_cmp id p.0 ≡ Less → later ≡ now + 1 → IsSought id ps low (middle low high) before later
  went_left id ps low high before now later p rise sought some read is one =
      let place = middle low high in
      let here = read_middle id ps low high before now p sought some read in
      let within = sought.within in let lt = ranked id p.0 Less (sym is) in
      record {
        order = omega (arith, some);
        within = omega (arith, some, within);
        below = sought.below;
        above = λ j q le there. elim (cases_lt place j) [
          | inl after ↦ omega (arith, lt, earlier ps place j p q rise after here there)
          | inr ge ↦ omega (arith, lt, same_pair ps place j p q (omega (arith, ge, le)) here there)
        ];
        looks = subst (λ n. IsLookedAt (length ps) (place - low) before n) (sym one) (halved (length ps) (high - low) (place - low) before now (omega (arith, some)) (omega arith) sought.looks);
      }

  pub went_right : (id : ℕ) (ps : List (ℕ × Y)) (low high before now later : ℕ) (p : ℕ × Y) → Rise ps → IsSought id ps low high before now → low < high → p ≡ get_or ps (middle low high) p
      → nat_cmp id p.0 ≡ Greater → later ≡ now + 1 → IsSought id ps (middle low high + 1) high before later
  went_right id ps low high before now later p rise sought some read is one =
      let place = middle low high in
      let here = read_middle id ps low high before now p sought some read in
      let order = sought.order in let gt = ranked id p.0 Greater (sym is) in
      record {
        order = omega (arith, some, order);
        within = sought.within;
        below = λ j q before there. elim (cases_lt j place) [
          | inl lt ↦ omega (arith, gt, earlier ps j place q p rise lt there here)
          | inr ge ↦ omega (arith, gt, same_pair ps place j p q (omega (arith, ge, before)) here there)
        ];
        above = sought.above;
        looks = subst (λ n. IsLookedAt (length ps) (high - (place + 1)) before n) (sym one) (halved (length ps) (high - low) (high - (place + 1)) before now (omega (arith, some)) (omega (arith, order, some)) sought.looks);
      }

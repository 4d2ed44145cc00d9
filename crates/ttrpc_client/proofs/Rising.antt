-- Ids that rise by two.
use Rattle.ttrpc_client.proofs.Words.{arith, ◌≡◌, ◌≢◌, ◌⊎◌, inl, inr, refl, ℕ, ◌+◌, ◌<◌, ◌≤◌, ◌%◌, nat_eq, List, [], ◌∷◌, ◌++◌, false, sym, subst, ◌∙◌, AllByRecursion, IsDistinct, RiseByTwo, last_id}

pub rise_both : (xs ys : List ℕ) (first mid next : ℕ) → RiseByTwo first xs mid → RiseByTwo mid ys next → RiseByTwo first (xs ++ ys) next
rise_both [] ys first mid next one two = subst (λ n. RiseByTwo n ys next) one two
rise_both (x ∷ xs) ys first mid next one two = (one.0, one.1, rise_both xs ys (first + 2) mid next one.2 two)

pub rise_up : (first : ℕ) (ids : List ℕ) (next : ℕ) → RiseByTwo first ids next → first ≤ next
rise_up first [] next rises = omega (arith, rises)
rise_up first (id ∷ ids) next rises = let up = rise_up (first + 2) ids next rises.2 in omega (arith, up)

pub rise_odd : (first : ℕ) (ids : List ℕ) (next : ℕ) → RiseByTwo first ids next → first % 2 ≡ 1 → next % 2 ≡ 1
rise_odd first [] next rises odd = subst (λ n. n % 2 ≡ 1) (sym rises) odd
rise_odd first (id ∷ ids) next rises odd = rise_odd (first + 2) ids next rises.2 (omega (arith, odd))

pub rise_range : (first : ℕ) (ids : List ℕ) (next : ℕ) → RiseByTwo first ids next → first ≤ last_id + 2 → next ≤ last_id + 2
rise_range first [] next rises le = omega (arith, rises, le)
rise_range first (id ∷ ids) next rises le = let is = rises.0 in let below = rises.1 in rise_range (first + 2) ids next rises.2 (omega (arith, is, below))

pub rise_below : (first : ℕ) (ids : List ℕ) (next : ℕ) → RiseByTwo first ids next → AllByRecursion (λ id. id < next) ids
rise_below first [] next rises = tt
rise_below first (id ∷ ids) next rises = let up = rise_up (first + 2) ids next rises.2 in (omega (arith, up, rises.0), rise_below (first + 2) ids next rises.2)

-- ---- lists from which some items are gone

abbrev pub Within : List ℕ → List ℕ → Type 0
Within xs [] = xs ≡ []
Within xs (y ∷ ys) = Within xs ys ⊎ ((zs : List ℕ) × (xs ≡ y ∷ zs) × Within zs ys)

pub within_itself : (xs : List ℕ) → Within xs xs
within_itself [] = refl
within_itself (x ∷ xs) = inr (xs, refl, within_itself xs)

pub none_within : (xs : List ℕ) → Within [] xs
none_within [] = refl
none_within (x ∷ xs) = inl (none_within xs)

pub within_both : (xs us ys vs : List ℕ) → Within xs us → Within ys vs → Within (xs ++ ys) (us ++ vs)
within_both xs [] ys vs one two = rw one two
within_both xs (u ∷ us) ys vs (inl w) two = inl (within_both xs us ys vs w two)
within_both xs (u ∷ us) ys vs (inr w) two = rw w.1 (inr (w.0 ++ ys, refl, within_both w.0 us ys vs w.2 two))

pub all_within : (P : ℕ → Type 0) (xs ys : List ℕ) → Within xs ys → AllByRecursion P ys → AllByRecursion P xs
all_within P xs [] same all = rw same tt
all_within P xs (y ∷ ys) (inl w) all = all_within P xs ys w all.1
all_within P xs (y ∷ ys) (inr w) all = rw w.1 (all.0, all_within P w.0 ys w.2 all.1)

pub distinct_within : (xs ys : List ℕ) → Within xs ys → IsDistinct nat_eq ys → IsDistinct nat_eq xs
unfolding IsDistinct
distinct_within xs [] same d = rw same tt
distinct_within xs (y ∷ ys) (inl w) d = distinct_within xs ys w d.1
distinct_within xs (y ∷ ys) (inr w) d = rw w.1 (all_within (λ z. nat_eq y z ≡ false) w.0 ys w.2 d.0, distinct_within w.0 ys w.2 d.1)

-- ---- ids that are not among others

abbrev pub Apart : ℕ → List ℕ → Type 0
Apart k ids = AllByRecursion (λ id. k ≢ id) ids

pub never_below : (k first : ℕ) (ids : List ℕ) (next : ℕ) → k < first → RiseByTwo first ids next → Apart k ids
never_below k first [] next less rises = tt
never_below k first (id ∷ ids) next less rises =
    (let apart : k ≢ id = omega (arith, less, rises.0) in apart, never_below k (first + 2) ids next (omega (arith, less)) rises.2)

pub never_above : (k first : ℕ) (ids : List ℕ) (next : ℕ) → next ≤ k → RiseByTwo first ids next → Apart k ids
never_above k first [] next le rises = tt
never_above k first (id ∷ ids) next le rises =
    let up = rise_up (first + 2) ids next rises.2 in
    (let apart : k ≢ id = omega (arith, le, up, rises.0) in apart, never_above k (first + 2) ids next le rises.2)

-- an id that isn't odd isn't among ids that rise from an odd one
pub never_even : (k first : ℕ) (ids : List ℕ) (next : ℕ) → k % 2 ≢ 1 → first % 2 ≡ 1 → RiseByTwo first ids next → Apart k ids
never_even k first [] next even odd rises = tt
never_even k first (id ∷ ids) next even odd rises =
    (λ same. even (subst (λ j. j % 2 ≡ 1) (sym (same ∙ rises.0)) odd), never_even k (first + 2) ids next even (omega (arith, odd)) rises.2)

-- ---- no two are equal

pub differ : (k : ℕ) (ids : List ℕ) → Apart k ids → AllByRecursion (λ id. nat_eq k id ≡ false) ids
differ k [] apart = tt
differ k (id ∷ ids) apart = (search (arith, apart.0), differ k ids apart.1)

pub rise_apart : (first : ℕ) (ids : List ℕ) (next : ℕ) → RiseByTwo first ids next → IsDistinct nat_eq ids
unfolding IsDistinct
rise_apart first [] next rises = tt
rise_apart first (id ∷ ids) next rises =
    (differ id ids (never_below id (first + 2) ids next (omega (arith, rises.0)) rises.2), rise_apart (first + 2) ids next rises.2)

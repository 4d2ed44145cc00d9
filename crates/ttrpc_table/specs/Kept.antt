-- How a table keeps its entries: the older ones in a map, and after them a row of keys and one of their values.
-- Source: this project's.
use Rattle.std.specs.Prelude.{◌≡◌, ℕ, ◌+◌, ◌^◌, ◌<◌, ◌≤◌, List, [], ◌∷◌, ◌++◌, length, slice_index, MatchResult, Result}
use Rattle.std.specs.List.{zip}
use Rattle.std.specs.List.Sorted.{IsStrictlySortedBy}
use Rattle.std.specs.Ordering.{nat_cmp}

-- the entries in order: the older ones, and after them those of the row
abbrev pub entries_of : {V : Type 0} → List (ℕ × V) → List ℕ → List V → List (ℕ × V)
entries_of older keys values = older ++ zip keys values

-- The older keys and those of the row rise, the row has a value for each key, and the entries are fewer than 2^63.
pub record IsKept (older keys : List ℕ) (values : ℕ) : Type 0 where
  pub rise : IsStrictlySortedBy nat_cmp (older ++ keys)
  pub even : length keys ≡ values
  pub few : length older + length keys < 2 ^ 63

-- the place of a key, or else how many keys are below it, with the others above
abbrev pub IsPlace : List ℕ → ℕ → Result ℕ ℕ → Type 0
IsPlace keys k r = MatchResult r
    (λ i. (i < length keys) × (slice_index keys i ≡ k))
    (λ i. (i ≤ length keys) × ((j : ℕ) → j < i → slice_index keys j < k) × ((j : ℕ) → i ≤ j → j < length keys → k < slice_index keys j))

-- the first entry of the row is now the last of the older ones
pub record Ages {V : Type 0} (older : List (ℕ × V)) (keys : List ℕ) (values : List V) (older' : List (ℕ × V)) (keys' : List ℕ) (values' : List V) : Type 0 where
  pub key : ℕ
  pub value : V
  pub keys_were : keys ≡ key ∷ keys'
  pub values_were : values ≡ value ∷ values'
  pub are : older' ≡ older ++ (key, value) ∷ []

-- Moments and keys that tasks wait for.
-- Source: this project's.
use Rattle.std.specs.Prelude.{◌≡◌, ℕ, min, List, ◌∷◌, Option, Some, None}

-- the sooner of two moments, or the only one
abbrev pub sooner : Option ℕ → Option ℕ → Option ℕ
sooner None second = second
sooner (Some first) None = Some first
sooner (Some first) (Some second) = Some (min first second)

-- the key is the first of the list
abbrev pub IsFirst : {K : Type 0} → List K → K → Type 0
IsFirst {K} keys key = (rest : List K) × (keys ≡ key ∷ rest)

-- The written form of a value that is too long to be written.
-- Source: this project's.
use Rattle.std.specs.Prelude.{ℕ, List, replicate}

-- `n` zeros
abbrev pub zeros : ℕ → List ℕ
zeros n = replicate n 0

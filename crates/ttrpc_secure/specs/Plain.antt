-- The calls of plain halves.
-- Source: this project's.
use Rattle.std.specs.Prelude.{◌≡◌}
use Rattle.ttrpc_secure.specs.Halves.{Moves}

-- Holds if the half returns the data unchanged, and doesn't change.
abbrev pub Keeps : {S : Type 0} → Moves S
Keeps s given aad gives t = (gives ≡ given) × (t ≡ s)

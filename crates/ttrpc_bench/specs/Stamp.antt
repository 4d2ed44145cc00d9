-- The behaviour of halves with stamps. Each half is its next stamp.
-- Source: this project's.
use Rattle.std.specs.Prelude.{◌≡◌, ◌≢◌, ◌+◌, ◌%◌, ℕ, List, [], ◌∷◌, ◌++◌, codes}
use Rattle.ttrpc_secure.specs.Halves.{Moves, Refusals}

-- Sealing appends the stamp, and the next stamp is one more, modulo 256.
abbrev pub AppendsStamp : Moves ℕ
AppendsStamp stamp plain aad sealed next = (sealed ≡ plain ++ stamp ∷ []) × (next ≡ (stamp + 1) % 256)

-- Opening reverses sealing.
abbrev pub TakesStampOff : Moves ℕ
TakesStampOff stamp sealed aad plain next = AppendsStamp stamp plain aad sealed next

-- The data does not end in the stamp, and this reason is given.
abbrev pub HasWrongStamp : Refusals ℕ
HasWrongStamp stamp sealed aad why = ((plain : List ℕ) → sealed ≢ plain ++ stamp ∷ []) × (why ≡ codes "bad stamp")

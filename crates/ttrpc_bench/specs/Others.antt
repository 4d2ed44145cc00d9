-- The behaviour of the halves that tests use in place of any others.
-- Source: this project's.
use Rattle.std.specs.Prelude.{◌≡◌, codes, length}
use Rattle.ttrpc_secure.specs.Halves.{Moves, Refusals}

-- Any payload opens to one byte more than a message may have, and the half stays as it is.
abbrev pub Swells : {S : Type 0} → Moves S
Swells s given aad gives t = (length gives ≡ 4194305) × (t ≡ s)

-- Nothing is sealed.
abbrev pub SealsNothing : {S : Type 0} → Moves S
SealsNothing s given aad gives t = ⊥

-- Any payload is refused, for this reason.
abbrev pub RefusesAll : {S : Type 0} → Refusals S
RefusesAll s given aad why = why ≡ codes "sealed up"

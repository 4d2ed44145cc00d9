-- The contracts of the halves that mask. Their bytes are tested, not specified.
-- Source: this project's.
use Rattle.std.specs.Prelude.{◌≡◌, ◌+◌, ◌≤◌, ℕ, Bool, true, false, length}
use Rattle.ttrpc_secure.specs.Halves.{Moves, Refusals}

-- The number of bytes that a packet is longer at most, for a half that binds or doesn't: its head, and a byte that
-- makes the length even.
abbrev pub overhead_of : Bool → ℕ
overhead_of true = 9
overhead_of false = 7

-- A packet is at most `overhead` bytes longer than the data, and the half stays as it is.
abbrev pub Lengthens : ℕ → {S : Type 0} → Moves S
Lengthens overhead s plain aad sealed t = (length sealed ≤ length plain + overhead) × (t ≡ s)

-- The half that opens stays as it is.
abbrev pub Stays : {S : Type 0} → Moves S
Stays s sealed aad plain t = t ≡ s

-- Any bytes may be refused, for any reason.
abbrev pub RefusesAnything : {S : Type 0} → Refusals S
RefusesAnything s given aad why = Unit {0}

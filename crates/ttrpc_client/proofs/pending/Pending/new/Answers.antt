use Rattle.std.proofs.Common.{◌≡◌, ℕ, List, Option, length, refl, subst, sym}
use Rattle.ttrpc_client.specs.pending.Places.{ArePlaces, entries_in}
use Rattle.ttrpc_client.proofs.Places.{no_places}
use Rattle.ttrpc_client.proofs.pending.Pending.new.Goals as goal

pub invariant_of-result : goal.invariant_of-result
invariant_of-result g c = subst (λ (ps : List (ℕ × Option g.row.T.Denot)). ArePlaces ps × (0 ≡ length (entries_in ps))) (sym c.new.ensures.items) (no_places, refl)

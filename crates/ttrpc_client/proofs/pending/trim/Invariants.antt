use Rattle.std.proofs.Common.{length}
use Rattle.ttrpc_client.proofs.Places.{AreFewer}
use Rattle.ttrpc_client.proofs.pending.trim.Given as goal

abbrev pub invariant-loop-places : goal.invariant-loop-places
invariant-loop-places g l = AreFewer l.fn.places.items l.places.items

abbrev pub decreases-loop-places : goal.decreases-loop-places
decreases-loop-places g l = length l.places.items

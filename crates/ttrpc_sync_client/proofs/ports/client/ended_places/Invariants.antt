use Rattle.std.proofs.Common.{length}
use Rattle.ttrpc_sync_client.proofs.Telling.{ToldSoFar}
use Rattle.ttrpc_sync_client.proofs.ports.client.ended_places.Given as goal

abbrev pub invariant-loop-id : goal.invariant-loop-id
invariant-loop-id g l = ToldSoFar l.fn.core l.fn.reading l.core l.reading l.places

abbrev pub decreases-loop-id : goal.decreases-loop-id
decreases-loop-id g l = length l.core.state.ended

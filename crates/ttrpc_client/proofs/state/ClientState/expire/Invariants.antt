use Rattle.ttrpc_client.proofs.Words.{length, due_ids}
use Rattle.ttrpc_client.proofs.Ticking.{SoFar}
use Rattle.ttrpc_client.proofs.state.ClientState.expire.Given as goal

abbrev pub invariant-loop : goal.invariant-loop
invariant-loop l = SoFar l.fn.self l.now l.self

abbrev pub decreases-loop : goal.decreases-loop
decreases-loop l = length (due_ids l.now l.self.calls)

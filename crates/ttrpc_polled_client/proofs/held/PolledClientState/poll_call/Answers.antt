use Rattle.std.proofs.Common.{inl, inr, rules}
use Rattle.ttrpc_polled_client.proofs.held.PolledClientState.poll_call.Goals as goal
use Rattle.ttrpc_polled_client.proofs.held.PolledClientState.poll_call.Goals.{then-is_new+in_default+else-is_new-2, else-is_new}

pub returns-in-Some-id-clause-polls : goal.returns-in-Some-id-clause-polls
returns-in-Some-id-clause-polls g c = rw c.wait.ensures.pending (elim c.if-is_new.branch [
  | then-is_new+in_default+else-is_new-2 w ↦ inl (inr (inr (inr (search rules, (w.step.new.self, w.step.new.core, search rules, search rules, search rules)))))
  | else-is_new w ↦ inl (inl (search rules, search rules))
])

use Rattle.std.proofs.Common.{◌≡◌, length}
use Rattle.ttrpc_polled_client.proofs.held.PolledClientState.wake_heard.Given as goal

-- nothing of the core changes but of what it is still to tell
abbrev pub invariant-loop-id : goal.invariant-loop-id
invariant-loop-id g l = l.self.core ≡ record l.fn.self.core { state = record l.fn.self.core.state { heard = l.self.core.state.heard } }

abbrev pub decreases-loop-id : goal.decreases-loop-id
decreases-loop-id g l = length l.self.core.state.heard

use Rattle.futures.specs.Task.{Keeps}
use Rattle.ttrpc_test_served.proofs.tests.streams.StreamingCallFuture.poll.Given as goal

-- it is still a poll of the same task
abbrev pub invariant-loop : goal.invariant-loop
invariant-loop l = Keeps l.fn.cx l.cx

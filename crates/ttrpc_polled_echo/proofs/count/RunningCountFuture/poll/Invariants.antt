use Rattle.futures.specs.Task.{Keeps}
use Rattle.ttrpc_polled_echo.proofs.count.RunningCountFuture.poll.Given as goal

-- it is still a poll of the same task
abbrev pub invariant-loop : goal.invariant-loop
invariant-loop g l = Keeps l.fn.cx l.cx

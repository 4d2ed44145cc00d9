use Rattle.futures.specs.Task.{Keeps}
use Rattle.ttrpc_bench_polled.specs.Parts.{PartsCanPoll}
use Rattle.ttrpc_bench_polled.proofs.parts.PartsFuture.poll.Given as goal

-- each part may still be polled, and it is still a poll of the same task
abbrev pub invariant-loop : goal.invariant-loop
invariant-loop g l = PartsCanPoll g.D.Future.can_poll g.E.Future.can_poll l.self × Keeps l.fn.cx l.cx

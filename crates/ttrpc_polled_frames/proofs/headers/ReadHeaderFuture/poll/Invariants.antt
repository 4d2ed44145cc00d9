use Rattle.std.proofs.Common.{◌-◌}
use Rattle.futures.specs.Task.{Keeps}
use Rattle.ttrpc_polled_frames.specs.Heading.{FillsHeader}
use Rattle.ttrpc_polled_frames.proofs.headers.ReadHeaderFuture.poll.Given as goal

abbrev pub invariant-loop-self : goal.invariant-loop-self
invariant-loop-self g l = FillsHeader g.S.AsyncRead.reads l.fn.self l.self × Keeps l.fn.cx l.cx

abbrev pub decreases-loop-self : goal.decreases-loop-self
decreases-loop-self g l = 10 - l.self.filled

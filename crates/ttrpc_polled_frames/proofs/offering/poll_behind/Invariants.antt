use Rattle.std.proofs.Common.{drop}
use Rattle.futures.specs.Task.{Keeps}
use Rattle.tokio.specs.Io.Moved.{TakesWritten}
use Rattle.ttrpc_polled_frames.proofs.offering.poll_behind.Given as goal

-- the writer took what is no longer left
abbrev pub invariant-loop : goal.invariant-loop
invariant-loop g l = TakesWritten g.W.AsyncWrite.writes l.fn.writer l.writer (drop l.fn.at l.fn.bytes) (drop l.at l.fn.bytes) × Keeps l.fn.cx l.cx

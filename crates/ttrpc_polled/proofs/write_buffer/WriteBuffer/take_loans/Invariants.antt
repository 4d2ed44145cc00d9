use Rattle.std.proofs.Common.{◌≡◌, ◌≤◌, length}
use Rattle.ttrpc_polled.proofs.Gathering.{Gathered}
use Rattle.ttrpc_polled.proofs.write_buffer.WriteBuffer.take_loans.Given as goal

-- some loans were taken so far, each of at least a byte
abbrev pub invariant-loop : goal.invariant-loop
invariant-loop g l = (l.self.writer ≡ l.fn.self.writer) × Gathered g.H.PolledState.lends l.fn.held l.fn.self.kept l.held l.self.kept × (l.counter ≤ length l.self.kept)

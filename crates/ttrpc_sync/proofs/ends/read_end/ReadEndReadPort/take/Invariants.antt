use Rattle.std.proofs.Common.{◌≡◌}
use Rattle.ttrpc_sync.proofs.ends.read_end.ReadEndReadPort.take.Given as goal

-- nothing is changed before the piece is taken or refused
abbrev pub invariant-loop : goal.invariant-loop
invariant-loop g l = l.self.state ≡ l.fn.self.state

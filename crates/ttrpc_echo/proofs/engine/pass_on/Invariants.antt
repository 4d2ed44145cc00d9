use Rattle.std.proofs.Common.{◌≡◌, [], length}
use Rattle.ttrpc_proto.specs.Framing.Queue.{unsent}
use Rattle.ttrpc_echo.specs.Serving.{IsReady}
use Rattle.ttrpc_echo.proofs.Passing.{PassedSoFar}
use Rattle.ttrpc_echo.proofs.engine.pass_on.Given as goal

abbrev pub invariant-loop-rest : goal.invariant-loop-rest
invariant-loop-rest g l = record {
  ready : IsReady l.core;
  empty : unsent l.core.connection.outbox.queue ≡ [];
  so_far : PassedSoFar l.fn.core (g.W.Write.contents l.fn.writer) l.piece l.rest l.core (g.W.Write.contents l.writer);
}

abbrev pub decreases-loop-rest : goal.decreases-loop-rest
decreases-loop-rest g l = length l.rest

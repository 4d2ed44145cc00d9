use Rattle.std.proofs.Common.{◌≡◌, ◌⊎◌, ◌<◌, length}
use Rattle.ttrpc_echo.specs.Serving.{IsReady}
use Rattle.ttrpc_echo.proofs.Echoing.{ServedSoFar}
use Rattle.ttrpc_echo.proofs.engine.serve.Given as goal

abbrev pub invariant-loop-rest : goal.invariant-loop-rest
invariant-loop-rest l = record {
  ready : IsReady l.core;
  so_far : ServedSoFar l.fn.core l.piece l.rest l.core;
  begun : (l.core ≡ l.fn.core) ⊎ (length l.rest < length l.piece);
}

abbrev pub decreases-loop-rest : goal.decreases-loop-rest
decreases-loop-rest l = length l.rest

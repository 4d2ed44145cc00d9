use Rattle.ttrpc_echo.specs.Serving.{IsReady, WritesOut}
use Rattle.ttrpc_echo.proofs.engine.write_out.Given as goal

abbrev pub invariant-loop : goal.invariant-loop
invariant-loop g l = record {
  ready : IsReady l.core;
  out : WritesOut l.fn.core (g.W.Write.contents l.fn.writer) l.core (g.W.Write.contents l.writer);
}

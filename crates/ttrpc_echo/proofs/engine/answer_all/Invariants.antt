use Rattle.ttrpc_echo.proofs.Answering.{SoFar}
use Rattle.ttrpc_echo.proofs.engine.answer_all.Given as goal

abbrev pub invariant-loop : goal.invariant-loop
invariant-loop g l = SoFar (g.R.Read.remaining l.fn.reader) (g.R.Read.remaining l.reader) (g.W.Write.contents l.fn.writer) (g.W.Write.contents l.writer) l.core

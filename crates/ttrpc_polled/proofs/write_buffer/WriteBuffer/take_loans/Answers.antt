use Rattle.std.proofs.Common.{ap, arith, length, refl}
use Rattle.ttrpc_polled.proofs.Gathering.{gathers_none, gathers_more}
use Rattle.ttrpc_polled.proofs.write_buffer.WriteBuffer.take_loans.Goals as goal

pub loop-init : goal.loop-init
loop-init g c = (refl, gathers_none _ _ _, omega (arith))

pub loop-preserved : goal.loop-preserved
loop-preserved g c = (
  c.loop.invariant.0,
  gathers_more _ _ _ _ _ _ _ _ c.loop.invariant.1 c.take_loan.ensures.loan,
  omega (arith, c.loop.invariant.2, c.take_loan.ensures.count, c.if-take_loan-eq0.false),
)

pub returns-then-take_loan-eq0-clause-gathers : goal.returns-then-take_loan-eq0-clause-gathers
returns-then-take_loan-eq0-clause-gathers g c = gathers_more _ _ _ _ _ _ _ _ c.loop.invariant.1 c.take_loan.ensures.loan

pub returns-clause-none : goal.returns-clause-none
returns-clause-none g c none = absurd (omega (arith, c.loop.invariant.2, c.loop-test.false, ap length none))

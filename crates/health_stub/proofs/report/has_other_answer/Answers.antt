use Rattle.std.proofs.Common.{below_more, subst}
use Rattle.health_stub.specs.Report.{AnswersWith}
use Rattle.health_stub.proofs.Members.{at_item}
use Rattle.health_stub.proofs.report.has_other_answer.Goals as goal

pub loop-entry-preserved : goal.loop-entry-preserved
loop-entry-preserved c =
    below_more _ _ c.loop-entry.invariant
    (λ d response answers. (rw c.if-branch.false at c.in_ok-is_other.ensures.no) response
    (subst (AnswersWith c.args.job.now.id response) (at_item c.args.trace.now c.loop-entry.entry-index c.entry-item.result d c.loop-entry-test.true c.entry-item.is) answers))

use Rattle.std.proofs.Common.{ap, ◌∙◌, Ok, refl, rules}
use Rattle.futures.specs.declared.task.Poll.TheVariants.{Ready}
use Rattle.ttrpc_polled_frames.proofs.Parts.{writes_none_of, writes_part}
use Rattle.ttrpc_polled_frames.proofs.offering.poll_behind.Goals as goal

pub returns-in-Pending-clause-writes : goal.returns-in-Pending-clause-writes
returns-in-Pending-clause-writes g c =
    writes_none_of _ g.met.W.AsyncWrite.writes_in_order _ _ _ _ _ c.loop.invariant.0 c.in-Pending.ensures.bytes

pub returns-in-Ready-Ok-eq0-clause-writes : goal.returns-in-Ready-Ok-eq0-clause-writes
returns-in-Ready-Ok-eq0-clause-writes g c =
    writes_none_of _ g.met.W.AsyncWrite.writes_in_order _ _ _ _ _ c.loop.invariant.0 (search rules)

pub returns-in-Ready-Err-clause-writes : goal.returns-in-Ready-Err-clause-writes
returns-in-Ready-Err-clause-writes g c =
    writes_none_of _ g.met.W.AsyncWrite.writes_in_order _ _ _ _ _ c.loop.invariant.0 (search rules)

pub returns-in-Ready-Err-2-clause-writes : goal.returns-in-Ready-Err-2-clause-writes
returns-in-Ready-Err-2-clause-writes g c =
    writes_none_of _ g.met.W.AsyncWrite.writes_in_order _ _ _ _ _ c.loop.invariant.0 (search rules)

pub loop-preserved : goal.loop-preserved
loop-preserved g c =
    let some = c.in-Ready-Ok.is ∙ ap Ready (c.in-Ready-Ok.field-0-is ∙ ap Ok c.in-Ready-Ok.taken-is) in
    (writes_part _ g.met.W.AsyncWrite.writes_in_order _ _ _ _ _ _ _ _ _ _ some c.loop.invariant.0 c.poll_write.ensures.bytes c.poll_write.ensures.bound c.behind-part.ensures (search rules) refl, search rules)

use Rattle.std.proofs.Common.{rules}
use Rattle.ttrpc_polled_frames.proofs.Pieces.{continues_more, takes_later}
use Rattle.ttrpc_polled_frames.proofs.taking.Taking.poll_take.Goals as goal

pub returns-in-Pending-clause-goes_on : goal.returns-in-Pending-clause-goes_on
returns-in-Pending-clause-goes_on g c =
    continues_more _ g.met.S.AsyncRead.reads_in_order _ _ _ _ _ _ c.loop.invariant.0 c.in-Pending.ensures.goes_on

pub returns-in-Ready-Some-clause-took : goal.returns-in-Ready-Some-clause-took
returns-in-Ready-Some-clause-took g c =
    takes_later _ g.met.S.AsyncRead.reads_in_order _ _ _ _ _ _ _ _ c.loop.invariant.0 (search rules)

pub loop-preserved : goal.loop-preserved
loop-preserved g c =
    (continues_more _ g.met.S.AsyncRead.reads_in_order _ _ _ _ _ _ c.loop.invariant.0 (search rules), search rules)

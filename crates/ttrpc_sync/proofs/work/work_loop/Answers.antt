use Rattle.ttrpc_sync.proofs.Counting.{one_more_still}
use Rattle.ttrpc_sync.proofs.Working.{worked_more}
use Rattle.ttrpc_sync.proofs.work.work_loop.Goals as goal

pub loop-preserved : goal.loop-preserved
loop-preserved g c =
    let so = c.loop.invariant in
    let job = c.in-Some-job.ensures in
    let first = g.P.JobPort.begun c.args.port.now in
    let counted = one_more_still first (g.P.JobPort.begun c.loop.port) (g.P.JobPort.begun c.take-job.new.self) so.begun job.begun in
    record {
      next = tt;
      finite = tt;
      state = c.done.ensures.state;
      current = c.done.ensures.current;
      begun = one_more_still first (g.P.JobPort.begun c.take-job.new.self) (g.P.JobPort.begun c.done.new.self) counted c.done.ensures.begun;
      worked = worked_more _ _ _ _ _ _ _ _ _ _ _ _ _ _ _ _ so.worked c.if-not-enter.ensures.passages job.taken job.reported c.leave.ensures.passages c.handle_outside-outcome.ensures c.done.ensures.taken c.done.ensures.reported;
    }

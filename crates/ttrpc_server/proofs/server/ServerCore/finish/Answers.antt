use Rattle.ttrpc_server.proofs.Sending.{finishes_at}
use Rattle.ttrpc_server.proofs.server.ServerCore.finish.Goals as goal

pub returns-clause-finished : goal.returns-clause-finished
returns-clause-finished g c =
    let active = c.in_ok-active.ensures.ok in
    let w = active.1 in
    finishes_at c.args.self.now c.args.id w.0 c.end.new.self active.0 (c.end.ensures.ended w.0 w.1) w.2 c.end.ensures.same

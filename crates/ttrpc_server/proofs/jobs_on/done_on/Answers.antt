use Rattle.ttrpc_server.proofs.Words.{rules, ◌≡◌, subst, Error}
use Rattle.std.proofs.Common.{IfErr, Err}
use Rattle.ttrpc_server.specs.Protocol.{RefusesAnswer}
use Rattle.ttrpc_server.proofs.jobs_on.done_on.Goals as goal

pub returns-in-Err-clause-unsent : goal.returns-in-Err-clause-unsent
returns-in-Err-clause-unsent g c = λ e is.
    let same : c.in-Err.error ≡ e = search rules in
    subst (λ (x : Error). IfErr c.answer.result (RefusesAnswer g.O.OutboundTransform c.args.core.now c.args.id (Err x))) same c.answer.ensures.refused

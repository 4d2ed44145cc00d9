use Rattle.ttrpc_server.proofs.Words.{◌≡◌, sym, subst, IsTaken, rules}
use Rattle.std.specs.Prelude.{Err}
use Rattle.ttrpc_server.proofs.Sending.{answers_at, unsent_answer}
use Rattle.ttrpc_server.proofs.server.ServerCore.answer_with.Goals as goal

pub returns-clause-answered : goal.returns-clause-answered
returns-clause-answered g c =
    let w = c.requires in
    let queued = c.in_ok-queue.ensures.queued in
    let taken = subst (λ x. IsTaken x.state.jobs.list c.args.id w.0) (sym queued.same) w.1 in
    answers_at g.O.OutboundTransform c.args.self.now c.args.id c.args.stream_id w.0 c.args.response.now c.queue.new.self c.end.new.self queued w.3 (c.end.ensures.ended w.0 taken) w.2 c.end.ensures.same

pub returns-in_err-queue-clause-refused : goal.returns-in_err-queue-clause-refused
returns-in_err-queue-clause-refused g c =
    let w = c.requires in
    let told = c.in_err-queue.field-0.0 in
    let e : c.from_residual.result ≡ Err told = search rules in
    rw e (unsent_answer g.O.OutboundTransform c.args.self.now c.args.id c.args.stream_id w.0 c.args.response.now told w.1 (λ async. w.2) w.3 c.in_err-queue.ensures.refused)

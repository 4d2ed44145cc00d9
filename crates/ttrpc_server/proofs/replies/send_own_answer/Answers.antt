use Rattle.ttrpc_server.proofs.Sending.{refers_none}
use Rattle.ttrpc_server.proofs.replies.send_own_answer.Goals as goal

pub returns-in-Err-Unsealed-clause-ok : goal.returns-in-Err-Unsealed-clause-ok
returns-in-Err-Unsealed-clause-ok g c =
    refers_none c.args.rules g.O.OutboundTransform c.args.outbox.now c.args.stream_id c.args.response.now c.in-Err-Unsealed.field-0 _ c.requires c.in-Err-Unsealed.ensures.err.0 c.in-Err-Unsealed.ensures.err.1 (λ e. cc)

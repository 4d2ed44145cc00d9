use Rattle.ttrpc_server.proofs.Words.{Async, Response, SendsOwnAnswer, SendsSome, subst}
use Rattle.ttrpc_server.proofs.Sending.{has_room_for_timeout}
use Rattle.ttrpc_server.proofs.expiry.answer_timeout.Goals as goal

pub send_own_answer-requires : goal.send_own_answer-requires
send_own_answer-requires g c = rw c.in-Ok.ensures (has_room_for_timeout g.O.OutboundTransform c.args.outbox.now c.requires)

pub returns-in-Ok-send_own_answer-clause-ok : goal.returns-in-Ok-send_own_answer-clause-ok
returns-in-Ok-send_own_answer-clause-ok g c =
    let out = g.O.OutboundTransform in
    let from = c.args.outbox.now in
    let to = c.send_own_answer.new.outbox in
    subst (λ (r : Response). SendsSome out from (SendsOwnAnswer Async out from.half c.args.stream_id r) to) c.in-Ok.ensures c.in-Ok-send_own_answer.ensures.ok

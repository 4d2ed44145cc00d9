use Rattle.ttrpc_server.proofs.Words.{rules, ◌≡◌, None, refl, on_ok_weaker, INVALID_ARGUMENT, SendCode, request_row}
use Rattle.ttrpc_wire.specs.Fold.{read_from}
use Rattle.ttrpc_proto.specs.Messages.{empty_request, request_step}
use Rattle.ttrpc_server.proofs.Sending.{has_room_for_all, tells_of}
use Rattle.ttrpc_server.proofs.state.ServerState.ask.Goals as goal

pub send_own_answer-requires : goal.send_own_answer-requires
send_own_answer-requires g c = has_room_for_all c.self.inside.rules g.O.OutboundTransform c.args.outbox.now c.in_ok-response-in-Err.response (g.met.O.OutboundTransform.lawful.small c.args.outbox.now.half) c.requires.room

pub returns-in_ok-response-in-Err-clause-does : goal.returns-in_ok-response-in-Err-clause-does
returns-in_ok-response-in-Err-clause-does g c =
    let unread : read_from request_step empty_request c.args.plain ≡ None = search rules in
    let row : request_row c.self.inside.rules c.self.inside.registry (read_from request_step empty_request c.args.plain) ≡ SendCode INVALID_ARGUMENT = rw unread refl in
    rw (← c.self.view_is) (on_ok_weaker c.send_own_answer.result (λ x. tells_of g.O.OutboundTransform _ _ c.args.header c.args.now INVALID_ARGUMENT c.in_ok-response-in-Err.response c.args.outbox.now c.send_own_answer.new.outbox row c.in_ok-response-in-Err.ensures x) c.send_own_answer.ensures.ok)

use Rattle.ttrpc_server.proofs.Sending.{has_room_for_all}
use Rattle.ttrpc_server.proofs.replies.send_answer.Goals as goal

pub send_own_answer-requires : goal.send_own_answer-requires
send_own_answer-requires g c = has_room_for_all c.args.rules g.O.OutboundTransform c.args.outbox.now c.in-Some.response (g.met.O.OutboundTransform.lawful.small c.args.outbox.now.half) c.requires

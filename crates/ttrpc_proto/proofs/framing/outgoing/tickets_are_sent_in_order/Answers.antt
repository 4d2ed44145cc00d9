use Rattle.ttrpc_proto.proofs.Tickets.{queued_are_behind, sent_is_finished}
use Rattle.ttrpc_proto.proofs.framing.outgoing.tickets_are_sent_in_order.Goals as goal

pub returns : goal.returns
returns c = record { queued = λ q given t h. queued_are_behind q.frames q.sent given t h; finished = λ q hs. sent_is_finished hs q }

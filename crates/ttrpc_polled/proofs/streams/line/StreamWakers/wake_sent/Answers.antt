use Rattle.ttrpc_polled.proofs.StreamsWaiting.{first_is_woken}
use Rattle.ttrpc_polled.proofs.streams.line.StreamWakers.wake_sent.Goals as goal

pub loop-ticket-preserved : goal.loop-ticket-preserved
loop-ticket-preserved g c = record {
  woken = first_is_woken c.args.self.now.senders c.loop-ticket.self-inside.senders c.wake.new.self c.in-Some.ticket c.loop-ticket.invariant.woken (c.in-Some.ensures.some) c.wake.ensures;
  receivers = c.loop-ticket.invariant.receivers;
}

use Rattle.ttrpc_client.proofs.Words.{◌∙◌, ℕ, ap, called, calling, run_goes, ◌&&◌}
use Rattle.std.specs.Prelude.{nat_le, nat_lt}
use Rattle.ttrpc_connection.specs.Outbox.{is_sent}
use Rattle.ttrpc_proto.proofs.Departures.{thrown_are_requests}
use Rattle.ttrpc_proto.proofs.Tickets.{sent_is_finished}
use Rattle.ttrpc_proto.specs.Framing.Queue.{Queue}
use Rattle.ttrpc_client.proofs.Calls.{called_is_lawful}
use Rattle.ttrpc_client.proofs.Entered.{sent_or_queued}
use Rattle.ttrpc_client.proofs.laws.a_ticket_is_sent_once_reported.Goals as goal

pub returns-clause-sent : goal.returns-clause-sent
returns-clause-sent g c = λ s t old new calls happenings ticket run.
    ap (λ (q : Queue). is_sent q ticket) (run_goes (calling g.O.OutboundTransform g.I.InboundTransform) (called g.O.OutboundTransform g.O.OutboundTransform.SEALS) (called_is_lawful g.O.OutboundTransform g.O.OutboundTransform.SEALS) calls s old happenings t new run).after
    ∙ ap (λ (n : ℕ). nat_lt 0 ticket && nat_le ticket n) (sent_is_finished happenings old.outbox.queue)

pub returns-clause-queued : goal.returns-clause-queued
returns-clause-queued g c = λ c ticket numbered given below. sent_or_queued c.outbox.queue c.outbox.tickets ticket numbered given below

pub returns-clause-kept : goal.returns-clause-kept
returns-clause-kept g c = λ s t old new calls happenings run. thrown_are_requests happenings old.outbox.queue

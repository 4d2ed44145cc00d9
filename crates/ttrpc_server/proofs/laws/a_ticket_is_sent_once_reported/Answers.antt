use Rattle.ttrpc_server.proofs.Words.{◌∙◌, ℕ, ap, run_goes, served, serving, ◌&&◌, Queue}
use Rattle.std.specs.Prelude.{nat_le, nat_lt}
use Rattle.ttrpc_connection.specs.Outbox.{is_sent}
use Rattle.ttrpc_proto.proofs.Tickets.{sent_is_finished}
use Rattle.ttrpc_server.proofs.Calls.{served_is_lawful}
use Rattle.ttrpc_server.proofs.laws.a_ticket_is_sent_once_reported.Goals as goal

pub returns : goal.returns
returns g c = λ s t old new calls happenings ticket run.
    ap (λ (q : Queue). is_sent q ticket) (run_goes (serving g.O.OutboundTransform g.I.InboundTransform) (served g.O.OutboundTransform) (served_is_lawful g.O.OutboundTransform) calls s old happenings t new run).after
    ∙ ap (λ (n : ℕ). nat_lt 0 ticket && nat_le ticket n) (sent_is_finished happenings old.outbox.queue)

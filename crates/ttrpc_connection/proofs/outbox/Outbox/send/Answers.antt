use Rattle.std.specs.Option.{unwrap_or}
use Rattle.ttrpc_proto.specs.Framing.Queue.{ticket_after, with_payload}
use Rattle.ttrpc_proto.proofs.Tickets.{numbered_append}
use Rattle.ttrpc_connection.proofs.Words.{◌≡◌, ℕ, Option, None, Some, refl}
use Rattle.ttrpc_connection.proofs.outbox.Outbox.send.Goals as goal

ticket_or : (ticket : Option ℕ) (last : ℕ) → unwrap_or ticket last ≡ ticket_after ticket last
ticket_or None last = refl
ticket_or (Some t) last = refl

pub invariant_of-self-2 : goal.invariant_of-self-2
invariant_of-self-2 g c =
    let sends = c.in_ok-send.ensures.ok in
    let more = numbered_append c.self.inside.queue.frames (with_payload c.args.frame sends.sealed) c.self.inside.queue.sent c.self.inside.tickets c.self.invariant (rw (← c.self.view_is) at c.requires) in
    rw (sends.queue, c.unwrap_or-self-inside.ensures, ticket_or c.args.frame.ticket c.self.inside.tickets) more

use Rattle.ttrpc_proto.proofs.Tickets.{numbered_without}
use Rattle.ttrpc_connection.proofs.outbox.Outbox.throw_away.Goals as goal

pub invariant_of-self : goal.invariant_of-self
invariant_of-self g c = rw c.throw_away.ensures.without (numbered_without c.self.inside.queue (g.W.Owners.has c.args.owners.now) c.self.inside.tickets c.self.invariant)

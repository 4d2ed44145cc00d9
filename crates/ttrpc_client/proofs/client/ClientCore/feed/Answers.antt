use Rattle.ttrpc_client.proofs.Taking.{always_open, takes_all}
use Rattle.ttrpc_client.proofs.client.ClientCore.feed.Goals as goal

pub returns-clause-whole : goal.returns-clause-whole
returns-clause-whole g c =
    let old = c.args.self.now in
    takes_all g.O.OutboundTransform g.I.InboundTransform _ _ _ _ _ _ _ (c.feed.ensures.takes (always_open g.O.OutboundTransform g.I.InboundTransform old.state old.connection.outbox))

pub returns-clause-takes : goal.returns-clause-takes
returns-clause-takes g c =
    let old = c.args.self.now in
    c.feed.ensures.takes (always_open g.O.OutboundTransform g.I.InboundTransform old.state old.connection.outbox)

use Rattle.ttrpc_client.proofs.Words.{rules}
use Rattle.ttrpc_client.proofs.Ticking.{nothing_due}
use Rattle.ttrpc_client.proofs.client.ClientCore.tick.Goals as goal

pub returns-in_default-clause-alive : goal.returns-in_default-clause-alive
returns-in_default-clause-alive g c = λ alive. nothing_due g.O.OutboundTransform.SEALS c.args.self.now c.args.now c.lemma_is_queue.ensures (c.in_default.ensures.none c.args.now (search rules))

pub returns-then-now-soonest-clause-alive : goal.returns-then-now-soonest-clause-alive
returns-then-now-soonest-clause-alive g c = λ alive. nothing_due g.O.OutboundTransform.SEALS c.args.self.now c.args.now c.lemma_is_queue.ensures (c.in-Some.ensures.some.earlier c.args.now (search (rules, c.if-now-soonest.true)))

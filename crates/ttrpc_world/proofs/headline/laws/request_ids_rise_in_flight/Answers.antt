use Rattle.ttrpc_pair.proofs.Words.{never_refused}
use Rattle.ttrpc_world.proofs.Asked.{requests_at_end}
use Rattle.ttrpc_world.proofs.headline.laws.request_ids_rise_in_flight.Goals as goal

pub returns-clause-rise : goal.returns-clause-rise
returns-clause-rise g c = λ old new trace fresh steps alive.
    requests_at_end _ _ _ (record { still = g.met.CO.OutboundTransform.lawful.still; fixed = g.met.SO.OutboundTransform.lawful.fixed }) old new trace fresh steps alive

pub returns-clause-none_refused : goal.returns-clause-none_refused
returns-clause-none_refused g c = λ server x xs next now m rise. never_refused server.rules x.frame.message.header x.plain server.jobs.newest _ m rise.0

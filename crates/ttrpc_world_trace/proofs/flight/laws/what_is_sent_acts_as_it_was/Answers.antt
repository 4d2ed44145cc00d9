use Rattle.ttrpc_world_trace.proofs.FlightWords.{ways}
use Rattle.ttrpc_world_trace.proofs.Acting.{act_as_sent, takes_wing}
use Rattle.ttrpc_world_trace.proofs.flight.laws.what_is_sent_acts_as_it_was.Goals as goal

pub returns-clause-sent : goal.returns-clause-sent
returns-clause-sent g c = λ sent old new flights in_ linked sends. takes_wing g.O.OutboundTransform g.I.InboundTransform.opens g.I.InboundTransform.refuses sent old new flights in_ linked sends

pub returns-clause-acts : goal.returns-clause-acts
returns-clause-acts g c = λ now front rest out old new linked acts.
    act_as_sent g.O.OutboundTransform.seals (ways g.A.OutboundTransform g.I.InboundTransform g.R.Reacts) now front rest out old new linked acts

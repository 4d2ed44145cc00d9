use Rattle.ttrpc_world_trace.proofs.Seals.{none_linked, more_linked, first_opened, thrown_linked}
use Rattle.ttrpc_world_trace.proofs.flight.laws.seals_open_as_they_were_made.Goals as goal

pub returns-clause-none : goal.returns-clause-none
returns-clause-none g c = λ s t paired. none_linked _ _ _ s t paired

pub returns-clause-more : goal.returns-clause-more
returns-clause-more g c = λ flights x out later in_ l sealed. more_linked _ _ _ flights out in_ x later l sealed

pub returns-clause-opened : goal.returns-clause-opened
returns-clause-opened g c = λ x flights out in_ later opening l opens.
    first_opened _ g.I.InboundTransform x flights out in_ opening later l opens

pub returns-clause-thrown : goal.returns-clause-thrown
returns-clause-thrown g c = λ transit queued out in_ owners n not l. thrown_linked _ (g.met.O.OutboundTransform.lawful.still not) _ _ transit queued out in_ owners n l

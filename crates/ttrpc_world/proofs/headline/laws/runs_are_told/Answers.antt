use Rattle.ttrpc_world.proofs.Telling.{told}
use Rattle.ttrpc_world.proofs.headline.laws.runs_are_told.Goals as goal

pub returns : goal.returns
returns g c = λ old new trace fresh steps. told _ _ _ (record { still = g.met.CO.OutboundTransform.lawful.still; fixed = g.met.SO.OutboundTransform.lawful.fixed }) old new trace fresh steps

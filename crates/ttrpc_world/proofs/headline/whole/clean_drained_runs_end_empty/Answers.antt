use Rattle.ttrpc_world.proofs.Ending.{empty_at_end}
use Rattle.ttrpc_world.proofs.headline.whole.clean_drained_runs_end_empty.Goals as goal

pub returns : goal.returns
returns g c = λ old new trace stream_of fresh steps clean drained.
    empty_at_end _ _ _ (record { still = g.met.CO.OutboundTransform.lawful.still; fixed = g.met.SO.OutboundTransform.lawful.fixed }) old new trace _ stream_of fresh steps clean drained

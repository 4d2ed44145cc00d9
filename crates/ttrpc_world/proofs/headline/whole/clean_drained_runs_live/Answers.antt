use Rattle.ttrpc_world.proofs.Living.{lives_at}
use Rattle.ttrpc_world.proofs.headline.whole.clean_drained_runs_live.Goals as goal

pub returns : goal.returns
returns g c = λ old mid new front back stream_of fresh one two clean drained. lives_at _ _ _ old mid new front back _ stream_of fresh one two clean drained

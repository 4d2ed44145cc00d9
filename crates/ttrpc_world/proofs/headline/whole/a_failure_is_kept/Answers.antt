use Rattle.ttrpc_world.proofs.Living.{lived}
use Rattle.ttrpc_world.proofs.headline.whole.a_failure_is_kept.Goals as goal

pub returns : goal.returns
returns g c = λ old new trace steps lives. lived _ _ _ old trace new steps lives

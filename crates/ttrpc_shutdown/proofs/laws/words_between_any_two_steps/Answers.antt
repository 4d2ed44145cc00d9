use Rattle.ttrpc_shutdown.proofs.Between.{between}
use Rattle.ttrpc_shutdown.proofs.laws.words_between_any_two_steps.Goals as goal

pub returns : goal.returns
returns c s kept = between s.words s.views kept

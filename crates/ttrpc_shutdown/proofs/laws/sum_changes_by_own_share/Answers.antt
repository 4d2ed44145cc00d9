use Rattle.ttrpc_shutdown.proofs.Keeps.{shares-set}
use Rattle.ttrpc_shutdown.proofs.laws.sum_changes_by_own_share.Goals as goal

pub returns : goal.returns
returns c s t me after f = rw f.state (shares-set s.views f.seat me.0 after.0 f.there)

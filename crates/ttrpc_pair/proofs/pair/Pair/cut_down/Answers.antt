use Rattle.ttrpc_pair.proofs.Words.{rules}
use Rattle.ttrpc_pair.proofs.pair.Pair.cut_down.Goals as goal

pub returns : goal.returns
returns g c = rw (← c.self.view_is) (record { connection = c.end_down.new.self.client.connection; hears = search rules; only = search rules })

use Rattle.ttrpc_pair.proofs.Words.{rules}
use Rattle.ttrpc_pair.proofs.pair.Pair.call.Goals as goal
use Rattle.ttrpc_pair.proofs.pair.Pair.call.Goals.{in-Ok, in-Err}

pub returns : goal.returns
returns g c = elim c.match-request.branch [
  | in-Ok w ↦ rw (← c.self.view_is, w.result-is) (search rules, search rules, search rules, search rules)
  | in-Err w ↦ rw (← c.self.view_is, w.result-is) (search rules, search rules)
]

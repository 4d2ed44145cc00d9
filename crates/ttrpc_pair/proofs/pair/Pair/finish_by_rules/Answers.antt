use Rattle.ttrpc_pair.proofs.Words.{refl, rules}
use Rattle.ttrpc_pair.proofs.Replies.{refuses_finish}
use Rattle.ttrpc_pair.proofs.pair.Pair.finish_by_rules.Goals as goal
use Rattle.ttrpc_pair.proofs.pair.Pair.finish_by_rules.Goals.{in-Ok, in-Err}

pub returns : goal.returns
returns g c =
    let old = c.self.inside.server in
    let taken = c.in-Some.ensures.some in
    let lives = rw (← c.self.view_is) at c.requires in
    rw (← c.self.view_is) (elim c.match-finish.branch [
      | in-Ok w ↦ rw w.result-is (w.in-Ok.ensures.finished, refl, lives.1)
      | in-Err w ↦ rw w.result-is (refuses_finish old c.args.id taken.0 w.in-Err.error lives.1 taken.1 w.in-Err.ensures.refused, search rules)
    ])

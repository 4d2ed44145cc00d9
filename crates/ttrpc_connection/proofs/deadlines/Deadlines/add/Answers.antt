use Rattle.ttrpc_connection.proofs.Words.{true}
use Rattle.ttrpc_connection.proofs.Soonest.{changes}
use Rattle.ttrpc_connection.proofs.deadlines.Deadlines.add.Goals as goal

pub returns-in_ok-insert-clause-ok : goal.returns-in_ok-insert-clause-ok
returns-in_ok-insert-clause-ok c =
    let u = c.in_ok-insert.ensures.updates in
    rw (← c.self.view_is) (changes true c.self.inside.pairs.keys c.insert.new.self.keys c.args.id c.in-Some.deadline c.args.deadline c.in-Some.is u.1 u.2)

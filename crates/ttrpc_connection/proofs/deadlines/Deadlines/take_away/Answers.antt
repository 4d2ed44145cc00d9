use Rattle.ttrpc_connection.proofs.Words.{false}
use Rattle.ttrpc_connection.proofs.Soonest.{changes}
use Rattle.ttrpc_connection.proofs.deadlines.Deadlines.take_away.Goals as goal

pub returns-in-Some : goal.returns-in-Some
returns-in-Some c =
    let u = c.remove.ensures.updates in
    rw (← c.self.view_is) (changes false c.self.inside.pairs.keys c.remove.new.self.keys c.args.id c.in-Some.deadline c.args.deadline c.in-Some.is u.1 u.2)

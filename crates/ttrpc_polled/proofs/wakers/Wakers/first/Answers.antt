use Rattle.ttrpc_polled.proofs.Waiting.{first_is}
use Rattle.ttrpc_polled.proofs.wakers.Wakers.first.Goals as goal

pub returns-clause-some : goal.returns-clause-some
returns-clause-some c = rw (← c.self.view_is, c.first.ensures) (first_is c.self.inside.slots).0

pub returns-clause-none : goal.returns-clause-none
returns-clause-none c = rw (← c.self.view_is, c.first.ensures) (first_is c.self.inside.slots).1

use Rattle.ttrpc_server.proofs.Keyed.{jobs_rise}
use Rattle.ttrpc_server.proofs.jobs.Jobs.next_id.Goals as goal

pub returns-clause-rise : goal.returns-clause-rise
returns-clause-rise c = rw (← c.self.view_is) (jobs_rise c.self.invariant)

use Rattle.ttrpc_server.proofs.Keyed.{jobs_rise}
use Rattle.ttrpc_server.proofs.jobs.Jobs.lemma_rise.Goals as goal

pub returns : goal.returns
returns c = rw (← c.self.view_is) (jobs_rise c.self.invariant)

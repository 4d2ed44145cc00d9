use Rattle.ttrpc_server.proofs.Keyed.{new_jobs}
use Rattle.ttrpc_server.proofs.jobs.Jobs.new.Goals as goal

pub invariant_of-result : goal.invariant_of-result
invariant_of-result c = rw (c.new.ensures, c.new-2.ensures) (new_jobs 0)

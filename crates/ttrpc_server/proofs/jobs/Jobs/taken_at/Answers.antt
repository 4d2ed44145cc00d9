use Rattle.ttrpc_server.proofs.Words.{rules, refl, Some, None}
use Rattle.ttrpc_server.proofs.Keyed.{taken_found, unknown_here}
use Rattle.ttrpc_server.proofs.jobs.Jobs.taken_at.Goals as goal

pub returns-in-Some-clause-some : goal.returns-in-Some-clause-some
returns-in-Some-clause-some c =
    let job = c.in-Some.job.now in
    rw (← c.self.view_is, c.is_stream.ensures) (job, taken_found c.self.invariant c.args.id job (search rules) (search rules), refl)

pub returns-in_default-clause-none : goal.returns-in_default-clause-none
returns-in_default-clause-none c =
    rw (← c.self.view_is) (unknown_here c.self.invariant c.args.id (Some c.in-Some.job.now) (search rules) (λ job is taken. search rules))

pub returns-in_default-2-clause-none : goal.returns-in_default-2-clause-none
returns-in_default-2-clause-none c =
    rw (← c.self.view_is) (unknown_here c.self.invariant c.args.id None (search rules) (λ job is taken. search rules))

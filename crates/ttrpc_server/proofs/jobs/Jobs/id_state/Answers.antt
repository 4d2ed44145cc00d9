use Rattle.ttrpc_server.proofs.Words.{rules, ◌≡◌, ◌∙◌, sym, refl, Some, None, values_of}
use Rattle.ttrpc_server.specs.State.{job_at}
use Rattle.ttrpc_server.proofs.Boxes.{here_is}
use Rattle.ttrpc_server.proofs.jobs.Jobs.id_state.Goals as goal

pub returns-in-Some : goal.returns-in-Some
returns-in-Some c =
    let is : job_at (values_of c.self.inside.jobs) c.args.id ≡ Some c.in-Some.job.now = sym (here_is c.self.invariant c.args.id) ∙ search rules in
    rw (← c.self.view_is, is, c.id_state.ensures) refl

pub returns-in-None : goal.returns-in-None
returns-in-None c =
    let is : job_at (values_of c.self.inside.jobs) c.args.id ≡ None = sym (here_is c.self.invariant c.args.id) ∙ search rules in
    rw (← c.self.view_is, is) refl

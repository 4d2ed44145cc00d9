use Rattle.ttrpc_server.proofs.Words.{rules, ◌≡◌, ◌∙◌, sym, ap, Some, None, same_Some, is_at, lookup, nat_cmp, ActiveJob, deadline_in}
use Rattle.ttrpc_server.proofs.Keyed.{job_found_at}
use Rattle.ttrpc_server.proofs.jobs.Jobs.place_of.Goals as goal

pub returns-in-Some : goal.returns-in-Some
returns-in-Some c = rw (← c.self.view_is) (λ job at.
    let here : lookup (is_at (nat_cmp c.args.id)) c.self.inside.jobs ≡ Some c.in-Some.job.now = search rules in
    let same : c.in-Some.job.now ≡ job = same_Some c.in-Some.job.now job (sym here ∙ job_found_at c.self.invariant c.args.id job at) in
    rw c.deadline.ensures (ap (λ (j : ActiveJob). Some (j.header.stream_id, deadline_in j.body)) same))

pub returns-in-None : goal.returns-in-None
returns-in-None c = rw (← c.self.view_is) (λ job at.
    let none : lookup (is_at (nat_cmp c.args.id)) c.self.inside.jobs ≡ None = search rules in
    let bad : None ≡ Some job = sym none ∙ job_found_at c.self.invariant c.args.id job at in cc)

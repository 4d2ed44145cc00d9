use Rattle.ttrpc_server.proofs.Words.{rules, ◌≡◌, ◌∙◌, ℕ, Bool, Option, sym, ap, subst, true, ActiveJob, IsTaken}
use Rattle.std.proofs.Common.{IfSome}
use Rattle.ttrpc_server.specs.State.{is_stream}
use Rattle.ttrpc_server.proofs.Kept.{no_unary}
use Rattle.ttrpc_server.proofs.state.ServerState.unary_at.Goals as goal

pub returns-in_default-clause-none : goal.returns-in_default-clause-none
returns-in_default-clause-none c =
    let jobs = c.self.inside.jobs.list in
    let found = subst (λ (r : Option (ℕ × Bool)). IfSome r (λ p. (job : ActiveJob) × IsTaken jobs c.args.id job × (p ≡ (job.header.stream_id, is_stream job.body)))) c.in_default.is c.taken_at.ensures.some in
    let stream : c.in_default.field-0.1 ≡ true = search rules in
    let kind : is_stream found.0.body ≡ true = sym (ap (λ (p : ℕ × Bool). p.1) found.2) ∙ stream in
    rw (← c.self.view_is) (no_unary c.self.inside.rules jobs c.self.inside.index c.args.id found.0 c.self.invariant.0 found.1 kind)

use Rattle.ttrpc_server.proofs.Words.{rules, ◌∙◌, ◌≡◌, sym, Some, jobs_at, first_id}
use Rattle.ttrpc_server.proofs.Kept.{id_state_absent, id_state_found}
use Rattle.ttrpc_server.proofs.state.ServerState.id_state.Goals as goal

pub returns-in_default : goal.returns-in_default
returns-in_default c = rw (← c.self.view_is) (λ async.
    id_state_absent (jobs_at c.self.inside.jobs.list c.args.stream_id) (sym (c.self.invariant.0.found async c.args.stream_id) ∙ sym c.job_of.ensures ∙ search rules))

pub returns : goal.returns
returns c = rw (← c.self.view_is) (λ async.
    let first : first_id (jobs_at c.self.inside.jobs.list c.args.stream_id) ≡ Some c.in-Some.id = sym (c.self.invariant.0.found async c.args.stream_id) ∙ search rules in
    rw (c.unwrap_or.ensures, c.id_state.ensures) (id_state_found 0 c.self.inside.jobs.last c.args.stream_id c.in-Some.id c.self.inside.jobs.list c.lemma_rise.ensures first))

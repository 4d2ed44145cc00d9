use Rattle.ttrpc_server.proofs.Words.{rules, ◌≡◌, ◌∙◌, sym, Some, first_id, jobs_at}
use Rattle.ttrpc_server.proofs.Bringing.{put_in_is}
use Rattle.ttrpc_server.proofs.state.ServerState.put.Goals as goal

pub returns-in-Ok-clause-ok : goal.returns-in-Ok-clause-ok
returns-in-Ok-clause-ok c =
    let s = c.self.inside in
    let h = c.args.header.now in
    let async = rw (← c.self.view_is) at c.requires.rules in
    let first : first_id (jobs_at s.jobs.list h.stream_id) ≡ Some c.in-Some.id = sym (c.self.invariant.0.found async h.stream_id) ∙ search rules in
    let brings = rw (← c.self.view_is) at c.in-Ok.ensures.ok in
    rw (← c.self.view_is) (put_in_is _ c.deliver.new.self c.in-Some.id h c.args.plain c.in_ok-thing.thing c.closes.result c.lemma_rise.ensures (c.self.invariant.0.single async h.stream_id) first c.in_ok-thing.ensures c.closes.ensures brings)

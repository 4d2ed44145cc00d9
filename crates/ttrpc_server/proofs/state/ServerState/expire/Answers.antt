use Rattle.ttrpc_server.proofs.Words.{rules, arith, ◌≡◌, ◌∙◌, [], ℕ, List, length, refl, sym, ap, subst, Async, JobList, Server, due_jobs}
use Rattle.std.specs.Prelude.{Err, IsPermutation}
use Rattle.std.specs.List.Sorted.{IsStrictlySortedBy}
use Rattle.ttrpc_connection.specs.Deadlines.{due_ids, sooner}
use Rattle.ttrpc_server.proofs.Due.{due_fit, due_listed}
use Rattle.ttrpc_server.proofs.Expiring.{all_expired, as_found, next_due, one_more, stops}
use Rattle.ttrpc_server.proofs.Kept.{one_fewer}
use Rattle.ttrpc_server.specs.contracts.state.ServerState.{the_view}
use Rattle.ttrpc_server.proofs.state.ServerState.expire.Goals as goal

same_view : (s : Server) (jobs : JobList) (expired : List ℕ) → jobs ≡ s.jobs → expired ≡ s.expired → record s { jobs = jobs; expired = expired } ≡ s
same_view s jobs expired p q = rw (p, q) refl

pub list_due-requires : goal.list_due-requires
list_due-requires g c =
    let s = c.self.inside in
    let async : s.rules ≡ Async = ap (λ (v : Server). v.rules) c.self.view_is ∙ c.requires in
    let ordered = subst (IsStrictlySortedBy sooner) c.deadlines-deadlines.ensures c.lemma_ordered.ensures in
    let fit = due_fit c.args.now s.jobs.last s.index.deadlines s.jobs.list c.lemma_rise.ensures ordered c.self.invariant.0.deadlines in
    let room = c.self.invariant.1 async in
    rw c.deadlines-deadlines.ensures (omega (arith, fit, room))

pub loop-place-init : goal.loop-place-init
loop-place-init g c =
    let s = c.self.inside in
    let async : s.rules ≡ Async = ap (λ (v : Server). v.rules) c.self.view_is ∙ c.requires in
    let ordered = subst (IsStrictlySortedBy sooner) c.deadlines-deadlines.ensures c.lemma_ordered.ensures in
    let are = subst (λ ds. IsPermutation (due_ids c.args.now ds) c.list_due.new.self.due) c.deadlines-deadlines.ensures c.list_due.ensures.are in
    let room = c.self.invariant.1 async in
    let wide = c.list_due.ensures.room in
    record {
      so_far = record {
        async = async;
        expired = [];
        due = sym (ap (λ (v : Server). due_jobs c.args.now v.jobs.list) c.self.view_is);
        expire = (same_view (the_view s) s.jobs c.list_due.new.self.expired refl c.list_due.ensures.expired ∙ c.self.view_is, refl);
        listed = due_listed c.args.now s.jobs.last s.index.deadlines s.jobs.list c.lemma_rise.ensures ordered c.self.invariant.0.deadlines c.list_due.new.self.due are c.list_due.ensures.rise;
        kept = c.self.invariant.0;
        rising = c.lemma_rise.ensures;
        room = omega (arith, room, wide);
      };
      listed = refl;
    }

pub due_at-id-requires : goal.due_at-id-requires
due_at-id-requires g c =
    let end = c.count_due-place-end.ensures in
    let test = c.loop-place-test.true in
    let same = ap (λ (l : List ℕ). length l) c.loop-place.invariant.listed in
    omega (arith, end, test, same)

pub expire_job-requires-clause-job : goal.expire_job-requires-clause-job
expire_job-requires-clause-job g c =
    let x = next_due g.O.OutboundTransform _ _ _ _ _ _ _ _ c.loop-place.invariant.so_far c.due_at-id.result c.due_at-id.ensures in
    (x.job, as_found x)

pub expire_job-requires-clause-room : goal.expire_job-requires-clause-room
expire_job-requires-clause-room g c =
    let p = c.loop-place.invariant.so_far in
    let x = next_due g.O.OutboundTransform _ _ _ _ _ _ _ _ p c.due_at-id.result c.due_at-id.ensures in
    let count = one_fewer _ _ x.job (as_found x) in
    let room = p.room in
    omega (arith, count, room)

pub returns-in_err-expire_job-clause-err : goal.returns-in_err-expire_job-clause-err
returns-in_err-expire_job-clause-err g c =
    let p = c.loop-place.invariant.so_far in
    let x = next_due g.O.OutboundTransform _ _ _ _ _ _ _ _ p c.due_at-id.result c.due_at-id.ensures in
    let err = c.in_err-expire_job.ensures.err in
    let e : c.from_residual.result ≡ Err c.in_err-expire_job.field-0.0 = search rules in
    rw e (stops g.O.OutboundTransform _ _ _ _ _ _ _ _ p c.due_at-id.result x c.expire_job.new.jobs c.expire_job.new.expiry.expired c.expire_job.new.outbox err.1 (ap (λ v. v.expired) err.3) err.4 _ err.0)

pub loop-place-preserved : goal.loop-place-preserved
loop-place-preserved g c =
    let p = c.loop-place.invariant.so_far in
    let x = next_due g.O.OutboundTransform _ _ _ _ _ _ _ _ p c.due_at-id.result c.due_at-id.ensures in
    let e = c.in_ok-expire_job.ensures.ok x.job (as_found x) in
    record {
      so_far = one_more g.O.OutboundTransform _ _ _ _ _ _ _ _ p refl c.due_at-id.result x _ _ _ _ e;
      listed = e.due ∙ c.loop-place.invariant.listed;
    }

pub returns-clause-ok : goal.returns-clause-ok
returns-clause-ok g c =
    let end = c.count_due-place-end.ensures in
    let test = c.loop-place-test.false in
    let same = ap (λ (l : List ℕ). length l) c.loop-place.invariant.listed in
    all_expired g.O.OutboundTransform _ _ _ _ _ _ _ _ c.loop-place.invariant.so_far (omega (arith, end, test, same))

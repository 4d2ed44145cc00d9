use Rattle.ttrpc_server.proofs.Words.{rules, arith, ◌≡◌, ◌∙◌, ◌+◌, ◌∷◌, ℕ, [], None, ap, subst, refl, Finds, deadline_in, first_id, job_found, new_job, with_job}
use Rattle.std.proofs.Common.{Result, Ok, Err, OnOk, false}
use Rattle.std.specs.Result.{is_err}
use Rattle.ttrpc_connection.proofs.Words.{length-append}
use Rattle.ttrpc_server.proofs.Kept.{kept_made, kept_same, taken_back}
use Rattle.ttrpc_server.proofs.state.ServerState.make_job.Goals as goal

when_ok : {T E P : Type 0} (r : Result T E) → is_err r ≡ false → OnOk r P → P
when_ok (Ok x) e h = h
when_ok (Err x) e h = cc

pub invariant_of-self-then-is_err-3 : goal.invariant_of-self-then-is_err-3
invariant_of-self-then-is_err-3 c =
    let s = c.self.inside in
    let k = c.args.header.stream_id in
    let free = rw (← c.self.view_is) at c.requires.none in
    let none : job_found s.index k ≡ None = c.self.invariant.0.found c.in-Async.is k ∙ ap first_id (free c.in-Async.is) in
    let finds = when_ok c.add.result (search rules) c.add.ensures.ok in
    let same : c.make-made.new.self ≡ s.jobs = search rules in
    let room = when_ok c.reserve.result (search rules) c.reserve.ensures.ok in
    let count = c.len.ensures.count in
    rw same (
      kept_same s.rules s.index c.take_away.new.self s.jobs.list c.self.invariant.0
          (taken_back s.rules s.index c.add.new.self c.take_away.new.self s.jobs.list s.jobs.last k c.in-Some.id c.deadline-deadline.result c.self.invariant.0 c.next_id.ensures.rise c.in-Some.ensures.some none finds c.take_away.ensures),
      λ async. omega (arith, room, count),
    )

pub invariant_of-self-else-is_err-3 : goal.invariant_of-self-else-is_err-3
invariant_of-self-else-is_err-3 c =
    let s = c.self.inside in
    let k = c.args.header.stream_id in
    let free = rw (← c.self.view_is) at c.requires.none in
    let finds = when_ok c.add.result (search rules) c.add.ensures.ok in
    let put : c.make-made.new.self ≡ with_job s.jobs c.args.header c.args.request c.args.body = when_ok c.make-made.result (search rules) c.make-made.ensures.ok in
    let room = when_ok c.reserve.result (search rules) c.reserve.ensures.ok in
    let count = c.len.ensures.count in
    let more = length-append s.jobs.list (new_job (s.jobs.last + 1) c.args.header c.args.request c.args.body ∷ []) in
    rw put (
      kept_made s.rules s.index c.add.new.self s.jobs.list s.jobs.last (new_job (s.jobs.last + 1) c.args.header c.args.request c.args.body) c.self.invariant.0 c.next_id.ensures.rise refl free c.in-Async.is
          (subst (λ (i : ℕ). Finds s.index k i (deadline_in c.args.body) c.add.new.self) c.in-Some.ensures.some (subst (λ d. Finds s.index k c.in-Some.id d c.add.new.self) c.deadline-deadline.ensures finds)),
      λ async. omega (arith, room, count, more),
    )

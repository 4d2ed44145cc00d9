use Rattle.ttrpc_server.proofs.Words.{rules, ◌≡◌, ◌∙◌, ◌++◌, ◌∷◌, [], ℕ, List, Option, Some, None, refl, sym, ap, subst, same_Some, ActiveJob, Async, JobList, Loses, SendsOwnAnswer, SendsSome, deadline_in, timeout_response, waits}
use Rattle.std.specs.Prelude.{if◌then◌else◌}
use Rattle.ttrpc_server.proofs.expiry.expire_job.Goals as goal

none_is_some : {X : Type 0} (x : X) → None ≡ Some x → ⊥
none_is_some x same = cc

-- where a job is
abbrev place : ℕ → Option ℕ → ℕ × Option ℕ
place k deadline = (k, deadline)

with_list_is : (old new : JobList) (list : List ActiveJob) → new.last ≡ old.last → new.newest ≡ old.newest → new.list ≡ list → new ≡ record old { list = list }
with_list_is old new list p n q = rw (p, n, q) refl

pub unreachable-requires : goal.unreachable-requires
unreachable-requires g c =
    let job = c.requires.job in
    none_is_some (place job.0.header.stream_id (deadline_in job.0.body)) (sym c.in_default.is ∙ c.place_of.ensures job.0 job.1)

pub returns-clause-ok : goal.returns-clause-ok
returns-clause-ok g c = λ job at.
    let same : place c.in-Some.stream_id c.in-Some.deadline ≡ place job.header.stream_id (deadline_in job.body) = same_Some (place c.in-Some.stream_id c.in-Some.deadline) (place job.header.stream_id (deadline_in job.body)) (c.in-Some.ensures job at) in
    let expired = c.args.expiry.now.expired in
    let from = c.args.outbox.now in
    let to = c.answer_timeout.new.outbox in
    record {
      enough = search rules;
      left_are = with_list_is c.args.jobs.now c.end.new.self (at.front ++ at.back) c.end.ensures.last c.end.ensures.newest (c.end.ensures.ended job at);
      loses = subst (λ (p : ℕ × Option ℕ). Loses c.args.index.now p.0 c.args.id p.1 c.take_away.new.self) same c.take_away.ensures;
      expired = c.tell.ensures.expired ∙ ap (λ b. if b then expired else expired ++ c.args.id ∷ []) (c.waits.ensures job at) ∙ ap (λ i. if waits job then expired else expired ++ i ∷ []) (sym at.is_job);
      due = c.tell.ensures.due;
      room = c.tell.ensures.room;
      answers = subst (λ (p : ℕ × Option ℕ). SendsSome g.O.OutboundTransform from (SendsOwnAnswer Async g.O.OutboundTransform from.half p.0 timeout_response) to) same c.in_ok-answer_timeout.ensures.ok;
    }

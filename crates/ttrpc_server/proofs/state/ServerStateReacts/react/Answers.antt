use Rattle.ttrpc_server.proofs.Words.{rules, ◌≡◌, ◌∙◌, refl, sym, ap, on_ok_weaker, jobs_at}
use Rattle.ttrpc_server.specs.Table.{answer_row, case_of, case_row, id_state_of, newest_after}
use Rattle.ttrpc_server.proofs.Kept.{case_is_answered}
use Rattle.ttrpc_server.proofs.Streams.{same_case, seen_else}
use Rattle.ttrpc_server.proofs.Sending.{answers}
use Rattle.ttrpc_server.proofs.state.ServerStateReacts.react.Goals as goal

pub returns-in_ok-answer-in_default-clause-ok : goal.returns-in_ok-answer-in_default-clause-ok
returns-in_ok-answer-in_default-clause-ok g c =
    let s = c.self.inside in
    let a = c.args.arrived in
    let id_state = c.id_state-id_state.result in
    let has = rw (← c.self.view_is) at c.id_state-id_state.ensures in
    let same = same_case s.rules a.header a.opening s.jobs.newest s.jobs.newest (id_state_of (jobs_at s.jobs.list a.header.stream_id)) id_state (λ async. (refl, sym (has async))) in
    let case : case_of s.rules a.header a.opening s.jobs.newest id_state ≡ c.case_of.result = search rules in
    let no = c.in_default.not-Asks in
    let items = c.in_default.not-PutsIn in
    let row : case_row s.rules s.registry a.header (case_of s.rules a.header a.opening s.jobs.newest (id_state_of (jobs_at s.jobs.list a.header.stream_id))) ≡ answer_row c.in_ok-answer-in_default.answer =
    ap (case_row s.rules s.registry a.header) (same ∙ case)
    ∙ case_is_answered s.rules s.registry a.header c.case_of.result (λ plain is. first_of (search (rules, no), grind (rules, no))) (λ plain is. first_of (search (rules, items), grind (rules, items)))
    ∙ ap answer_row (sym c.in_ok-answer-in_default.ensures) in
    let stays : newest_after s.rules a.header.stream_id (case_of s.rules a.header a.opening s.jobs.newest (id_state_of (jobs_at s.jobs.list a.header.stream_id))) s.jobs.newest ≡ s.jobs.newest =
    ap (λ k. newest_after s.rules a.header.stream_id k s.jobs.newest) (same ∙ case)
    ∙ seen_else s.rules a.header.stream_id c.case_of.result s.jobs.newest (λ plain is. first_of (search (rules, no), grind (rules, no))) in
    rw (← c.self.view_is, stays) (on_ok_weaker c.send_answer.result (λ x. answers g.O.OutboundTransform _ _ a.header a.now _ c.args.outbox.now _ row x) c.send_answer.ensures.ok)

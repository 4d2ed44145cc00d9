use Rattle.std.proofs.Common.{◌≡◌, ◌∙◌, ℕ, All, ap, subst, sym}
use Rattle.std.proofs.lemmas.List.{take_all}
use Rattle.ttrpc_world_trace.specs.declared.events.Entry.{Entry}
use Rattle.health_stub.specs.Report.{IsCheckCall}
use Rattle.health_stub.specs.Scan.{HasStatus}
use Rattle.health_stub.proofs.Telling.{id_of, none_more, one_more}
use Rattle.health_stub.proofs.report.statuses_told.Goals as goal
use Rattle.health_stub.proofs.report.statuses_told.Goals.{in-Some+then-is_check_call+in_ok-response_in+in_ok-insert, in-Some+else-is_check_call, in_default}

pub loop-entry-preserved : goal.loop-entry-preserved
loop-entry-preserved c =
    let trace = c.args.trace.now in
    let i = c.loop-entry.entry-index in
    let e = c.entry-item.result in
    elim c.match-told_in.branch [
      | in-Some+then-is_check_call+in_ok-response_in+in_ok-insert w ↦ rw w.told-is (record {
        told = rw w.in_ok-insert.ensures.entries (one_more trace i e c.loop-entry-test.true c.entry-item.is c.loop-entry.told.entries w.in-Some.id w.if-is_check_call.ensures.yes.0 w.in-Some.response.now w.in_ok-response_in.field-0
            w.in-Some.ensures.some w.if-is_check_call.ensures.yes.1 (rw w.as_slice.ensures at w.in_ok-response_in.ensures.ok) c.loop-entry.invariant.told);
        ordered = w.in_ok-insert.ensures.ordered;
      })
      | in-Some+else-is_check_call w ↦ rw w.told-is (record {
        told = none_more trace i e c.loop-entry-test.true c.entry-item.is c.loop-entry.told.entries
            (λ id request response is call.
            let same : id ≡ w.in-Some.id = ap (λ (x : Entry). id_of x.event id) (sym is ∙ w.in-Some.ensures.some) in
            w.if-is_check_call.ensures.no request (subst (λ (k : ℕ). IsCheckCall trace k request) same call))
            c.loop-entry.invariant.told;
        ordered = c.loop-entry.invariant.ordered;
      })
      | in_default w ↦ rw w.told-is (record {
        told = none_more trace i e c.loop-entry-test.true c.entry-item.is c.loop-entry.told.entries (λ id request response is call. w.in_default.ensures.none id response is) c.loop-entry.invariant.told;
        ordered = c.loop-entry.invariant.ordered;
      })
    ]

pub returns-clause-told : goal.returns-clause-told
returns-clause-told c = record {
  every = subst (All (HasStatus c.args.trace.now c.loop-entry.told.entries)) (take_all c.loop-entry.entry-index c.args.trace.now c.loop-entry-test.false) c.loop-entry.invariant.told.every;
  no_other = c.loop-entry.invariant.told.no_other;
}

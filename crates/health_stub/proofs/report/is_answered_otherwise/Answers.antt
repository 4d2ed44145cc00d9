use Rattle.std.proofs.Common.{◌≡◌, ◌<◌, ◌∙◌, Contains, Some, ap, arith, below_more, subst, sym}
use Rattle.std.proofs.lemmas.List.Elements.{Contains-get_or}
use Rattle.ttrpc_server.specs.declared.job.Job.{Job}
use Rattle.ttrpc_world_trace.specs.declared.events.Entry.{Entry}
use Rattle.ttrpc_world_trace.specs.declared.events.Event.TheVariants.{Take}
use Rattle.ttrpc_world_trace.specs.declared.events.Reply.TheVariants.{Handed}
use Rattle.health_stub.specs.Report.{IsCheck}
use Rattle.health_stub.specs.Scan.{IsAnsweredSo}
use Rattle.health_stub.proofs.Members.{at_item}
use Rattle.health_stub.proofs.report.is_answered_otherwise.Goals as goal
use Rattle.health_stub.proofs.report.is_answered_otherwise.Goals.{in-Some+in_ok-has_other_answer+else-branch, in_default}

-- one entry hands out one job
one_job : (e : Entry) (a b : Job) → e ≡ record { event = Take; reply = Handed (Some a) } → e ≡ record { event = Take; reply = Handed (Some b) } → a ≡ b
one_job e a b p q = let same : Handed (Some a) ≡ Handed (Some b) = ap (λ (x : Entry). x.reply) (sym p ∙ q) in cc

pub returns-then-branch-clause-yes : goal.returns-then-branch-clause-yes
returns-then-branch-clause-yes c =
    let other = rw c.if-branch.true at c.in_ok-has_other_answer.ensures.yes in
    let here : Contains c.args.trace.now c.entry-item.result = subst (Contains c.args.trace.now) (sym c.entry-item.is) (Contains-get_or c.args.trace.now c.loop-entry.entry-index c.entry-item.result c.loop-entry-test.true) in
    record {
      job = c.in-Some.job.now;
      response = other.0;
      handed = subst (Contains c.args.trace.now) c.in-Some.ensures.some.0 here;
      is_check = c.in-Some.ensures.some.1;
      answers = other.1;
      otherwise = other.2;
    }

pub loop-entry-preserved : goal.loop-entry-preserved
loop-entry-preserved c =
    let so : (job : Job) → c.entry-item.result ≡ record { event = Take; reply = Handed (Some job) } → IsCheck job.request → IsAnsweredSo c.args.table.now c.args.trace.now job = elim c.match-check_job.branch [
      | in-Some+in_ok-has_other_answer+else-branch w ↦ λ job is check.
          subst (IsAnsweredSo c.args.table.now c.args.trace.now) (one_job c.entry-item.result w.in-Some.job.now job w.in-Some.ensures.some.0 is) (rw w.if-branch.false at w.in_ok-has_other_answer.ensures.no)
      | in_default w ↦ λ job is check. absurd (w.in_default.ensures.none job is check)
    ] in
    below_more _ _ c.loop-entry.invariant (λ d job is check. so job (sym (at_item c.args.trace.now c.loop-entry.entry-index c.entry-item.result d c.loop-entry-test.true c.entry-item.is) ∙ is) check)

pub returns-clause-no : goal.returns-clause-no
returns-clause-no c = λ job handed check.
    let inside : handed.0 < c.loop-entry.entry-index = omega (arith, handed.1, c.loop-entry-test.false) in
    c.loop-entry.invariant handed.0 inside _ job handed.2 check

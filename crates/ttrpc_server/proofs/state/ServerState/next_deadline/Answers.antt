use Rattle.ttrpc_server.proofs.Words.{arith, ◌≡◌, ◌<◌, ◌≤◌, ◌∙◌, ℕ, [], true, false, sym, ap, subst, Server, due_jobs, IsDeadline}
use Rattle.std.specs.Prelude.{Err, IfNone, IfSome, Ok, Result}
use Rattle.std.specs.Result.{OkIff, result_ok}
use Rattle.ttrpc_connection.specs.Deadlines.{has_deadline}
use Rattle.ttrpc_server.proofs.Due.{is_deadline, none_due_before}
use Rattle.ttrpc_server.proofs.state.ServerState.next_deadline.Goals as goal

when_fits : {E : Type 0} (at n : ℕ) (P : ℕ → Type 0) (r : Result ℕ E) → OkIff r (at < n) at → P at → IfSome (result_ok r) P
when_fits at n P (Ok x) fits h = subst P (sym fits.1) h
when_fits at n P (Err e) fits h = tt

when_not : {E P : Type 0} (at n : ℕ) (r : Result ℕ E) → OkIff r (at < n) at → (n ≤ at → P) → IfNone (result_ok r) P
when_not at n (Ok x) fits h = tt
when_not at n (Err e) fits h = h (omega (arith, fits))

pub returns-in_err-deadline-clause-none : goal.returns-in_err-deadline-clause-none
returns-in_err-deadline-clause-none c =
    let s = c.self.inside in
    rw c.from_residual.ensures (λ now fits. subst (λ (v : Server). due_jobs now v.jobs.list ≡ []) c.self.view_is
    (none_due_before s.index.deadlines s.jobs.list c.self.invariant.0.deadlines now
    (λ at id there. let not = c.in_err-deadline.ensures.none at id in let bad : true ≡ false = sym there ∙ ap (λ ds. has_deadline ds at id) (sym c.deadlines.ensures) ∙ not in cc)))

pub returns-clause-some : goal.returns-clause-some
returns-clause-some c =
    let s = c.self.inside in
    let at = c.in_ok-deadline.deadline in
    let here = ap (λ ds. has_deadline ds at c.in_ok-deadline.field-0-1) (sym c.deadlines.ensures) ∙ c.in_ok-deadline.ensures.some in
    rw (c.ok.ensures.value, ← c.self.view_is)
    (when_fits at 18446744073709551616 (IsDeadline s.jobs.list) c.try_from.result c.try_from.ensures
    (is_deadline s.index.deadlines s.jobs.list c.self.invariant.0.deadlines at c.in_ok-deadline.field-0-1 here (λ moment k h. c.in_ok-deadline.ensures.least moment k (ap (λ ds. has_deadline ds moment k) c.deadlines.ensures ∙ h))))

pub returns-clause-none : goal.returns-clause-none
returns-clause-none c =
    let s = c.self.inside in
    let at = c.in_ok-deadline.deadline in
    rw (c.ok.ensures.value, ← c.self.view_is)
    (when_not at 18446744073709551616 c.try_from.result c.try_from.ensures
    (λ above now fits. none_due_before s.index.deadlines s.jobs.list c.self.invariant.0.deadlines now
    (λ moment id h. let least = c.in_ok-deadline.ensures.least moment id (ap (λ ds. has_deadline ds moment id) c.deadlines.ensures ∙ h) in omega (arith, least, above, fits))))

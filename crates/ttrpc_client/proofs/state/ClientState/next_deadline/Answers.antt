use Rattle.ttrpc_client.proofs.Words.{arith, ◌≡◌, ◌<◌, ◌≤◌, ◌∙◌, ℕ, [], sym, subst, Result, Ok, Err, IfSome, IfNone, true, false, OkIff, result_ok, Client, IsDeadline, due_ids}
use Rattle.ttrpc_client.proofs.Expiring.{is_deadline, none_due_before}
use Rattle.ttrpc_client.specs.pending.Places.{entries_in}
use Rattle.ttrpc_client.proofs.state.ClientState.next_deadline.Goals as goal

when_fits : {E : Type 0} (at n : ℕ) (P : ℕ → Type 0) (r : Result ℕ E) → OkIff r (at < n) at → P at → IfSome (result_ok r) P
when_fits at n P (Ok x) fits h = subst P (sym fits.1) h
when_fits at n P (Err e) fits h = tt

when_not : {E P : Type 0} (at n : ℕ) (r : Result ℕ E) → OkIff r (at < n) at → (n ≤ at → P) → IfNone (result_ok r) P
when_not at n (Ok x) fits h = tt
when_not at n (Err e) fits h = h (omega (arith, fits))

pub returns-in_err-deadline-clause-none : goal.returns-in_err-deadline-clause-none
returns-in_err-deadline-clause-none c =
    let kept = c.self.invariant.0 in
    rw c.from_residual.ensures (λ now fits. subst (λ (s : Client). due_ids now s.calls ≡ []) c.self.view_is
    (none_due_before c.self.inside.deadlines (entries_in c.self.inside.calls) now kept.ordered kept.deadlines_are
    (λ at id there. let not = c.in_err-deadline.ensures.none at id in let no : true ≡ false = sym there ∙ not in cc)))

pub returns-clause-some : goal.returns-clause-some
returns-clause-some c =
    let kept = c.self.invariant.0 in
    let at = c.in_ok-deadline.deadline in
    rw (c.ok.ensures.value, ← c.self.view_is)
    (when_fits at 18446744073709551616 (IsDeadline (entries_in c.self.inside.calls)) c.try_from.result c.try_from.ensures
    (is_deadline c.self.inside.deadlines (entries_in c.self.inside.calls) at c.in_ok-deadline.field-0-1 kept.ordered kept.deadlines_are c.in_ok-deadline.ensures.some c.in_ok-deadline.ensures.least))

pub returns-clause-none : goal.returns-clause-none
returns-clause-none c =
    let kept = c.self.invariant.0 in
    let at = c.in_ok-deadline.deadline in
    rw (c.ok.ensures.value, ← c.self.view_is)
    (when_not at 18446744073709551616 c.try_from.result c.try_from.ensures
    (λ above now fits. none_due_before c.self.inside.deadlines (entries_in c.self.inside.calls) now kept.ordered kept.deadlines_are
    (λ moment id there. let least = c.in_ok-deadline.ensures.least moment id there in omega (arith, least, above, fits))))

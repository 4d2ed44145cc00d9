use Rattle.ttrpc_client.proofs.Words.{arith, ◌≡◌, ◌≤◌, ◌∙◌, [], refl, sym, subst, Some, true, false, Waiting, Client, call_in, due_ids}
use Rattle.ttrpc_client.proofs.Expiring.{expires, found, id_fits, none_due_before}
use Rattle.ttrpc_client.specs.pending.Places.{entries_in}
use Rattle.ttrpc_client.proofs.state.ClientState.expire_first.Goals as goal

pub returns-in_err-deadline-clause-none : goal.returns-in_err-deadline-clause-none
returns-in_err-deadline-clause-none c =
    let kept = c.self.invariant.0 in
    let none : due_ids c.args.now (entries_in c.self.inside.calls) ≡ [] = none_due_before c.self.inside.deadlines (entries_in c.self.inside.calls) c.args.now kept.ordered kept.deadlines_are
    (λ at id there. let not = c.in_err-deadline.ensures.none at id in let no : true ≡ false = sym there ∙ not in cc) in
    rw c.from_residual.ensures (refl, subst (λ (s : Client). due_ids c.args.now s.calls ≡ []) c.self.view_is none)

pub returns-then-deadline-from-clause-none : goal.returns-then-deadline-from-clause-none
returns-then-deadline-from-clause-none c =
    let kept = c.self.invariant.0 in
    let none : due_ids c.args.now (entries_in c.self.inside.calls) ≡ [] = none_due_before c.self.inside.deadlines (entries_in c.self.inside.calls) c.args.now kept.ordered kept.deadlines_are
    (λ at id there. let least = c.in_ok-deadline.ensures.least at id there in let is = c.from.ensures in let later = c.if-deadline-from.true in omega (arith, least, is, later)) in
    (refl, subst (λ (s : Client). due_ids c.args.now s.calls ≡ []) c.self.view_is none)

pub returns-clause-some : goal.returns-clause-some
returns-clause-some c =
    let kept = c.self.invariant.0 in
    let at = c.in_ok-deadline.deadline in
    let id = c.in_ok-deadline.id in
    let was : call_in (entries_in c.self.inside.calls) id ≡ Some (Waiting (Some at)) = found c.self.inside.deadlines (entries_in c.self.inside.calls) at id kept.deadlines_are c.in_ok-deadline.ensures.some in
    let due : at ≤ c.args.now = let is = c.from.ensures in let le = c.if-deadline-from.false in omega (arith, is, le) in
    expires c.args.self.now c.settle.new.self c.args.now at id (subst (λ (s : Client). call_in s.calls id ≡ Some (Waiting (Some at))) c.self.view_is was) due c.settle.ensures

pub overflow_cast-id : goal.overflow_cast-id
overflow_cast-id c =
    let kept = c.self.invariant.0 in
    let at = c.in_ok-deadline.deadline in
    let id = c.in_ok-deadline.id in
    let small = id_fits c.self.inside.next (entries_in c.self.inside.calls) id (Waiting (Some at)) kept.valid (found c.self.inside.deadlines (entries_in c.self.inside.calls) at id kept.deadlines_are c.in_ok-deadline.ensures.some) in
    omega (arith, small)

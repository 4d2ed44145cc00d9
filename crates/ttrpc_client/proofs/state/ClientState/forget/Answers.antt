use Rattle.ttrpc_client.proofs.Words.{arith, ℕ, List, [], ◌∷◌, refl, ◌≡◌, ◌≢◌, ◌∙◌, ap, true, length, call_in, deadline_in, told_left, is_at, nat_cmp, remove_entry, CallState}
use Rattle.ttrpc_client.proofs.Keeping.{forget_keeps, kept_told}
use Rattle.ttrpc_client.proofs.Entered.{gone_apart}
use Rattle.ttrpc_client.proofs.Entries.{taken_elsewhere, taken_there}
use Rattle.ttrpc_client.specs.pending.Places.{entries_in}
use Rattle.ttrpc_client.proofs.state.ClientState.forget.Goals as goal

-- where no call is left, none is told of
told_of_none : (calls : List (ℕ × CallState)) (ended : List ℕ) → length calls ≡ 0 → [] ≡ told_left calls ended
told_of_none [] ended none = refl
told_of_none (c ∷ cs) ended none = absurd (omega (arith, none))

pub invariant_of-self : goal.invariant_of-self
invariant_of-self c =
    let old = entries_in c.self.inside.calls in
    let rise = c.self.invariant.0.ordered in
    let new = entries_in c.remove-call.new.self in
    let out : new ≡ remove_entry (is_at (nat_cmp c.args.id)) old = c.remove-call.ensures.entries in
    let was = c.remove-call.ensures.value in
    let gone = ap (λ es. call_in es c.args.id) out ∙ taken_there c.args.id old rise in
    let others = λ (q : ℕ) (apart : q ≢ c.args.id). ap (λ es. call_in es q) out ∙ taken_elsewhere c.args.id old q rise apart in
    let is : c.waits_until.result ≡ deadline_in (call_in old c.args.id) = c.waits_until.ensures ∙ ap deadline_in was in
    let none : length new ≡ 0 = c.is_empty.ensures.0 c.if-is_empty.true in
    rw (c.clear.ensures.items, c.clear.ensures.len, c.clear.ensures.capacity) (
      forget_keeps _ _ _ _ _ _ c.self.invariant.0 new c.take_away.new.self _ _ c.args.id c.waits_until.result is out gone others c.remove-call.ensures.rise (rw c.from.ensures at c.take_away.ensures)
          (told_of_none new c.self.inside.ended.items none)
          (omega arith),
      gone_apart _ old new _ c.self.invariant.1 c.args.id gone others,
    )

pub invariant_of-self-else-is_empty : goal.invariant_of-self-else-is_empty
invariant_of-self-else-is_empty c =
    let old = entries_in c.self.inside.calls in
    let rise = c.self.invariant.0.ordered in
    let new = entries_in c.remove-call.new.self in
    let out : new ≡ remove_entry (is_at (nat_cmp c.args.id)) old = c.remove-call.ensures.entries in
    let was = c.remove-call.ensures.value in
    let gone = ap (λ es. call_in es c.args.id) out ∙ taken_there c.args.id old rise in
    let others = λ (q : ℕ) (apart : q ≢ c.args.id). ap (λ es. call_in es q) out ∙ taken_elsewhere c.args.id old q rise apart in
    let is : c.waits_until.result ≡ deadline_in (call_in old c.args.id) = c.waits_until.ensures ∙ ap deadline_in was in (
      forget_keeps _ _ _ _ _ _ c.self.invariant.0 new c.take_away.new.self _ _ c.args.id c.waits_until.result is out gone others c.remove-call.ensures.rise (rw c.from.ensures at c.take_away.ensures)
          (kept_told new c.self.inside.ended.items (λ z. let yes : c.is_empty.result ≡ true = c.is_empty.ensures.1 z in let no = c.if-is_empty.false in cc))
          (omega arith),
      gone_apart _ old new _ c.self.invariant.1 c.args.id gone others,
    )

pub returns-else-is_empty-clause-leaves : goal.returns-else-is_empty-clause-leaves
returns-else-is_empty-clause-leaves c =
    let old = entries_in c.self.inside.calls in
    let rise = c.self.invariant.0.ordered in
    let new = entries_in c.remove-call.new.self in
    let out : new ≡ remove_entry (is_at (nat_cmp c.args.id)) old = c.remove-call.ensures.entries in
    let told = kept_told new c.self.inside.ended.items (λ z. let yes : c.is_empty.result ≡ true = c.is_empty.ensures.1 z in let no = c.if-is_empty.false in cc) in
    rw (← c.self.view_is) (record {
      own = ap (λ es. call_in es c.args.id) out ∙ taken_there c.args.id old rise;
      others = λ q apart. ap (λ es. call_in es q) out ∙ taken_elsewhere c.args.id old q rise apart;
      calls = out;
      same = ap (λ (ended : List ℕ). record {
        kind = c.self.inside.kind;
        next = c.self.inside.next;
        calls = new;
        ended = ended;
        streams = c.self.inside.streams;
        heard = c.self.inside.heard.keys;
      }) told;
    })

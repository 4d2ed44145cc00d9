use Rattle.ttrpc_connection.proofs.Words.{rules, arith, ◌≡◌, ◌<◌, ◌≤◌, ◌∙◌, ◌++◌, ◌∷◌, [], ℕ, List, length, length-append, append_assoc, append-nil, Result, Ok, Err, true, sym, ap, subst}
use Rattle.std.proofs.lemmas.Map.Iter.{rest_all, rest_more}
use Rattle.std.proofs.lemmas.Map.Keys.{sorted_tail}
use Rattle.std.specs.List.Sorted.{IsStrictlySortedBy}
use Rattle.std.specs.Map.Iter.{deref}
use Rattle.std.specs.Result.{is_err, OnErr}
use Rattle.ttrpc_connection.specs.Deadlines.{due_ids, sooner}
use Rattle.ttrpc_connection.proofs.Soonest.{due_first, none_due_from}
use Rattle.ttrpc_connection.proofs.deadlines.Deadlines.due.Goals as goal

when_err : {T E P : Type 0} (r : Result T E) → is_err r ≡ true → OnErr r P → P
when_err (Ok x) e h = cc
when_err (Err x) e h = h

pub loop-pair-init : goal.loop-pair-init
loop-pair-init c =
    let is = c.into_iter-pair-iterator.ensures.into_iter_gives ∙ c.iter-pair-items.ensures.rest in
    record {
      so_far = rw c.clear.ensures.items (ap (due_ids c.args.now) (is ∙ c.self.view_is));
      ordered = subst (IsStrictlySortedBy sooner) (sym is) c.iter-pair-items.ensures.ordered;
      room = rw c.clear.ensures.capacity c.requires;
      grown = let same = c.clear.ensures.capacity in omega (arith, same);
    }

pub unreachable-requires : goal.unreachable-requires
unreachable-requires c =
    let e = rest_more deref c.loop-pair.pair-iterator c.next.new.self c.next.result c.in-Some.pair c.in-Some.is c.next.ensures.steps in
    let is = c.from.ensures in
    let not = c.if-deadline-from.false in
    let le : c.in-Some.pair.now.0 ≤ c.args.now = omega (arith, is, not) in
    let all = ap (λ l. c.loop-pair.due.items ++ l) (sym (ap (due_ids c.args.now) e ∙ due_first c.args.now c.in-Some.pair.now c.next.new.self le)) ∙ c.loop-pair.invariant.so_far in
    let count = ap (λ (l : List ℕ). length l) all in
    let parts = length-append c.loop-pair.due.items (c.in-Some.pair.now.1 ∷ due_ids c.args.now c.next.new.self) in
    let full = when_err c.push.result (search rules) c.push.ensures.full in
    let room = c.loop-pair.invariant.room in
    omega (arith, count, parts, full, room, c.loop-pair.due.ok.0)

pub loop-pair-preserved : goal.loop-pair-preserved
loop-pair-preserved c =
    let e = rest_more deref c.loop-pair.pair-iterator c.next.new.self c.next.result c.in-Some.pair c.in-Some.is c.next.ensures.steps in
    let is = c.from.ensures in
    let not = c.if-deadline-from.false in
    let le : c.in-Some.pair.now.0 ≤ c.args.now = omega (arith, is, not) in
    let put : c.push.new.self.items ≡ c.loop-pair.due.items ++ c.in-Some.pair.now.1 ∷ [] = search rules in
    let wide = c.push.ensures.capacity in
    let room = c.loop-pair.invariant.room in
    let grown = c.loop-pair.invariant.grown in
    record {
      so_far = rw put (append_assoc c.loop-pair.due.items (c.in-Some.pair.now.1 ∷ []) (due_ids c.args.now c.next.new.self)
          ∙ ap (λ l. c.loop-pair.due.items ++ l) (sym (ap (due_ids c.args.now) e ∙ due_first c.args.now c.in-Some.pair.now c.next.new.self le)) ∙ c.loop-pair.invariant.so_far);
      ordered = sorted_tail sooner c.in-Some.pair.now c.next.new.self (subst (IsStrictlySortedBy sooner) e c.loop-pair.invariant.ordered);
      room = omega (arith, wide, room);
      grown = omega (arith, wide, grown);
    }

pub returns-in-None-clause-are : goal.returns-in-None-clause-are
returns-in-None-clause-are c =
    let e = rest_all deref c.loop-pair.pair-iterator c.next.new.self c.next.result c.in-None.is c.next.ensures.steps in
    sym (append-nil c.loop-pair.due.items) ∙ ap (λ l. c.loop-pair.due.items ++ l) (sym (ap (due_ids c.args.now) e)) ∙ c.loop-pair.invariant.so_far

pub returns-then-deadline-from-clause-are : goal.returns-then-deadline-from-clause-are
returns-then-deadline-from-clause-are c =
    let e = rest_more deref c.loop-pair.pair-iterator c.next.new.self c.next.result c.in-Some.pair c.in-Some.is c.next.ensures.steps in
    let is = c.from.ensures in
    let more = c.if-deadline-from.true in
    let later : c.args.now < c.in-Some.pair.now.0 = omega (arith, is, more) in
    let none = none_due_from c.args.now c.in-Some.pair.now c.next.new.self (subst (IsStrictlySortedBy sooner) e c.loop-pair.invariant.ordered) later in
    sym (append-nil c.loop-pair.due.items) ∙ ap (λ l. c.loop-pair.due.items ++ l) (sym (ap (due_ids c.args.now) e ∙ none)) ∙ c.loop-pair.invariant.so_far

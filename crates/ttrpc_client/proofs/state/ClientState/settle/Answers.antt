use Rattle.ttrpc_client.proofs.Words.{ℕ, ◌≡◌, ◌≢◌, ◌≤◌, ◌+◌, ◌∙◌, ap, refl, true, IfSome, Option, Some, None, CallState, insert_entry, nat_cmp, deque_len, deque_capacity, call_in, waits, deadline_in}
use Rattle.ttrpc_client.proofs.Keeping.{settle_keeps, settle_room}
use Rattle.ttrpc_client.proofs.Entries.{put_elsewhere, put_there}
use Rattle.ttrpc_client.specs.pending.Places.{entries_in}
use Rattle.ttrpc_client.proofs.Entered.{ended_apart}
use Rattle.ttrpc_client.proofs.state.ClientState.settle.Goals as goal

when_waits : {P : Type 0} (was call : Option CallState) → was ≡ call → waits call ≡ true → IfSome was (λ _. P) → P
when_waits None call is there has = let bad : waits None ≡ true = ap waits is ∙ there in cc
when_waits (Some was) call is there has = has

pub unreachable-requires : goal.unreachable-requires
unreachable-requires c =
    let was : waits (call_in (entries_in c.self.inside.calls) c.args.id) ≡ true = rw (← c.self.view_is) at c.requires.waited in
    settle_room _ _ _ _ _ _ c.self.invariant.0 c.args.id c.args.call was c.requires.ended c.in-Err.ensures.full

pub invariant_of-self : goal.invariant_of-self
invariant_of-self c =
    let old = entries_in c.self.inside.calls in
    let new = entries_in c.replace-was.new.self in
    let was : waits (call_in old c.args.id) ≡ true = rw (← c.self.view_is) at c.requires.waited in
    let put : new ≡ insert_entry nat_cmp old c.args.id c.args.call = when_waits c.replace-was.result (call_in old c.args.id) c.replace-was.ensures.was was c.replace-was.ensures.entries in
    let there = ap (λ es. call_in es c.args.id) put ∙ put_there c.args.id c.args.call old in
    let elsewhere = λ (q : ℕ) (apart : q ≢ c.args.id). ap (λ es. call_in es q) put ∙ put_elsewhere c.args.id c.args.call old q apart in
    let is : c.waits_until.result ≡ deadline_in (call_in old c.args.id) = c.waits_until.ensures ∙ ap deadline_in c.replace-was.ensures.was in
    let more : deque_len c.push_back.new.self ≡ deque_len c.self.inside.ended + 1 = c.in-Ok.ensures.len in
    let wide : deque_capacity c.self.inside.ended ≤ deque_capacity c.push_back.new.self = c.push_back.ensures.capacity in
    rw c.in-Ok.ensures.items (
      settle_keeps _ _ _ _ _ _ c.self.invariant.0 new c.take_away.new.self _ _ c.args.id c.waits_until.result c.args.call is was c.requires.ended put there elsewhere c.replace-was.ensures.rise (rw c.from.ensures at c.take_away.ensures) more wide,
      ended_apart _ old new _ c.self.invariant.1 c.args.id was elsewhere,
    )

pub returns : goal.returns
returns c =
    let old = entries_in c.self.inside.calls in
    let new = entries_in c.replace-was.new.self in
    let was : waits (call_in old c.args.id) ≡ true = rw (← c.self.view_is) at c.requires.waited in
    let put : new ≡ insert_entry nat_cmp old c.args.id c.args.call = when_waits c.replace-was.result (call_in old c.args.id) c.replace-was.ensures.was was c.replace-was.ensures.entries in
    rw (← c.self.view_is, c.in-Ok.ensures.items) (record {
      own = ap (λ es. call_in es c.args.id) put ∙ put_there c.args.id c.args.call old;
      others = λ q apart. ap (λ es. call_in es q) put ∙ put_elsewhere c.args.id c.args.call old q apart;
      calls = put;
      was_ordered = c.self.invariant.0.ordered;
      same = refl;
    })

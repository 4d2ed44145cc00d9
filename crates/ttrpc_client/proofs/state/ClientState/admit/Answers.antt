use Rattle.ttrpc_client.proofs.Words.{rules, arith, ℕ, ◌+◌, ap, sym, ◌≡◌, ◌≢◌, ◌∙◌, false, Result, Ok, Err, OnOk, deque_capacity, is_err, nat_cmp, insert_entry, call_in, Waiting}
use Rattle.ttrpc_client.proofs.Keeping.{admit_keeps}
use Rattle.ttrpc_client.proofs.Entries.{put_elsewhere, put_there}
use Rattle.ttrpc_client.specs.pending.Places.{entries_in}
use Rattle.ttrpc_client.proofs.Entered.{call_apart}
use Rattle.ttrpc_client.proofs.state.ClientState.admit.Goals as goal

when_ok : {T E P : Type 0} (r : Result T E) → is_err r ≡ false → OnOk r P → P
when_ok (Ok x) e h = h
when_ok (Err x) e h = cc

pub push_last-requires : goal.push_last-requires
push_last-requires c = let next : c.args.id ≡ c.self.inside.next = rw (← c.self.view_is) at c.requires in λ k le. c.self.invariant.0.valid.fresh k (omega (arith, next, le))

pub invariant_of-self-2 : goal.invariant_of-self-2
invariant_of-self-2 c =
    let old = entries_in c.self.inside.calls in
    let new = entries_in c.push_last.new.self in
    let put : new ≡ insert_entry nat_cmp old c.args.id (Waiting c.args.deadline) = when_ok c.push_last.result (search rules) c.push_last.ensures.entries in
    let there = ap (λ es. call_in es c.args.id) put ∙ put_there c.args.id (Waiting c.args.deadline) old in
    let elsewhere = λ (q : ℕ) (apart : q ≢ c.args.id). ap (λ es. call_in es q) put ∙ put_elsewhere c.args.id (Waiting c.args.deadline) old q apart in
    let next : c.args.id ≡ c.self.inside.next = rw (← c.self.view_is) at c.requires in
    let wide = c.in_ok-reserve.ensures.ok in
    let size = c.len.ensures.count in
    let same = c.reserve.ensures.len in
    rw (c.reserve.ensures.items, c.reserve.ensures.len) (
      admit_keeps _ _ _ _ _ _ c.self.invariant.0 new c.add.new.self (deque_capacity c.reserve.new.self) c.args.id c.args.deadline next (search rules) put there elsewhere c.push_last.ensures.rise (rw c.from.ensures at c.in_ok-add.ensures.ok) (omega (arith, wide, size, same)),
      call_apart _ old new _ c.self.invariant.1 c.args.id next elsewhere,
    )

pub returns-clause-ok : goal.returns-clause-ok
returns-clause-ok c =
    let old = entries_in c.self.inside.calls in
    let kept = c.self.invariant.0 in
    let put : entries_in c.push_last.new.self ≡ insert_entry nat_cmp old c.args.id (Waiting c.args.deadline) = when_ok c.push_last.result (search rules) c.push_last.ensures.entries in
    let next : c.args.id ≡ c.self.inside.next = rw (← c.self.view_is) at c.requires in
    rw (← c.self.view_is, c.reserve.ensures.items) (record {
      fresh = kept.valid.fresh c.args.id (omega (arith, next));
      told = kept.told;
      calls = put;
      own = ap (λ es. call_in es c.args.id) put ∙ put_there c.args.id (Waiting c.args.deadline) old;
      others = λ q apart. ap (λ es. call_in es q) put ∙ put_elsewhere c.args.id (Waiting c.args.deadline) old q apart;
      no_stream = c.self.invariant.1.fresh c.args.id (omega (arith, next));
      id_is = next;
      same = ap (λ (n : ℕ). record {
        kind = c.self.inside.kind;
        next = n + 2;
        calls = entries_in c.push_last.new.self;
        ended = c.self.inside.ended.items;
        streams = c.self.inside.streams;
        heard = c.self.inside.heard.keys;
      }) (sym next);
    })

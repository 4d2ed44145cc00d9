use Rattle.std.proofs.Common.{◌≡◌, ◌≤◌, ◌<◌, ◌+◌, ◌-◌, ◌++◌, ◌∙◌, ℕ, [], false, length, take, drop, arith, ap, subst, sym, append_assoc, length-append, length-take}
use Rattle.circular_buffer.specs.Buffer.{Buffer, buffer}
use Rattle.ttrpc_proto.specs.Framing.Queue.{Queue, after_report, open_part}
use Rattle.ttrpc_proto.proofs.Laying.{Holds, finished_behind, finished_holds, finished_view, holding, open_fits, part_holds, part_view, queue_in, rebuilt, reported_fits, reported_small}
use Rattle.ttrpc_proto.proofs.Slices.{front_of_both}
use Rattle.ttrpc_proto.proofs.framing.outgoing.Outgoing.wrote.Goals as goal

pub slice_bounds-add-length : goal.slice_bounds-add-length
slice_bounds-add-length c =
    let a = c.self.inside in
    let h = holding a c.self.invariant in
    let lent = ap (λ (q : Queue). q.lent) c.self.view_is in
    let le : c.args.n ≤ a.lent = omega (arith, lent, c.requires) in
    let fits = reported_fits h c.args.n le in
    let ring = open_fits h in
    let all = ap (λ xs. length xs) c.as_slices.ensures in
    sym (simp length-take (omega (arith, fits, ring, all, length-append c.as_slices.result.0.now c.as_slices.result.1.now, c.min-in_front.ensures)))

pub pass-requires : goal.pass-requires
pass-requires c =
    let a = c.self.inside in
    let h = holding a c.self.invariant in
    let lent = ap (λ (q : Queue). q.lent) c.self.view_is in
    let le : c.args.n ≤ a.lent = omega (arith, lent, c.requires) in
    omega (arith, reported_fits h c.args.n le, open_fits h)

pub overflow_add-self : goal.overflow_add-self
overflow_add-self c =
    let a = c.self.inside in
    let h = holding a c.self.invariant in
    let lent = ap (λ (q : Queue). q.lent) c.self.view_is in
    let le : c.args.n ≤ a.lent = omega (arith, lent, c.requires) in
    omega (arith, reported_small h c.args.n le)

pub pass-requires-then-left-eq0 : goal.pass-requires-then-left-eq0
pass-requires-then-left-eq0 c =
    let a = c.self.inside in
    let h = holding a c.self.invariant in
    let lent = ap (λ (q : Queue). q.lent) c.self.view_is in
    let le : c.args.n ≤ a.lent = omega (arith, lent, c.requires) in
    let count : c.open_len.result ≡ length (open_part (queue_in a.records.items a.told.bytes a.ring.items a.reported a.lent a.begun a.sent)) = c.open_len.ensures ∙ sym (ap (λ (q : Queue). length (open_part q)) c.self.view_is) in
    let whole : length (open_part (queue_in a.records.items a.told.bytes a.ring.items a.reported a.lent a.begun a.sent)) ≤ c.args.n = omega (arith, count, c.if-left-eq0.true) in
    let bytes = a.told.bytes ++ a.ring.items in
    let first = c.take_first-sent in
    let fits = (finished_behind h c.args.n le first.result.1 first.result.0 whole (first.ensures.gone bytes) (first.ensures.ticket bytes)).0 in
    let left = ap (λ (b : Buffer ℕ). length b.items) c.pass.ensures in
    omega (arith, fits, left)

pub invariant_of-self : goal.invariant_of-self
invariant_of-self c =
    let a = c.self.inside in
    let h = holding a c.self.invariant in
    let lent = ap (λ (q : Queue). q.lent) c.self.view_is in
    let le : c.args.n ≤ a.lent = omega (arith, lent, c.requires) in
    let count : c.open_len.result ≡ length (open_part (queue_in a.records.items a.told.bytes a.ring.items a.reported a.lent a.begun a.sent)) = c.open_len.ensures ∙ sym (ap (λ (q : Queue). length (open_part q)) c.self.view_is) in
    let whole : length (open_part (queue_in a.records.items a.told.bytes a.ring.items a.reported a.lent a.begun a.sent)) ≤ c.args.n = omega (arith, count, c.if-left-eq0.true) in
    let bytes = a.told.bytes ++ a.ring.items in
    let first = c.take_first-sent in
    let ring : c.pass-then-left-eq0.new.self ≡ buffer (drop first.result.1 (drop c.args.n a.ring.items)) a.ring.capacity =
    c.pass-then-left-eq0.ensures ∙ ap (λ (b : Buffer ℕ). buffer (drop first.result.1 b.items) b.capacity) c.pass.ensures in
    let holds : Holds first.new.records.items c.new-self-inside.result.bytes (drop first.result.1 (drop c.args.n a.ring.items)) 0 0 false first.result.0 =
    subst (λ t. Holds first.new.records.items t (drop first.result.1 (drop c.args.n a.ring.items)) 0 0 false first.result.0) (sym c.new-self-inside.ensures)
    (subst (λ ks. Holds ks [] (drop first.result.1 (drop c.args.n a.ring.items)) 0 0 false first.result.0) (sym first.ensures.rest) (finished_holds h c.args.n le first.result.1 first.result.0 whole (first.ensures.gone bytes) (first.ensures.ticket bytes))) in
    rebuilt holds ring c.self.invariant.4

pub invariant_of-self-else-left-eq0 : goal.invariant_of-self-else-left-eq0
invariant_of-self-else-left-eq0 c =
    let a = c.self.inside in
    let h = holding a c.self.invariant in
    let lent = ap (λ (q : Queue). q.lent) c.self.view_is in
    let le : c.args.n ≤ a.lent = omega (arith, lent, c.requires) in
    let count : c.open_len.result ≡ length (open_part (queue_in a.records.items a.told.bytes a.ring.items a.reported a.lent a.begun a.sent)) = c.open_len.ensures ∙ sym (ap (λ (q : Queue). length (open_part q)) c.self.view_is) in
    let front = c.as_slices.result.0.now in
    let back = c.as_slices.result.1.now in
    let n = c.args.n in
    let told : c.add-2.new.self.bytes ≡ a.told.bytes ++ take n a.ring.items =
    c.add-2.ensures ∙ ap (λ b. b ++ take (n - c.min-in_front.result) back) c.add.ensures ∙ append_assoc a.told.bytes (take c.min-in_front.result front) (take (n - c.min-in_front.result) back)
    ∙ ap (λ x. a.told.bytes ++ x) (front_of_both n c.min-in_front.result front back c.min-in_front.ensures ∙ ap (take n) c.as_slices.ensures) in
    let less : c.args.n < length (open_part (queue_in a.records.items a.told.bytes a.ring.items a.reported a.lent a.begun a.sent)) = omega (arith, count, c.if-left-eq0.false) in
    let holds : Holds a.records.items c.add-2.new.self.bytes (drop n a.ring.items) (a.reported + n) 0 a.begun a.sent =
    subst (λ t. Holds a.records.items t (drop n a.ring.items) (a.reported + n) 0 a.begun a.sent) (sym told) (part_holds h n le less) in
    rebuilt holds c.pass.ensures c.self.invariant.4

pub returns-then-left-eq0-clause-written : goal.returns-then-left-eq0-clause-written
returns-then-left-eq0-clause-written c =
    let a = c.self.inside in
    let h = holding a c.self.invariant in
    let lent = ap (λ (q : Queue). q.lent) c.self.view_is in
    let le : c.args.n ≤ a.lent = omega (arith, lent, c.requires) in
    let count : c.open_len.result ≡ length (open_part (queue_in a.records.items a.told.bytes a.ring.items a.reported a.lent a.begun a.sent)) = c.open_len.ensures ∙ sym (ap (λ (q : Queue). length (open_part q)) c.self.view_is) in
    let whole : length (open_part (queue_in a.records.items a.told.bytes a.ring.items a.reported a.lent a.begun a.sent)) ≤ c.args.n = omega (arith, count, c.if-left-eq0.true) in
    let bytes = a.told.bytes ++ a.ring.items in
    let first = c.take_first-sent in
    let ring : c.pass-then-left-eq0.new.self ≡ buffer (drop first.result.1 (drop c.args.n a.ring.items)) a.ring.capacity =
    c.pass-then-left-eq0.ensures ∙ ap (λ (b : Buffer ℕ). buffer (drop first.result.1 b.items) b.capacity) c.pass.ensures in
    ap (λ t. queue_in first.new.records.items t c.pass-then-left-eq0.new.self.items 0 0 false first.result.0) c.new-self-inside.ensures
    ∙ ap (λ ks. queue_in ks [] c.pass-then-left-eq0.new.self.items 0 0 false first.result.0) first.ensures.rest
    ∙ ap (λ (b : Buffer ℕ). queue_in (drop 1 a.records.items) [] b.items 0 0 false first.result.0) ring
    ∙ finished_view h c.args.n le first.result.1 first.result.0 whole (first.ensures.gone bytes) (first.ensures.ticket bytes)
    ∙ ap (λ q. after_report q c.args.n) c.self.view_is

pub returns-then-left-eq0-clause-valid : goal.returns-then-left-eq0-clause-valid
returns-then-left-eq0-clause-valid c =
    let a = c.self.inside in
    let h = holding a c.self.invariant in
    let lent = ap (λ (q : Queue). q.lent) c.self.view_is in
    let le : c.args.n ≤ a.lent = omega (arith, lent, c.requires) in
    let count : c.open_len.result ≡ length (open_part (queue_in a.records.items a.told.bytes a.ring.items a.reported a.lent a.begun a.sent)) = c.open_len.ensures ∙ sym (ap (λ (q : Queue). length (open_part q)) c.self.view_is) in
    let whole : length (open_part (queue_in a.records.items a.told.bytes a.ring.items a.reported a.lent a.begun a.sent)) ≤ c.args.n = omega (arith, count, c.if-left-eq0.true) in
    let bytes = a.told.bytes ++ a.ring.items in
    let first = c.take_first-sent in
    let ring : c.pass-then-left-eq0.new.self ≡ buffer (drop first.result.1 (drop c.args.n a.ring.items)) a.ring.capacity =
    c.pass-then-left-eq0.ensures ∙ ap (λ (b : Buffer ℕ). buffer (drop first.result.1 b.items) b.capacity) c.pass.ensures in
    let holds : Holds first.new.records.items c.new-self-inside.result.bytes (drop first.result.1 (drop c.args.n a.ring.items)) 0 0 false first.result.0 =
    subst (λ t. Holds first.new.records.items t (drop first.result.1 (drop c.args.n a.ring.items)) 0 0 false first.result.0) (sym c.new-self-inside.ensures)
    (subst (λ ks. Holds ks [] (drop first.result.1 (drop c.args.n a.ring.items)) 0 0 false first.result.0) (sym first.ensures.rest) (finished_holds h c.args.n le first.result.1 first.result.0 whole (first.ensures.gone bytes) (first.ensures.ticket bytes))) in
    (rebuilt holds ring c.self.invariant.4).0

pub returns-else-left-eq0-clause-written : goal.returns-else-left-eq0-clause-written
returns-else-left-eq0-clause-written c =
    let a = c.self.inside in
    let h = holding a c.self.invariant in
    let lent = ap (λ (q : Queue). q.lent) c.self.view_is in
    let le : c.args.n ≤ a.lent = omega (arith, lent, c.requires) in
    let count : c.open_len.result ≡ length (open_part (queue_in a.records.items a.told.bytes a.ring.items a.reported a.lent a.begun a.sent)) = c.open_len.ensures ∙ sym (ap (λ (q : Queue). length (open_part q)) c.self.view_is) in
    let front = c.as_slices.result.0.now in
    let back = c.as_slices.result.1.now in
    let n = c.args.n in
    let told : c.add-2.new.self.bytes ≡ a.told.bytes ++ take n a.ring.items =
    c.add-2.ensures ∙ ap (λ b. b ++ take (n - c.min-in_front.result) back) c.add.ensures ∙ append_assoc a.told.bytes (take c.min-in_front.result front) (take (n - c.min-in_front.result) back)
    ∙ ap (λ x. a.told.bytes ++ x) (front_of_both n c.min-in_front.result front back c.min-in_front.ensures ∙ ap (take n) c.as_slices.ensures) in
    let less : c.args.n < length (open_part (queue_in a.records.items a.told.bytes a.ring.items a.reported a.lent a.begun a.sent)) = omega (arith, count, c.if-left-eq0.false) in
    ap (λ t. queue_in a.records.items t c.pass.new.self.items (a.reported + n) 0 a.begun a.sent) told
    ∙ ap (λ (b : Buffer ℕ). queue_in a.records.items (a.told.bytes ++ take n a.ring.items) b.items (a.reported + n) 0 a.begun a.sent) c.pass.ensures
    ∙ part_view h n le less
    ∙ ap (λ q. after_report q n) c.self.view_is

pub returns-else-left-eq0-clause-valid : goal.returns-else-left-eq0-clause-valid
returns-else-left-eq0-clause-valid c =
    let a = c.self.inside in
    let h = holding a c.self.invariant in
    let lent = ap (λ (q : Queue). q.lent) c.self.view_is in
    let le : c.args.n ≤ a.lent = omega (arith, lent, c.requires) in
    let count : c.open_len.result ≡ length (open_part (queue_in a.records.items a.told.bytes a.ring.items a.reported a.lent a.begun a.sent)) = c.open_len.ensures ∙ sym (ap (λ (q : Queue). length (open_part q)) c.self.view_is) in
    let front = c.as_slices.result.0.now in
    let back = c.as_slices.result.1.now in
    let n = c.args.n in
    let told : c.add-2.new.self.bytes ≡ a.told.bytes ++ take n a.ring.items =
    c.add-2.ensures ∙ ap (λ b. b ++ take (n - c.min-in_front.result) back) c.add.ensures ∙ append_assoc a.told.bytes (take c.min-in_front.result front) (take (n - c.min-in_front.result) back)
    ∙ ap (λ x. a.told.bytes ++ x) (front_of_both n c.min-in_front.result front back c.min-in_front.ensures ∙ ap (take n) c.as_slices.ensures) in
    let less : c.args.n < length (open_part (queue_in a.records.items a.told.bytes a.ring.items a.reported a.lent a.begun a.sent)) = omega (arith, count, c.if-left-eq0.false) in
    let holds : Holds a.records.items c.add-2.new.self.bytes (drop n a.ring.items) (a.reported + n) 0 a.begun a.sent =
    subst (λ t. Holds a.records.items t (drop n a.ring.items) (a.reported + n) 0 a.begun a.sent) (sym told) (part_holds h n le less) in
    (rebuilt holds c.pass.ensures c.self.invariant.4).0

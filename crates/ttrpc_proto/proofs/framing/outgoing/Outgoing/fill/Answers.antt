use Rattle.std.proofs.Common.{rules, ◌≡◌, ◌++◌, ◌-◌, ◌≤◌, ◌%◌, ◌^◌, ◌∙◌, ℕ, true, length, take, arith, refl, ap, subst, sym, length-append, length-take}
use Rattle.std.proofs.lemmas.Bool.{le-leb}
use Rattle.circular_buffer.specs.Buffer.{Buffer, buffer}
use Rattle.ttrpc_proto.specs.declared.framing.record.Record.{Record}
use Rattle.ttrpc_proto.specs.Framing.Header.{header_bytes}
use Rattle.ttrpc_proto.specs.Framing.Laid.{span}
use Rattle.ttrpc_proto.specs.Framing.Queue.{filled, free, held, last_may_change, may_fill}
use Rattle.ttrpc_proto.proofs.Laying.{Holds, IsLast, holding, last_in_ring, put_more, queue_in, rebuilt, refilled_holds, refilled_view, ring_held, three_parts}
use Rattle.ttrpc_proto.proofs.Queues.{both_true}
use Rattle.ttrpc_proto.proofs.framing.outgoing.Outgoing.fill.Goals as goal

pub span-requires : goal.span-requires
span-requires c =
    let a = c.self.inside in
    let h = holding a c.self.invariant in
    let x = c.in-Some.record in
    let k : IsLast a.records.items c.pop_back.new.self.items x a.told.bytes a.ring.items a.reported a.lent a.begun a.sent = record { holds = h; split = search rules; may = ap last_may_change c.self.view_is ∙ sym c.last_may_change.ensures ∙ c.if-last_may_change.true } in
    let lies = last_in_ring k in
    let fits = lies.0 in
    omega (arith, fits, h.few)

pub overflow_sub-len : goal.overflow_sub-len
overflow_sub-len c =
    let a = c.self.inside in
    let h = holding a c.self.invariant in
    let x = c.in-Some.record in
    let k : IsLast a.records.items c.pop_back.new.self.items x a.told.bytes a.ring.items a.reported a.lent a.begun a.sent = record { holds = h; split = search rules; may = ap last_may_change c.self.view_is ∙ sym c.last_may_change.ensures ∙ c.if-last_may_change.true } in
    let lies = last_in_ring k in
    let fits = lies.0 in
    omega (arith, fits, c.len.ensures.len, c.span.ensures)

pub put-requires-2 : goal.put-requires-2
put-requires-2 c =
    let a = c.self.inside in
    let h = holding a c.self.invariant in
    let x = c.in-Some.record in
    let k : IsLast a.records.items c.pop_back.new.self.items x a.told.bytes a.ring.items a.reported a.lent a.begun a.sent = record { holds = h; split = search rules; may = ap last_may_change c.self.view_is ∙ sym c.last_may_change.ensures ∙ c.if-last_may_change.true } in
    let lies = last_in_ring k in
    let fits = lies.0 in
    let here = ap held c.self.view_is in
    let size = c.self.invariant.4 in
    let all = ring_held h in
    let cut = ap (λ (b : Buffer ℕ). length b.items) c.cut.ensures ∙ length-take (c.len.result - c.span.result) a.ring.items in
    let cut_size = ap (λ (b : Buffer ℕ). b.capacity) c.cut.ensures in
    let ten = ap (λ xs. length xs) c.to_bytes.ensures in
    let head = ap (λ (b : Buffer ℕ). length b.items) c.put.ensures ∙ length-append c.cut.new.self.items c.to_bytes.result in
    let head_size = ap (λ (b : Buffer ℕ). b.capacity) c.put.ensures in
    omega (arith, here, size, all, cut, cut_size, ten, head, head_size, fits, c.len.ensures.len, c.span.ensures, c.saturating_add.ensures, c.saturating_add-length.ensures, c.free.ensures.free, c.free.ensures.held, c.if-length-free.true)

pub put-requires-3 : goal.put-requires-3
put-requires-3 c =
    let a = c.self.inside in
    let h = holding a c.self.invariant in
    let x = c.in-Some.record in
    let k : IsLast a.records.items c.pop_back.new.self.items x a.told.bytes a.ring.items a.reported a.lent a.begun a.sent = record { holds = h; split = search rules; may = ap last_may_change c.self.view_is ∙ sym c.last_may_change.ensures ∙ c.if-last_may_change.true } in
    let lies = last_in_ring k in
    let fits = lies.0 in
    let here = ap held c.self.view_is in
    let size = c.self.invariant.4 in
    let all = ring_held h in
    let cut = ap (λ (b : Buffer ℕ). length b.items) c.cut.ensures ∙ length-take (c.len.result - c.span.result) a.ring.items in
    let cut_size = ap (λ (b : Buffer ℕ). b.capacity) c.cut.ensures in
    let ten = ap (λ xs. length xs) c.to_bytes.ensures in
    let head = ap (λ (b : Buffer ℕ). length b.items) c.put.ensures ∙ length-append c.cut.new.self.items c.to_bytes.result in
    let head_size = ap (λ (b : Buffer ℕ). b.capacity) c.put.ensures in
    let put2 = ap (λ (b : Buffer ℕ). length b.items) c.put-2.ensures ∙ length-append c.put.new.self.items c.args.before.now in
    let put2_size = ap (λ (b : Buffer ℕ). b.capacity) c.put-2.ensures in
    omega (arith, here, size, all, cut, cut_size, ten, head, head_size, fits, c.len.ensures.len, c.span.ensures, c.saturating_add.ensures, c.saturating_add-length.ensures, c.free.ensures.free, c.free.ensures.held, c.if-length-free.true, put2, put2_size)

pub put-requires-4 : goal.put-requires-4
put-requires-4 c =
    let a = c.self.inside in
    let h = holding a c.self.invariant in
    let x = c.in-Some.record in
    let k : IsLast a.records.items c.pop_back.new.self.items x a.told.bytes a.ring.items a.reported a.lent a.begun a.sent = record { holds = h; split = search rules; may = ap last_may_change c.self.view_is ∙ sym c.last_may_change.ensures ∙ c.if-last_may_change.true } in
    let lies = last_in_ring k in
    let fits = lies.0 in
    let here = ap held c.self.view_is in
    let size = c.self.invariant.4 in
    let all = ring_held h in
    let cut = ap (λ (b : Buffer ℕ). length b.items) c.cut.ensures ∙ length-take (c.len.result - c.span.result) a.ring.items in
    let cut_size = ap (λ (b : Buffer ℕ). b.capacity) c.cut.ensures in
    let ten = ap (λ xs. length xs) c.to_bytes.ensures in
    let head = ap (λ (b : Buffer ℕ). length b.items) c.put.ensures ∙ length-append c.cut.new.self.items c.to_bytes.result in
    let head_size = ap (λ (b : Buffer ℕ). b.capacity) c.put.ensures in
    let put2 = ap (λ (b : Buffer ℕ). length b.items) c.put-2.ensures ∙ length-append c.put.new.self.items c.args.before.now in
    let put2_size = ap (λ (b : Buffer ℕ). b.capacity) c.put-2.ensures in
    let put3 = ap (λ (b : Buffer ℕ). length b.items) c.put-3.ensures ∙ length-append c.put-2.new.self.items c.args.payload.now in
    let put3_size = ap (λ (b : Buffer ℕ). b.capacity) c.put-3.ensures in
    omega (arith, here, size, all, cut, cut_size, ten, head, head_size, fits, c.len.ensures.len, c.span.ensures, c.saturating_add.ensures, c.saturating_add-length.ensures, c.free.ensures.free, c.free.ensures.held, c.if-length-free.true, put2, put2_size, put3, put3_size)

pub put_unread-requires : goal.put_unread-requires
put_unread-requires c =
    let a = c.self.inside in
    let h = holding a c.self.invariant in
    let x = c.in-Some.record in
    let k : IsLast a.records.items c.pop_back.new.self.items x a.told.bytes a.ring.items a.reported a.lent a.begun a.sent = record { holds = h; split = search rules; may = ap last_may_change c.self.view_is ∙ sym c.last_may_change.ensures ∙ c.if-last_may_change.true } in
    let lies = last_in_ring k in
    let fits = lies.0 in
    let here = ap held c.self.view_is in
    let size = c.self.invariant.4 in
    let all = ring_held h in
    let cut = ap (λ (b : Buffer ℕ). length b.items) c.cut.ensures ∙ length-take (c.len.result - c.span.result) a.ring.items in
    let cut_size = ap (λ (b : Buffer ℕ). b.capacity) c.cut.ensures in
    let ten = ap (λ xs. length xs) c.to_bytes.ensures in
    let head = ap (λ (b : Buffer ℕ). length b.items) c.put.ensures ∙ length-append c.cut.new.self.items c.to_bytes.result in
    let head_size = ap (λ (b : Buffer ℕ). b.capacity) c.put.ensures in
    let put2 = ap (λ (b : Buffer ℕ). length b.items) c.put-2.ensures ∙ length-append c.put.new.self.items c.args.before.now in
    let put2_size = ap (λ (b : Buffer ℕ). b.capacity) c.put-2.ensures in
    let put3 = ap (λ (b : Buffer ℕ). length b.items) c.put-3.ensures ∙ length-append c.put-2.new.self.items c.args.payload.now in
    let put3_size = ap (λ (b : Buffer ℕ). b.capacity) c.put-3.ensures in
    let put4 = ap (λ (b : Buffer ℕ). length b.items) c.put-4.ensures ∙ length-append c.put-3.new.self.items c.args.after.now in
    let put4_size = ap (λ (b : Buffer ℕ). b.capacity) c.put-4.ensures in
    omega (arith, here, size, all, cut, cut_size, ten, head, head_size, fits, c.len.ensures.len, c.span.ensures, c.saturating_add.ensures, c.saturating_add-length.ensures, c.free.ensures.free, c.free.ensures.held, c.if-length-free.true, put2, put2_size, put3, put3_size, put4, put4_size)

pub invariant_of-self-2 : goal.invariant_of-self-2
invariant_of-self-2 c =
    let a = c.self.inside in
    let h = holding a c.self.invariant in
    let x = c.in-Some.record in
    let k : IsLast a.records.items c.pop_back.new.self.items x a.told.bytes a.ring.items a.reported a.lent a.begun a.sent = record { holds = h; split = search rules; may = ap last_may_change c.self.view_is ∙ sym c.last_may_change.ensures ∙ c.if-last_may_change.true } in
    let lies = last_in_ring k in
    let fits = lies.0 in
    let payload = c.args.before.now ++ (c.args.payload.now ++ c.args.after.now) in
    let here = ap held c.self.view_is in
    let all = ring_held h in
    let long = length-append c.args.before.now (c.args.payload.now ++ c.args.after.now) in
    let rest = length-append c.args.payload.now c.args.after.now in
    let total : c.saturating_add-length.result ≡ length payload = omega (arith, long, rest, c.saturating_add.ensures, c.saturating_add-length.ensures, c.free.ensures.free, c.free.ensures.held, c.if-length-free.true) in
    let room : length payload ≤ free (queue_in a.records.items a.told.bytes a.ring.items a.reported a.lent a.begun a.sent) = omega (arith, total, here, c.free.ensures.free, c.if-length-free.true) in
    let may : may_fill (queue_in a.records.items a.told.bytes a.ring.items a.reported a.lent a.begun a.sent) payload ≡ true = both_true _ _ k.may (le-leb _ _ room) in
    let y : Record = record x { header = record x.header { length = c.saturating_add-length.result % 2 ^ 32 }; payload = c.saturating_add-length.result } in
    let y_is : y ≡ record x { header = record x.header { length = length payload % 2 ^ 32 }; payload = length payload } = ap (λ n. record x { header = record x.header { length = n % 2 ^ 32 }; payload = n }) total in
    let unread = c.put_unread.ensures.0 in
    let front = take (length a.ring.items - span x) a.ring.items in
    let cut : c.cut.new.self ≡ buffer front a.ring.capacity = c.cut.ensures ∙ ap (λ n. buffer (take n a.ring.items) a.ring.capacity) (omega (arith, c.len.ensures.len, c.span.ensures)) in
    let head : c.put.new.self ≡ buffer (front ++ header_bytes y.header) a.ring.capacity =
    c.put.ensures ∙ ap (λ (b : Buffer ℕ). buffer (b.items ++ c.to_bytes.result) b.capacity) cut ∙ ap (λ h. buffer (front ++ h) a.ring.capacity) c.to_bytes.ensures in
    let two = put_more front (header_bytes y.header) c.args.before.now head c.put-2.ensures in
    let three = put_more front (header_bytes y.header ++ c.args.before.now) c.args.payload.now two c.put-3.ensures in
    let four = put_more front ((header_bytes y.header ++ c.args.before.now) ++ c.args.payload.now) c.args.after.now three c.put-4.ensures in
    let wide : c.put_unread.new.self ≡ buffer (front ++ (header_bytes y.header ++ (payload ++ unread))) a.ring.capacity =
    put_more front (((header_bytes y.header ++ c.args.before.now) ++ c.args.payload.now) ++ c.args.after.now) unread four c.put_unread.ensures.2
    ∙ ap (λ xs. buffer (front ++ xs) a.ring.capacity) (three_parts (header_bytes y.header) c.args.before.now c.args.payload.now c.args.after.now unread) in
    let holds : Holds c.push_back_reserved.new.self.items a.told.bytes (front ++ (header_bytes y.header ++ (payload ++ unread))) a.reported a.lent a.begun a.sent =
    subst (λ ks. Holds ks a.told.bytes (front ++ (header_bytes y.header ++ (payload ++ unread))) a.reported a.lent a.begun a.sent) (sym c.push_back_reserved.ensures.items)
    (refilled_holds k payload unread (front ++ (header_bytes y.header ++ (payload ++ unread))) y refl y_is c.put_unread.ensures.1 may (omega (arith, total, here, all, c.free.ensures.free, c.free.ensures.held, c.if-length-free.true))) in
    rebuilt holds wide c.self.invariant.4

pub returns-in-Some-clause-filled : goal.returns-in-Some-clause-filled
returns-in-Some-clause-filled c =
    let a = c.self.inside in
    let h = holding a c.self.invariant in
    let x = c.in-Some.record in
    let k : IsLast a.records.items c.pop_back.new.self.items x a.told.bytes a.ring.items a.reported a.lent a.begun a.sent = record { holds = h; split = search rules; may = ap last_may_change c.self.view_is ∙ sym c.last_may_change.ensures ∙ c.if-last_may_change.true } in
    let lies = last_in_ring k in
    let fits = lies.0 in
    let payload = c.args.before.now ++ (c.args.payload.now ++ c.args.after.now) in
    let here = ap held c.self.view_is in
    let all = ring_held h in
    let long = length-append c.args.before.now (c.args.payload.now ++ c.args.after.now) in
    let rest = length-append c.args.payload.now c.args.after.now in
    let total : c.saturating_add-length.result ≡ length payload = omega (arith, long, rest, c.saturating_add.ensures, c.saturating_add-length.ensures, c.free.ensures.free, c.free.ensures.held, c.if-length-free.true) in
    let room : length payload ≤ free (queue_in a.records.items a.told.bytes a.ring.items a.reported a.lent a.begun a.sent) = omega (arith, total, here, c.free.ensures.free, c.if-length-free.true) in
    let may : may_fill (queue_in a.records.items a.told.bytes a.ring.items a.reported a.lent a.begun a.sent) payload ≡ true = both_true _ _ k.may (le-leb _ _ room) in
    let y : Record = record x { header = record x.header { length = c.saturating_add-length.result % 2 ^ 32 }; payload = c.saturating_add-length.result } in
    let y_is : y ≡ record x { header = record x.header { length = length payload % 2 ^ 32 }; payload = length payload } = ap (λ n. record x { header = record x.header { length = n % 2 ^ 32 }; payload = n }) total in
    let unread = c.put_unread.ensures.0 in
    let front = take (length a.ring.items - span x) a.ring.items in
    let cut : c.cut.new.self ≡ buffer front a.ring.capacity = c.cut.ensures ∙ ap (λ n. buffer (take n a.ring.items) a.ring.capacity) (omega (arith, c.len.ensures.len, c.span.ensures)) in
    let head : c.put.new.self ≡ buffer (front ++ header_bytes y.header) a.ring.capacity =
    c.put.ensures ∙ ap (λ (b : Buffer ℕ). buffer (b.items ++ c.to_bytes.result) b.capacity) cut ∙ ap (λ h. buffer (front ++ h) a.ring.capacity) c.to_bytes.ensures in
    let two = put_more front (header_bytes y.header) c.args.before.now head c.put-2.ensures in
    let three = put_more front (header_bytes y.header ++ c.args.before.now) c.args.payload.now two c.put-3.ensures in
    let four = put_more front ((header_bytes y.header ++ c.args.before.now) ++ c.args.payload.now) c.args.after.now three c.put-4.ensures in
    let wide : c.put_unread.new.self ≡ buffer (front ++ (header_bytes y.header ++ (payload ++ unread))) a.ring.capacity =
    put_more front (((header_bytes y.header ++ c.args.before.now) ++ c.args.payload.now) ++ c.args.after.now) unread four c.put_unread.ensures.2
    ∙ ap (λ xs. buffer (front ++ xs) a.ring.capacity) (three_parts (header_bytes y.header) c.args.before.now c.args.payload.now c.args.after.now unread) in
    ap (λ ks. queue_in ks a.told.bytes c.put_unread.new.self.items a.reported a.lent a.begun a.sent) c.push_back_reserved.ensures.items
    ∙ refilled_view k payload unread c.put_unread.new.self.items y (ap (λ (b : Buffer ℕ). b.items) wide) y_is c.put_unread.ensures.1 may
    ∙ ap (λ q. filled q payload) c.self.view_is

pub returns-in-Some-clause-valid : goal.returns-in-Some-clause-valid
returns-in-Some-clause-valid c =
    let a = c.self.inside in
    let h = holding a c.self.invariant in
    let x = c.in-Some.record in
    let k : IsLast a.records.items c.pop_back.new.self.items x a.told.bytes a.ring.items a.reported a.lent a.begun a.sent = record { holds = h; split = search rules; may = ap last_may_change c.self.view_is ∙ sym c.last_may_change.ensures ∙ c.if-last_may_change.true } in
    let lies = last_in_ring k in
    let fits = lies.0 in
    let payload = c.args.before.now ++ (c.args.payload.now ++ c.args.after.now) in
    let here = ap held c.self.view_is in
    let all = ring_held h in
    let long = length-append c.args.before.now (c.args.payload.now ++ c.args.after.now) in
    let rest = length-append c.args.payload.now c.args.after.now in
    let total : c.saturating_add-length.result ≡ length payload = omega (arith, long, rest, c.saturating_add.ensures, c.saturating_add-length.ensures, c.free.ensures.free, c.free.ensures.held, c.if-length-free.true) in
    let room : length payload ≤ free (queue_in a.records.items a.told.bytes a.ring.items a.reported a.lent a.begun a.sent) = omega (arith, total, here, c.free.ensures.free, c.if-length-free.true) in
    let may : may_fill (queue_in a.records.items a.told.bytes a.ring.items a.reported a.lent a.begun a.sent) payload ≡ true = both_true _ _ k.may (le-leb _ _ room) in
    let y : Record = record x { header = record x.header { length = c.saturating_add-length.result % 2 ^ 32 }; payload = c.saturating_add-length.result } in
    let y_is : y ≡ record x { header = record x.header { length = length payload % 2 ^ 32 }; payload = length payload } = ap (λ n. record x { header = record x.header { length = n % 2 ^ 32 }; payload = n }) total in
    let unread = c.put_unread.ensures.0 in
    let front = take (length a.ring.items - span x) a.ring.items in
    let cut : c.cut.new.self ≡ buffer front a.ring.capacity = c.cut.ensures ∙ ap (λ n. buffer (take n a.ring.items) a.ring.capacity) (omega (arith, c.len.ensures.len, c.span.ensures)) in
    let head : c.put.new.self ≡ buffer (front ++ header_bytes y.header) a.ring.capacity =
    c.put.ensures ∙ ap (λ (b : Buffer ℕ). buffer (b.items ++ c.to_bytes.result) b.capacity) cut ∙ ap (λ h. buffer (front ++ h) a.ring.capacity) c.to_bytes.ensures in
    let two = put_more front (header_bytes y.header) c.args.before.now head c.put-2.ensures in
    let three = put_more front (header_bytes y.header ++ c.args.before.now) c.args.payload.now two c.put-3.ensures in
    let four = put_more front ((header_bytes y.header ++ c.args.before.now) ++ c.args.payload.now) c.args.after.now three c.put-4.ensures in
    let wide : c.put_unread.new.self ≡ buffer (front ++ (header_bytes y.header ++ (payload ++ unread))) a.ring.capacity =
    put_more front (((header_bytes y.header ++ c.args.before.now) ++ c.args.payload.now) ++ c.args.after.now) unread four c.put_unread.ensures.2
    ∙ ap (λ xs. buffer (front ++ xs) a.ring.capacity) (three_parts (header_bytes y.header) c.args.before.now c.args.payload.now c.args.after.now unread) in
    let holds : Holds c.push_back_reserved.new.self.items a.told.bytes (front ++ (header_bytes y.header ++ (payload ++ unread))) a.reported a.lent a.begun a.sent =
    subst (λ ks. Holds ks a.told.bytes (front ++ (header_bytes y.header ++ (payload ++ unread))) a.reported a.lent a.begun a.sent) (sym c.push_back_reserved.ensures.items)
    (refilled_holds k payload unread (front ++ (header_bytes y.header ++ (payload ++ unread))) y refl y_is c.put_unread.ensures.1 may (omega (arith, total, here, all, c.free.ensures.free, c.free.ensures.held, c.if-length-free.true))) in
    (rebuilt holds wide c.self.invariant.4).0

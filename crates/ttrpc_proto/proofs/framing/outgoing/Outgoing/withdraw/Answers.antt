use Rattle.std.proofs.Common.{rules, ◌≡◌, ◌-◌, ◌∙◌, ℕ, length, take, arith, ap, sym}
use Rattle.circular_buffer.specs.Buffer.{Buffer, buffer}
use Rattle.ttrpc_proto.specs.Framing.Laid.{span}
use Rattle.ttrpc_proto.specs.Framing.Queue.{last_may_change, withdrawn}
use Rattle.ttrpc_proto.proofs.Laying.{IsLast, cut_holds, cut_view, holding, last_in_ring, queue_in, rebuilt}
use Rattle.ttrpc_proto.proofs.framing.outgoing.Outgoing.withdraw.Goals as goal

pub span-requires : goal.span-requires
span-requires c =
    let a = c.self.inside in
    let h = holding a c.self.invariant in
    let k : IsLast a.records.items c.pop_back.new.self.items c.in-Some.record a.told.bytes a.ring.items a.reported a.lent a.begun a.sent = record { holds = h; split = search rules; may = ap last_may_change c.self.view_is ∙ sym c.last_may_change.ensures ∙ c.if-last_may_change.true } in
    let fits = (last_in_ring k).0 in
    omega (arith, fits, h.few)

pub overflow_sub-len : goal.overflow_sub-len
overflow_sub-len c =
    let a = c.self.inside in
    let h = holding a c.self.invariant in
    let k : IsLast a.records.items c.pop_back.new.self.items c.in-Some.record a.told.bytes a.ring.items a.reported a.lent a.begun a.sent = record { holds = h; split = search rules; may = ap last_may_change c.self.view_is ∙ sym c.last_may_change.ensures ∙ c.if-last_may_change.true } in
    let fits = (last_in_ring k).0 in
    omega (arith, fits, c.len.ensures.len, c.span.ensures)

pub invariant_of-self-2 : goal.invariant_of-self-2
invariant_of-self-2 c =
    let a = c.self.inside in
    let h = holding a c.self.invariant in
    let k : IsLast a.records.items c.pop_back.new.self.items c.in-Some.record a.told.bytes a.ring.items a.reported a.lent a.begun a.sent = record { holds = h; split = search rules; may = ap last_may_change c.self.view_is ∙ sym c.last_may_change.ensures ∙ c.if-last_may_change.true } in
    let count : c.len.result - c.span.result ≡ length a.ring.items - span c.in-Some.record = omega (arith, c.len.ensures.len, c.span.ensures) in
    rebuilt (cut_holds k) (c.cut.ensures ∙ ap (λ n. buffer (take n a.ring.items) a.ring.capacity) count) c.self.invariant.4

pub returns-in-Some-clause-withdrawn : goal.returns-in-Some-clause-withdrawn
returns-in-Some-clause-withdrawn c =
    let a = c.self.inside in
    let h = holding a c.self.invariant in
    let k : IsLast a.records.items c.pop_back.new.self.items c.in-Some.record a.told.bytes a.ring.items a.reported a.lent a.begun a.sent = record { holds = h; split = search rules; may = ap last_may_change c.self.view_is ∙ sym c.last_may_change.ensures ∙ c.if-last_may_change.true } in
    let count : c.len.result - c.span.result ≡ length a.ring.items - span c.in-Some.record = omega (arith, c.len.ensures.len, c.span.ensures) in
    ap (λ (ring : Buffer ℕ). queue_in c.pop_back.new.self.items a.told.bytes ring.items a.reported a.lent a.begun a.sent) (c.cut.ensures ∙ ap (λ n. buffer (take n a.ring.items) a.ring.capacity) count)
    ∙ cut_view k ∙ ap withdrawn c.self.view_is

pub returns-in-Some-clause-valid : goal.returns-in-Some-clause-valid
returns-in-Some-clause-valid c =
    let a = c.self.inside in
    let h = holding a c.self.invariant in
    let k : IsLast a.records.items c.pop_back.new.self.items c.in-Some.record a.told.bytes a.ring.items a.reported a.lent a.begun a.sent = record { holds = h; split = search rules; may = ap last_may_change c.self.view_is ∙ sym c.last_may_change.ensures ∙ c.if-last_may_change.true } in
    let count : c.len.result - c.span.result ≡ length a.ring.items - span c.in-Some.record = omega (arith, c.len.ensures.len, c.span.ensures) in
    (rebuilt (cut_holds k) (c.cut.ensures ∙ ap (λ n. buffer (take n a.ring.items) a.ring.capacity) count) c.self.invariant.4).0

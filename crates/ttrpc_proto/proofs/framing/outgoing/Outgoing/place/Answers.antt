use Rattle.std.proofs.Common.{◌≡◌, ◌++◌, ◌∙◌, ℕ, length, arith, refl, ap, length-append}
use Rattle.circular_buffer.specs.Buffer.{Buffer, buffer}
use Rattle.ttrpc_proto.specs.declared.framing.record.Record.{Record}
use Rattle.ttrpc_proto.specs.Framing.Header.{header_bytes}
use Rattle.ttrpc_proto.specs.Framing.Queue.{held, with_frame}
use Rattle.ttrpc_proto.proofs.Laying.{frame_record, holding, placed_holds, placed_view, put_more, rebuilt, ring_held}
use Rattle.ttrpc_proto.proofs.framing.outgoing.Outgoing.place.Goals as goal

pub put-requires : goal.put-requires
put-requires c =
    let a = c.self.inside in
    let here = ap held c.self.view_is in
    let size = c.self.invariant.4 in
    let ten = ap (λ xs. length xs) c.to_bytes.ensures in
    omega (arith, here, size, ten, ring_held (holding a c.self.invariant), c.free-free.ensures.free, c.free-free.ensures.held, c.if-free-length.false)

pub put-requires-2 : goal.put-requires-2
put-requires-2 c =
    let a = c.self.inside in
    let here = ap held c.self.view_is in
    let size = c.self.invariant.4 in
    let ten = ap (λ xs. length xs) c.to_bytes.ensures in
    let put = ap (λ (b : Buffer ℕ). length b.items) c.put.ensures ∙ length-append a.ring.items c.to_bytes.result in
    let same = ap (λ (b : Buffer ℕ). b.capacity) c.put.ensures in
    omega (arith, here, size, ten, put, same, ring_held (holding a c.self.invariant), c.free-free.ensures.free, c.free-free.ensures.held, c.if-free-length.false)

pub invariant_of-self-2 : goal.invariant_of-self-2
invariant_of-self-2 c =
    let a = c.self.inside in
    let f = c.args.frame in
    let x : Record = record { header = f.message.header; ticket = f.ticket; is_unary_request = f.is_unary_request; owner = f.owner; payload = length c.as_slice-payload.result.now; gone = 0 } in
    let x_is : x ≡ frame_record f = ap (λ xs. let x : Record = record { header = f.message.header; ticket = f.ticket; is_unary_request = f.is_unary_request; owner = f.owner; payload = length xs; gone = 0 } in x) c.as_slice-payload.ensures in
    let wide : c.put-2.new.self ≡ buffer (a.ring.items ++ (header_bytes f.message.header ++ f.message.payload)) a.ring.capacity =
    put_more a.ring.items c.to_bytes.result c.as_slice-payload.result.now c.put.ensures c.put-2.ensures ∙ ap (λ h. buffer (a.ring.items ++ (h ++ c.as_slice-payload.result.now)) a.ring.capacity) c.to_bytes.ensures ∙ ap (λ p. buffer (a.ring.items ++ (header_bytes f.message.header ++ p)) a.ring.capacity) c.as_slice-payload.ensures in
    let here = ap held c.self.view_is in
    let size = ap (λ xs. length xs) c.as_slice-payload.ensures in
    rebuilt (placed_holds (holding a c.self.invariant) f x c.push_back.new.self.items (a.ring.items ++ (header_bytes f.message.header ++ f.message.payload)) c.in_ok-push_back.ensures.items x_is refl (omega (arith, here, size, ring_held (holding a c.self.invariant), c.free-free.ensures.free, c.free-free.ensures.held, c.if-free-length.false)))
    wide c.self.invariant.4

pub returns-clause-ok : goal.returns-clause-ok
returns-clause-ok c =
    let a = c.self.inside in
    let f = c.args.frame in
    let x : Record = record { header = f.message.header; ticket = f.ticket; is_unary_request = f.is_unary_request; owner = f.owner; payload = length c.as_slice-payload.result.now; gone = 0 } in
    let x_is : x ≡ frame_record f = ap (λ xs. let x : Record = record { header = f.message.header; ticket = f.ticket; is_unary_request = f.is_unary_request; owner = f.owner; payload = length xs; gone = 0 } in x) c.as_slice-payload.ensures in
    let wide : c.put-2.new.self ≡ buffer (a.ring.items ++ (header_bytes f.message.header ++ f.message.payload)) a.ring.capacity =
    put_more a.ring.items c.to_bytes.result c.as_slice-payload.result.now c.put.ensures c.put-2.ensures ∙ ap (λ h. buffer (a.ring.items ++ (h ++ c.as_slice-payload.result.now)) a.ring.capacity) c.to_bytes.ensures ∙ ap (λ p. buffer (a.ring.items ++ (header_bytes f.message.header ++ p)) a.ring.capacity) c.as_slice-payload.ensures in
    placed_view (holding a c.self.invariant) f x c.push_back.new.self.items c.put-2.new.self.items c.in_ok-push_back.ensures.items x_is (ap (λ (b : Buffer ℕ). b.items) wide)
    ∙ ap (λ q. with_frame q f) c.self.view_is

pub returns-clause-valid : goal.returns-clause-valid
returns-clause-valid c =
    let a = c.self.inside in
    let f = c.args.frame in
    let x : Record = record { header = f.message.header; ticket = f.ticket; is_unary_request = f.is_unary_request; owner = f.owner; payload = length c.as_slice-payload.result.now; gone = 0 } in
    let x_is : x ≡ frame_record f = ap (λ xs. let x : Record = record { header = f.message.header; ticket = f.ticket; is_unary_request = f.is_unary_request; owner = f.owner; payload = length xs; gone = 0 } in x) c.as_slice-payload.ensures in
    let wide : c.put-2.new.self ≡ buffer (a.ring.items ++ (header_bytes f.message.header ++ f.message.payload)) a.ring.capacity =
    put_more a.ring.items c.to_bytes.result c.as_slice-payload.result.now c.put.ensures c.put-2.ensures ∙ ap (λ h. buffer (a.ring.items ++ (h ++ c.as_slice-payload.result.now)) a.ring.capacity) c.to_bytes.ensures ∙ ap (λ p. buffer (a.ring.items ++ (header_bytes f.message.header ++ p)) a.ring.capacity) c.as_slice-payload.ensures in
    let here = ap held c.self.view_is in
    let size = ap (λ xs. length xs) c.as_slice-payload.ensures in
    (rebuilt (placed_holds (holding a c.self.invariant) f x c.push_back.new.self.items (a.ring.items ++ (header_bytes f.message.header ++ f.message.payload)) c.in_ok-push_back.ensures.items x_is refl (omega (arith, here, size, ring_held (holding a c.self.invariant), c.free-free.ensures.free, c.free-free.ensures.held, c.if-free-length.false)))
    wide c.self.invariant.4).0

use Rattle.std.proofs.Common.{◌∙◌, length, refl, arith, ap}
use Rattle.ttrpc_proto.specs.Framing.Queue.{Queue, open_part}
use Rattle.ttrpc_proto.proofs.Laying.{front_open, holding}
use Rattle.ttrpc_proto.proofs.framing.outgoing.Outgoing.open_len.Goals as goal

pub overflow_add-result : goal.overflow_add-result
overflow_add-result c =
    let full = c.self.inside.records.ok in
    let some = c.in-Some.ensures.variant.0 refl in
    let small = (front_open (holding c.self.inside c.self.invariant) c.in-Some.record.now (omega arith) c.in-Some.ensures.lookup).0 in
    omega (arith, small)

pub overflow_sub-result : goal.overflow_sub-result
overflow_sub-result c =
    let full = c.self.inside.records.ok in
    let some = c.in-Some.ensures.variant.0 refl in
    let less = (front_open (holding c.self.inside c.self.invariant) c.in-Some.record.now (omega arith) c.in-Some.ensures.lookup).1 in
    omega (arith, less)

pub returns-in-Some : goal.returns-in-Some
returns-in-Some c =
    let full = c.self.inside.records.ok in
    let some = c.in-Some.ensures.variant.0 refl in
    (front_open (holding c.self.inside c.self.invariant) c.in-Some.record.now (omega arith) c.in-Some.ensures.lookup).2
    ∙ ap (λ (q : Queue). length (open_part q)) c.self.view_is

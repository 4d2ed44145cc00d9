use Rattle.std.proofs.Common.{◌-◌, ◌∙◌, length, arith, sym, ap}
use Rattle.ttrpc_proto.specs.Framing.Queue.{free, held}
use Rattle.ttrpc_proto.proofs.Laying.{holding, ring_held}
use Rattle.ttrpc_proto.proofs.framing.outgoing.Outgoing.free.Goals as goal

pub returns-clause-free : goal.returns-clause-free
returns-clause-free c =
    let a = c.self.inside in
    c.free.ensures.free ∙ ap (λ n. n - length a.ring.items) c.self.invariant.4 ∙ ap (λ n. 8388628 - n) (sym (ring_held (holding a c.self.invariant))) ∙ ap free c.self.view_is

pub returns-clause-held : goal.returns-clause-held
returns-clause-held c =
    let a = c.self.inside in
    let same = ap held c.self.view_is in
    omega (arith, same, ring_held (holding a c.self.invariant), c.self.invariant.3)

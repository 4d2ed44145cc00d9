use Rattle.std.proofs.Common.{rules, refl}
use Rattle.ttrpc_proto.proofs.Decoding.{at_start, is_held, not_at_start}
use Rattle.ttrpc_proto.proofs.framing.frame.FrameDecoder.at_boundary.Goals as goal

pub returns-clause-nothing : goal.returns-clause-nothing
returns-clause-nothing c = rw (← c.self.view_is) (λ e. at_start _ _ _ _ c.self.invariant (search (rules, e)), λ e. let z = not_at_start _ _ _ _ c.self.invariant e in rw z refl)

pub returns-clause-held : goal.returns-clause-held
returns-clause-held c = rw (← c.self.view_is) (is_held _ _ _ _ c.self.invariant)

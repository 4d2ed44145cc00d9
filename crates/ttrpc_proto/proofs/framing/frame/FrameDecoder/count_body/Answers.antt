use Rattle.std.proofs.Common.{◌≤◌, length, sym, subst, ap, ◌∙◌}
use Rattle.ttrpc_proto.specs.Framing.Header.{header_of}
use Rattle.ttrpc_proto.specs.Framing.Frames.{Held}
use Rattle.ttrpc_proto.proofs.Decoding.{count_stays, count_ends}
use Rattle.ttrpc_proto.proofs.framing.frame.FrameDecoder.count_body.Goals as goal

pub returns-then-piece-missing-clause-frames : goal.returns-then-piece-missing-clause-frames
returns-then-piece-missing-clause-frames c =
    let long = subst (λ (x : Held). 10 ≤ length x.bytes) (sym c.self.view_is) c.requires.whole in
    let e = c.requires.header ∙ ap (λ (x : Held). header_of x.bytes) (sym c.self.view_is) in
    rw (← c.self.view_is) (count_stays _ _ _ _ _ _ c.self.invariant long e c.requires.long c.if-piece-missing.true)

pub returns-clause-frames : goal.returns-clause-frames
returns-clause-frames c =
    let long = subst (λ (x : Held). 10 ≤ length x.bytes) (sym c.self.view_is) c.requires.whole in
    let e = c.requires.header ∙ ap (λ (x : Held). header_of x.bytes) (sym c.self.view_is) in
    rw (← c.self.view_is) (count_ends _ _ _ _ _ _ c.self.invariant long e c.requires.long c.if-piece-missing.false)

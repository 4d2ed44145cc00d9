use Rattle.std.proofs.Common.{arith, ◌≤◌, length, sym, subst, ap, ◌∙◌}
use Rattle.std.proofs.lemmas.List.{length-take-le}
use Rattle.ttrpc_proto.specs.Framing.Header.{header_of}
use Rattle.ttrpc_proto.specs.Framing.Frames.{Held}
use Rattle.ttrpc_proto.proofs.Decoding.{body_stays, body_ends}
use Rattle.ttrpc_proto.proofs.framing.frame.FrameDecoder.take_body.Goals as goal

pub returns-then-count-missing-clause-frames : goal.returns-then-count-missing-clause-frames
returns-then-count-missing-clause-frames c =
    let long = subst (λ (x : Held). 10 ≤ length x.bytes) (sym c.self.view_is) c.requires.whole in
    let e = c.requires.header ∙ ap (λ (x : Held). header_of x.bytes) (sym c.self.view_is) in
    let n = length-take-le c.min-count.result c.args.piece.now (omega (arith, c.min-count.ensures)) in
    rw (← c.self.view_is, c.in_ok-append.ensures.ok) (body_stays _ _ _ _ _ _ c.self.invariant long e c.requires.short (omega (arith, n, c.len.ensures, c.if-count-missing.true)))

pub returns-clause-frames : goal.returns-clause-frames
returns-clause-frames c =
    let long = subst (λ (x : Held). 10 ≤ length x.bytes) (sym c.self.view_is) c.requires.whole in
    let e = c.requires.header ∙ ap (λ (x : Held). header_of x.bytes) (sym c.self.view_is) in
    let n = length-take-le c.min-count.result c.args.piece.now (omega (arith, c.min-count.ensures)) in
    rw (← c.self.view_is, c.from_vec-payload.ensures, c.replace.ensures.value, c.replace.ensures.after, c.new.ensures.items, c.in_ok-append.ensures.ok) (body_ends _ _ _ _ _ _ c.self.invariant long e c.requires.short (omega (arith, n, c.len.ensures, c.min-count.ensures, c.if-count-missing.false)))

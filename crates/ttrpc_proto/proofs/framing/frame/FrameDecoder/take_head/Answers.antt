use Rattle.std.proofs.Common.{◌<◌, length, sym, subst, arith}
use Rattle.std.proofs.lemmas.List.{length-take-le}
use Rattle.ttrpc_proto.specs.declared.framing.header.MessageHeader.{MessageHeader}
use Rattle.ttrpc_proto.specs.Framing.Frames.{Held}
use Rattle.ttrpc_proto.proofs.Decoding.{head_stays, head_ends}
use Rattle.ttrpc_proto.proofs.framing.frame.FrameDecoder.take_head.Goals as goal

pub returns-then-self-lt-MESSAGE_HEADER_LENGTH-clause-frames :
    goal.returns-then-self-lt-MESSAGE_HEADER_LENGTH-clause-frames
returns-then-self-lt-MESSAGE_HEADER_LENGTH-clause-frames c =
    let short = subst (λ (x : Held). length x.bytes < 10) (sym c.self.view_is) c.requires in
    let count = c.fill-count.ensures.count in
    let n = length-take-le c.fill-count.result c.args.piece.now (omega (arith, count)) in
    let less = c.if-self-lt-MESSAGE_HEADER_LENGTH.true in
    rw (← c.self.view_is) (head_stays _ _ _ _ _ _ _ c.self.invariant short n c.fill-count.ensures.size c.fill-count.ensures.front (omega (arith, less)) (λ long. omega (arith, less, long)))

pub returns-then-header-ne0-clause-frames : goal.returns-then-header-ne0-clause-frames
returns-then-header-ne0-clause-frames c =
    let short = subst (λ (x : Held). length x.bytes < 10) (sym c.self.view_is) c.requires in
    let count = c.fill-count.ensures.count in
    let n = length-take-le c.fill-count.result c.args.piece.now (omega (arith, count)) in
    let some : 0 < c.from-header.result.length = omega (arith, c.if-header-ne0.true) in
    let more = subst (λ (x : MessageHeader). 0 < x.length) c.from-header.ensures some in
    rw (← c.self.view_is) (head_stays _ _ _ _ _ _ _ c.self.invariant short n c.fill-count.ensures.size c.fill-count.ensures.front (omega (arith, count, c.self.invariant.filled_fits)) (λ long. more))

pub returns-clause-frames : goal.returns-clause-frames
returns-clause-frames c =
    let short = subst (λ (x : Held). length x.bytes < 10) (sym c.self.view_is) c.requires in
    let count = c.fill-count.ensures.count in
    let n = length-take-le c.fill-count.result c.args.piece.now (omega (arith, count)) in
    rw (← c.self.view_is, c.new-payload.ensures) (head_ends _ _ _ _ _ _ _ _ c.self.invariant short n c.fill-count.ensures.size c.fill-count.ensures.front c.if-self-lt-MESSAGE_HEADER_LENGTH.false c.from-header.ensures c.if-header-ne0.false)

use Rattle.std.proofs.Common.{arith}
use Rattle.ttrpc_proto.proofs.Cuts.{cut_early, cut_late}
use Rattle.ttrpc_proto.proofs.framing.frame.FrameDecoder.cut.Goals as goal

pub returns-then-self-lt-MESSAGE_HEADER_LENGTH : goal.returns-then-self-lt-MESSAGE_HEADER_LENGTH
returns-then-self-lt-MESSAGE_HEADER_LENGTH c = rw (← c.self.view_is) (cut_early _ _ _ _ c.self.invariant c.if-self-lt-MESSAGE_HEADER_LENGTH.true)

pub returns-then-header-le-MESSAGE_LENGTH_MAX : goal.returns-then-header-le-MESSAGE_LENGTH_MAX
returns-then-header-le-MESSAGE_LENGTH_MAX c = rw (← c.self.view_is) (cut_late _ _ _ _ _ _ c.self.invariant c.if-self-lt-MESSAGE_HEADER_LENGTH.false c.from-header.ensures c.if-header-le-MESSAGE_LENGTH_MAX.true (omega (arith, c.len.ensures)))

use Rattle.ttrpc_polled_frames.proofs.Pieces.{tells_later}
use Rattle.ttrpc_polled_frames.proofs.reads.PollReadFuture.poll.Goals as goal

pub returns-in-Pending-clause-same : goal.returns-in-Pending-clause-same
returns-in-Pending-clause-same g c r later =
    tells_later g.S.AsyncRead.reads g.met.S.AsyncRead.reads_in_order g.S.AsyncRead.is_at_end g.S.AsyncRead.fails g.T.Tells.tells _ _ _ _ r c.in-Pending.ensures.goes_on later

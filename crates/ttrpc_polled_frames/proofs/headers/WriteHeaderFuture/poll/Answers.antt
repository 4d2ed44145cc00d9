use Rattle.ttrpc_polled_frames.specs.Writing.{FailsToFlush}
use Rattle.ttrpc_polled_frames.proofs.Parts.{ends_later, if_pending}
use Rattle.ttrpc_polled_frames.proofs.headers.WriteHeaderFuture.poll.Goals as goal

pub returns-clause-same : goal.returns-clause-same
returns-clause-same g c =
    if_pending c.poll_flushed.result _ (λ r later. ends_later g.W.AsyncWrite.writes g.met.W.AsyncWrite.writes_in_order g.W.AsyncWrite.is_flushed (FailsToFlush g.W.AsyncWrite.fails g.W.AsyncWrite.is_full) _ _ _ _ r c.poll_flushed.ensures.writes later)

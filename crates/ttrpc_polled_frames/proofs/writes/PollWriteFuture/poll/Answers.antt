use Rattle.std.proofs.Common.{rules}
use Rattle.ttrpc_polled_frames.specs.Writing.{TellsOrZero}
use Rattle.ttrpc_polled_frames.proofs.Parts.{ends_failed, ends_later}
use Rattle.ttrpc_polled_frames.proofs.writes.PollWriteFuture.poll.Goals as goal

pub returns-in-Pending-clause-same : goal.returns-in-Pending-clause-same
returns-in-Pending-clause-same g c r later =
    ends_later g.W.AsyncWrite.writes g.met.W.AsyncWrite.writes_in_order (λ _. Unit {0}) (TellsOrZero g.W.AsyncWrite.fails g.W.AsyncWrite.is_full) _ _ _ _ r c.in-Pending.ensures.writes later

pub returns-in-Ready-Err-clause-value : goal.returns-in-Ready-Err-clause-value
returns-in-Ready-Err-clause-value g c =
    ends_failed g.W.AsyncWrite.writes (λ _. Unit {0}) (TellsOrZero g.W.AsyncWrite.fails g.W.AsyncWrite.is_full) _ _ _ _ _ c.in-Ready-Err.ensures.writes
    (c.in-Ready-Err.error, search rules, c.write_error.ensures.told, c.write_error.ensures.zero)

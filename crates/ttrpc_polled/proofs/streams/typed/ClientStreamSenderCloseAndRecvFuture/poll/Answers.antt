use Rattle.std.proofs.Common.{Err, refl}
use Rattle.ttrpc_polled.proofs.streams.typed.ClientStreamSenderCloseAndRecvFuture.poll.Goals as goal

pub returns-in-Ready-Err-clause-value : goal.returns-in-Ready-Err-clause-value
returns-in-Ready-Err-clause-value g c = (Err c.in-Ready-Err.refusal, refl)

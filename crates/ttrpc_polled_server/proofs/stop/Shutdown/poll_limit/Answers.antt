use Rattle.std.proofs.Common.{refl}
use Rattle.ttrpc_polled_server.proofs.stop.Shutdown.poll_limit.Goals as goal

pub returns-in-Pending-clause-waits : goal.returns-in-Pending-clause-waits
returns-in-Pending-clause-waits c = (c.poll_limit.new.self, refl, c.in-Pending.ensures.registered)

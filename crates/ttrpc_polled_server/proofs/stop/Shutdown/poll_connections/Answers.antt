use Rattle.std.proofs.Common.{refl}
use Rattle.ttrpc_polled_server.proofs.stop.Shutdown.poll_connections.Goals as goal

pub returns-in-Pending-clause-goes_on : goal.returns-in-Pending-clause-goes_on
returns-in-Pending-clause-goes_on c = (c.poll.new.self, refl)

use Rattle.ttrpc_server.proofs.Taking.{at_most}
use Rattle.ttrpc_sync_server.proofs.connection.ports.server.ServerHeld.take_on.Goals as goal

pub returns-clause-bound : goal.returns-clause-bound
returns-clause-bound g c = at_most _ _ _ _ _ _ _ _ c.feed.ensures

use Rattle.ttrpc_server.proofs.Names.{stored_service}
use Rattle.ttrpc_server.proofs.registry.Names.knows.Goals as goal

pub returns : goal.returns
returns c = rw (← c.self.view_is, stored_service c.args.service.now c.self.inside.services.entries) c.contains_key.ensures

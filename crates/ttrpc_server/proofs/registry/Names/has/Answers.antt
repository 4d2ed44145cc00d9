use Rattle.ttrpc_server.proofs.Names.{stored}
use Rattle.ttrpc_server.proofs.registry.Names.has.Goals as goal

pub returns-in-Some : goal.returns-in-Some
returns-in-Some c = rw (← c.self.view_is, stored c.args.service.now c.args.name.now c.self.inside.services.entries, ← c.get.ensures.value, c.in-Some.is) c.contains.ensures

pub returns-in-None : goal.returns-in-None
returns-in-None c = rw (← c.self.view_is, stored c.args.service.now c.args.name.now c.self.inside.services.entries, ← c.get.ensures.value, c.in-None.is)

use Rattle.ttrpc_server.proofs.Handlers.{handler_found}
use Rattle.ttrpc_server.proofs.methods.Methods.get.Goals as goal

pub returns-in_err-get : goal.returns-in_err-get
returns-in_err-get g c = rw (← c.self.view_is, handler_found c.args.service.now c.args.method.now c.self.inside.services.entries, ← c.get.ensures.value, c.in_err-get.was, c.from_residual.ensures)

pub returns : goal.returns
returns g c = rw (← c.self.view_is, handler_found c.args.service.now c.args.method.now c.self.inside.services.entries, ← c.get.ensures.value, c.in_ok-get.was) c.get-2.ensures.value

use Rattle.std.proofs.Common.{rules, ◌≡◌, map}
use Rattle.std.specs.Map.Iter.{deref_pair}
use Rattle.std.proofs.lemmas.Map.Iter.{iter_end}
use Rattle.ttrpc_server.proofs.Handlers.{any_handler}
use Rattle.ttrpc_server.proofs.methods.Methods.name_in.Goals as goal

pub returns-clause-names : goal.returns-clause-names
returns-clause-names g c = λ s m.
    let all : map deref_pair c.loop-service.yielded ≡ c.self.inside.services.entries = search (rules, iter_end) in
    rw (← c.self.view_is, ← any_handler s m c.self.inside.services.entries c.iter-service-items.ensures.ordered, ← all) (c.loop-service.invariant.names s m)

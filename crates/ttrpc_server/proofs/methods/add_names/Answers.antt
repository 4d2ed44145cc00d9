use Rattle.std.proofs.Common.{rules, ◌≡◌, map}
use Rattle.std.specs.Map.Iter.{deref_pair}
use Rattle.std.proofs.lemmas.Map.Iter.{iter_end}
use Rattle.ttrpc_server.proofs.Handlers.{any_some}
use Rattle.ttrpc_server.proofs.methods.add_names.Goals as goal

pub returns-clause-names : goal.returns-clause-names
returns-clause-names g c = λ s m.
    let all : map deref_pair c.loop-name.yielded ≡ c.args.names.now.entries = search (rules, iter_end) in
    rw (← any_some m c.args.names.now.entries, ← all) (c.loop-name.invariant.names s m)

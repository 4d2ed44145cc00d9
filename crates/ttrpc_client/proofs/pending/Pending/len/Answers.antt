use Rattle.std.proofs.Common.{arith}
use Rattle.ttrpc_client.proofs.Places.{few_entries}
use Rattle.ttrpc_client.proofs.pending.Pending.len.Goals as goal

pub returns-clause-small : goal.returns-clause-small
returns-clause-small g c =
    let few = few_entries c.self.inside.places.items in
    let count = c.self.invariant.1 in
    let small = c.self.inside.places.small in
    let within = c.self.inside.places.ok in
    omega (arith, few, count, small, within)

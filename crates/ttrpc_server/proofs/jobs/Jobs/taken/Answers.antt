use Rattle.ttrpc_server.proofs.Words.{arith, values_of}
use Rattle.std.proofs.lemmas.Map.Entries.{length-values_of}
use Rattle.ttrpc_server.proofs.Keyed.{filter_fewer}
use Rattle.ttrpc_server.proofs.jobs.Jobs.taken.Goals as goal

pub overflow_sub-result : goal.overflow_sub-result
overflow_sub-result c =
    let n = rw (← c.self.view_is) at c.waiting.ensures in
    let fewer = filter_fewer (values_of c.self.inside.jobs) in
    let all = length-values_of c.self.inside.jobs in
    omega (arith, n, fewer, all, c.len.ensures.count)

pub returns : goal.returns
returns c =
    let n = rw (← c.self.view_is) at c.waiting.ensures in
    let all = length-values_of c.self.inside.jobs in
    rw (← c.self.view_is) (omega (arith, n, all, c.len.ensures.count))

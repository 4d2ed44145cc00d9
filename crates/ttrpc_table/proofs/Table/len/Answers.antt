use Rattle.std.proofs.Common.{arith}
use Rattle.ttrpc_table.proofs.Parts.{all_rise, counted}
use Rattle.ttrpc_table.proofs.Table.len.Goals as goal

pub returns-clause-count : goal.returns-clause-count
returns-clause-count g c =
    let t = c.self.inside in
    rw (← c.self.view_is) (omega (arith, counted t.older.entries t.keys.items t.values.items c.self.invariant.even, c.len.ensures.len, c.len-2.ensures, t.keys.ok.0))

pub returns-clause-rise : goal.returns-clause-rise
returns-clause-rise g c =
    let t = c.self.inside in
    rw (← c.self.view_is) (all_rise t.older.entries t.keys.items t.values.items c.self.invariant)

-- An entry of the row leaves both of its queues at its place, and any other leaves the older ones.
use Rattle.std.proofs.Common.{◌∙◌, sym}
use Rattle.ttrpc_table.proofs.Calls.{kept_removed, kept_without, older_found, older_without}
use Rattle.ttrpc_table.proofs.Parts.{all_rise, in_row, rise_behind}
use Rattle.ttrpc_table.proofs.Table.remove.Goals as goal

pub place-requires : goal.place-requires
place-requires g c = rise_behind _ _ c.self.invariant.rise

pub invariant_of-self : goal.invariant_of-self
invariant_of-self g c =
    let t = c.self.inside in
    kept_removed t.older.entries t.keys.items t.values.items c.args.key c.in-Ok.i c.self.invariant c.take.new.keys.items c.take.new.values.items c.in-Ok.ensures.0 c.in-Ok.ensures.1 c.take.ensures.keys c.take.ensures.values

pub invariant_of-self-in-Err : goal.invariant_of-self-in-Err
invariant_of-self-in-Err g c =
    let t = c.self.inside in
    kept_without t.older.entries t.keys.items t.values.items c.args.key c.in-Err.field-0 c.self.invariant c.in-Err.ensures c.remove.new.self.entries c.remove.ensures.entries

pub returns-in-Ok-clause-value : goal.returns-in-Ok-clause-value
returns-in-Ok-clause-value g c =
    let t = c.self.inside in
    rw (← c.self.view_is) (c.take.ensures.value ∙ sym (in_row t.older.entries t.keys.items t.values.items c.in-Ok.i c.args.key c.self.invariant c.in-Ok.ensures.0 c.in-Ok.ensures.1).finds)

pub returns-in-Ok-clause-entries : goal.returns-in-Ok-clause-entries
returns-in-Ok-clause-entries g c =
    let t = c.self.inside in
    rw (c.take.ensures.keys, c.take.ensures.values, ← c.self.view_is) (sym (in_row t.older.entries t.keys.items t.values.items c.in-Ok.i c.args.key c.self.invariant c.in-Ok.ensures.0 c.in-Ok.ensures.1).removed)

pub returns-in-Ok-clause-rise : goal.returns-in-Ok-clause-rise
returns-in-Ok-clause-rise g c = let t = c.self.inside in rw (← c.self.view_is) (all_rise t.older.entries t.keys.items t.values.items c.self.invariant)

pub returns-in-Err-clause-value : goal.returns-in-Err-clause-value
returns-in-Err-clause-value g c =
    let t = c.self.inside in
    rw (← c.self.view_is) (older_found t.older.entries t.keys.items t.values.items c.args.key c.in-Err.field-0 c.self.invariant c.in-Err.ensures _ c.remove.ensures.value)

pub returns-in-Err-clause-entries : goal.returns-in-Err-clause-entries
returns-in-Err-clause-entries g c =
    let t = c.self.inside in
    rw (c.remove.ensures.entries, ← c.self.view_is) (sym (older_without t.older.entries t.keys.items t.values.items c.args.key c.in-Err.field-0 c.self.invariant c.in-Err.ensures))

pub returns-in-Err-clause-rise : goal.returns-in-Err-clause-rise
returns-in-Err-clause-rise g c = let t = c.self.inside in rw (← c.self.view_is) (all_rise t.older.entries t.keys.items t.values.items c.self.invariant)

-- A key of the row is found there, and any other is found only among the older ones.
use Rattle.std.proofs.Common.{◌∙◌, ◌<◌, length, arith, sym}
use Rattle.ttrpc_table.proofs.Calls.{lent, older_found}
use Rattle.ttrpc_table.proofs.Parts.{in_row, rise_behind}
use Rattle.ttrpc_table.proofs.Table.get.Goals as goal

pub place-requires : goal.place-requires
place-requires g c = rise_behind _ _ c.self.invariant.rise

pub returns-in-Ok : goal.returns-in-Ok
returns-in-Ok g c =
    let t = c.self.inside in
    let within : c.in-Ok.i < length t.values.items = omega (arith, c.in-Ok.ensures.0, c.self.invariant.even) in
    rw (← c.self.view_is) (
    lent t.values.items t.values.len c.in-Ok.i t.values.ok.0 within c.get.result c.get.ensures.variant.1 c.get.ensures.lookup
    ∙ sym (in_row t.older.entries t.keys.items t.values.items c.in-Ok.i c.args.key c.self.invariant c.in-Ok.ensures.0 c.in-Ok.ensures.1).finds
    )

pub returns-in-Err : goal.returns-in-Err
returns-in-Err g c =
    let t = c.self.inside in
    rw (← c.self.view_is) (older_found t.older.entries t.keys.items t.values.items c.args.key c.in-Err.field-0 c.self.invariant c.in-Err.ensures _ c.get-in-Err.ensures.value)

-- A key of the row is lent there, and any other is lent only by the older ones. The other part stays as it is.
use borrow.Follows.Closed.{read_of}
use Rattle.std.proofs.Common.{◌∙◌, ◌++◌, ◌<◌, ap, arith, length, sym}
use Rattle.std.specs.List.{zip}
use Rattle.std.specs.Option.{ghost_name_of}
use Rattle.ttrpc_table.proofs.Calls.{lent_mut, older_found, older_lent}
use Rattle.ttrpc_table.proofs.Parts.{in_row, rise_behind}
use Rattle.ttrpc_table.proofs.Table.get_mut.Goals as goal

pub place-requires : goal.place-requires
place-requires g c = rise_behind _ _ c.self.invariant.rise

pub returns-in-Ok : goal.returns-in-Ok
returns-in-Ok g c =
    let t = c.self.inside in
    let within : c.in-Ok.i < length t.values.items = omega (arith, c.in-Ok.ensures.0, c.self.invariant.even) in
    let row = in_row t.older.entries t.keys.items t.values.items c.in-Ok.i c.args.key c.self.invariant c.in-Ok.ensures.0 c.in-Ok.ensures.1 in
    rw (← c.self.view_is) (
      λ i. read_of (ghost_name_of c.get_mut.result) (λ (w : g.row.V.Denot). sym (row.valued w) i) (t.older.entries ++ zip t.keys.items t.values.items),
      record { writes_back = tt; value = lent_mut t.values.items t.values.len c.in-Ok.i t.values.ok.0 within c.get_mut.result c.get_mut.ensures.variant.1 c.get_mut.ensures.value ∙ sym row.finds },
    )

pub returns-in-Err : goal.returns-in-Err
returns-in-Err g c =
    let t = c.self.inside in
    let row = zip t.keys.items t.values.items in
    let older = c.get_mut-in-Err.follows in
    rw (← c.self.view_is) (
      λ i. read_of (ghost_name_of c.get_mut-in-Err.result)
          (λ (w : g.row.V.Denot). older_lent t.older.entries t.keys.items t.values.items c.args.key c.in-Err.field-0 c.self.invariant c.in-Err.ensures w (older.lender w).entries (older.holds w).0 i)
          (ap (λ m. m.entries ++ row) older.holds-at-none i),
      record { writes_back = tt; value = older_found t.older.entries t.keys.items t.values.items c.args.key c.in-Err.field-0 c.self.invariant c.in-Err.ensures _ c.get_mut-in-Err.ensures.value },
    )

-- A key of the row has its value replaced there. One that is above all of the older ones is put in the row, and any other among the older ones.
use Rattle.std.proofs.Common.{◌∙◌, ◌<◌, ◌+◌, ◌^◌, length, arith, sym, ap}
use Rattle.ttrpc_table.proofs.Calls.{absent, kept_with, older_at, older_found, older_entry, on_err, read}
use Rattle.ttrpc_table.proofs.Parts.{below_by_index, counted, in_row, rise_behind}
use Rattle.ttrpc_table.proofs.Table.insert.Goals as goal

pub place-requires : goal.place-requires
place-requires g c = rise_behind _ _ c.self.invariant.rise

pub add-requires-clause-room : goal.add-requires-clause-room
add-requires-clause-room g c =
    let t = c.self.inside in
    omega (arith, c.len.ensures.count ∙ ap length (sym c.self.view_is), counted t.older.entries t.keys.items t.values.items c.self.invariant.even, c.len.ensures.small, c.if-len-eq-MOST.false)

pub returns-in_err-add-in-Err-clause-absent : goal.returns-in_err-add-in-Err-clause-absent
returns-in_err-add-in-Err-clause-absent g c =
    let t = c.self.inside in
    on_err c.from_residual.result _ (rw (← c.self.view_is) (absent t.older.entries t.keys.items t.values.items c.args.key c.in-Err.i c.self.invariant c.in-Err.ensures (below_by_index _ _ (c.goes_to_row.ensures.yes c.if-goes_to_row.true))))

pub returns-in_err-insert-in-Err-2-clause-absent : goal.returns-in_err-insert-in-Err-2-clause-absent
returns-in_err-insert-in-Err-2-clause-absent g c =
    let t = c.self.inside in
    on_err c.from_residual-in_err-insert-in-Err-2.result _ (rw (← c.self.view_is) (older_at t.older.entries t.keys.items t.values.items c.args.key c.in-Err.i c.self.invariant c.in-Err.ensures ∙ c.in_err-insert-in-Err-2.ensures.absent))

pub invariant_of-self-in-Err-2 : goal.invariant_of-self-in-Err-2
invariant_of-self-in-Err-2 g c =
    let t = c.self.inside in
    let room : length t.older.entries + length t.keys.items + 1 < 2 ^ 63 = omega (arith, c.len.ensures.count ∙ ap length (sym c.self.view_is), counted t.older.entries t.keys.items t.values.items c.self.invariant.even, c.len.ensures.small, c.if-len-eq-MOST.false) in
    kept_with t.older.entries t.keys.items t.values.items c.args.key c.in-Err.i c.self.invariant c.in-Err.ensures c.args.value c.insert.new.self.entries (c.goes_to_row.ensures.no c.if-goes_to_row.false) room c.in_ok-insert-in-Err-2.ensures.entries

pub returns-in-Ok-clause-was : goal.returns-in-Ok-clause-was
returns-in-Ok-clause-was g c =
    let t = c.self.inside in
    let within : c.in-Ok.i < length t.values.items = omega (arith, c.in-Ok.ensures.0, c.self.invariant.even) in
    rw (c.replace-in-Ok.ensures.value, ← c.self.view_is) (
    read t.values.items t.values.len c.in-Ok.i t.values.ok.0 within c.index_mut.result.now c.index_mut.ensures.value
    ∙ sym (in_row t.older.entries t.keys.items t.values.items c.in-Ok.i c.args.key c.self.invariant c.in-Ok.ensures.0 c.in-Ok.ensures.1).finds
    )

pub returns-in-Ok-clause-entries : goal.returns-in-Ok-clause-entries
returns-in-Ok-clause-entries g c =
    let t = c.self.inside in
    rw (c.replace-in-Ok.ensures.after, ← c.self.view_is) (sym ((in_row t.older.entries t.keys.items t.values.items c.in-Ok.i c.args.key c.self.invariant c.in-Ok.ensures.0 c.in-Ok.ensures.1).entered c.args.value))

pub returns-in_ok-add-in-Err-clause-was : goal.returns-in_ok-add-in-Err-clause-was
returns-in_ok-add-in-Err-clause-was g c =
    let t = c.self.inside in
    rw (← c.self.view_is) (sym (absent t.older.entries t.keys.items t.values.items c.args.key c.in-Err.i c.self.invariant c.in-Err.ensures (below_by_index _ _ (c.goes_to_row.ensures.yes c.if-goes_to_row.true))))

pub returns-in_ok-insert-in-Err-2-clause-was : goal.returns-in_ok-insert-in-Err-2-clause-was
returns-in_ok-insert-in-Err-2-clause-was g c =
    let t = c.self.inside in
    rw (← c.self.view_is) (older_found t.older.entries t.keys.items t.values.items c.args.key c.in-Err.i c.self.invariant c.in-Err.ensures _ c.in_ok-insert-in-Err-2.ensures.old)

pub returns-in_ok-insert-in-Err-2-clause-entries : goal.returns-in_ok-insert-in-Err-2-clause-entries
returns-in_ok-insert-in-Err-2-clause-entries g c =
    let t = c.self.inside in
    rw (c.in_ok-insert-in-Err-2.ensures.entries, ← c.self.view_is) (sym (older_entry t.older.entries t.keys.items t.values.items c.args.key c.in-Err.i c.self.invariant c.in-Err.ensures c.args.value (c.goes_to_row.ensures.no c.if-goes_to_row.false)))

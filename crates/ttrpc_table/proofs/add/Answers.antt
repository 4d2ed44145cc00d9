-- A full row gives its first entry to the older ones, and the new one is put in what is left.
use Rattle.std.proofs.Common.{◌<◌, ◌-◌, arith}
use Rattle.ttrpc_table.proofs.Calls.{below_aged, gap_aged, kept_aged, kept_put, put_in, same_count, same_entries}
use Rattle.ttrpc_table.proofs.Parts.{below_by_index}
use Rattle.ttrpc_table.proofs.add.Goals as goal

pub returns-then-i-eq0-clause-kept : goal.returns-then-i-eq0-clause-kept
returns-then-i-eq0-clause-kept g c =
    kept_put c.args.older.now.entries c.args.keys.now.items c.args.values.now.items c.args.key c.args.i c.requires.kept c.requires.place (below_by_index _ _ c.requires.newer) c.args.value c.put.result c.put.new.keys.items c.put.new.values.items c.requires.room
    c.put.ensures.ok_keys c.put.ensures.ok_values c.put.ensures.err_keys c.put.ensures.err_values

pub returns-then-i-eq0-clause-ok : goal.returns-then-i-eq0-clause-ok
returns-then-i-eq0-clause-ok g c =
    put_in c.args.older.now.entries c.args.keys.now.items c.args.values.now.items c.args.key c.args.i c.requires.kept c.requires.place (below_by_index _ _ c.requires.newer) c.args.value c.put.result c.put.new.keys.items c.put.new.values.items
    c.put.ensures.ok_keys c.put.ensures.ok_values

pub returns-clause-kept : goal.returns-clause-kept
returns-clause-kept g c =
    let ages = c.in_ok-age.ensures.ok in
    let some : 0 < c.args.i = omega (arith, c.if-i-eq0.false) in
    kept_put c.age.new.older.entries c.age.new.keys.items c.age.new.values.items c.args.key (c.args.i - 1) (kept_aged _ _ _ _ _ _ ages c.requires.kept) (gap_aged _ _ _ _ _ _ ages c.args.key c.args.i c.requires.place some)
    (below_aged _ _ _ _ _ _ ages c.args.key c.args.i (below_by_index _ _ c.requires.newer) c.requires.place some) c.args.value c.put-2.result c.put-2.new.keys.items c.put-2.new.values.items (omega (arith, same_count _ _ _ _ _ _ ages, c.requires.room))
    c.put-2.ensures.ok_keys c.put-2.ensures.ok_values c.put-2.ensures.err_keys c.put-2.ensures.err_values

pub returns-clause-ok : goal.returns-clause-ok
returns-clause-ok g c =
    let ages = c.in_ok-age.ensures.ok in
    let some : 0 < c.args.i = omega (arith, c.if-i-eq0.false) in
    rw (← same_entries _ _ _ _ _ _ ages) (put_in c.age.new.older.entries c.age.new.keys.items c.age.new.values.items c.args.key (c.args.i - 1) (kept_aged _ _ _ _ _ _ ages c.requires.kept) (gap_aged _ _ _ _ _ _ ages c.args.key c.args.i c.requires.place some)
    (below_aged _ _ _ _ _ _ ages c.args.key c.args.i (below_by_index _ _ c.requires.newer) c.requires.place some) c.args.value c.put-2.result c.put-2.new.keys.items c.put-2.new.values.items c.put-2.ensures.ok_keys c.put-2.ensures.ok_values)

use Rattle.std.proofs.Common.{◌≡◌, [], rules, sym, ◌∙◌}
use Rattle.std.proofs.lemmas.Result.{err_from_is_err_and}
use Rattle.ttrpc_wire.specs.Seen.{seen}
use Rattle.ttrpc_wire.proofs.Folds.{reads_none, reads_end, refused, went_on, step_refused}
use Rattle.ttrpc_members.specs.Maps.{entry}
use Rattle.ttrpc_members.proofs.entries.read_entry.Goals as goal

pub returns-in_err-field : goal.returns-in_err-field
returns-in_err-field g c =
    let step = (entry g.K.ItemKind.form g.V.ItemKind.form).step in
    let p = err_from_is_err_and c.from_residual.result c.from_residual.ensures.1 in
    let some : c.loop-reader.reader ≡ [] → ⊥ = search rules in
    rw (p.1, p.2) (refused c.in_err-field.field-0.0 _ (sym c.loop-reader.invariant ∙ reads_none step (c.loop-reader.key, c.loop-reader.value) c.loop-reader.reader some c.in_err-field.ensures.err.none))

pub loop-reader-preserved : goal.loop-reader-preserved
loop-reader-preserved g c =
    let step = (entry g.K.ItemKind.form g.V.ItemKind.form).step in
    went_on step (c.loop-reader.key, c.loop-reader.value) (c.take_part.new.key, c.take_part.new.value) c.loop-reader.reader c.field.new.self (seen c.in_ok-field.field) _ c.in_ok-field.ensures.ok c.in_ok-take_part.ensures c.loop-reader.invariant

pub returns-in_err-take_part : goal.returns-in_err-take_part
returns-in_err-take_part g c =
    let step = (entry g.K.ItemKind.form g.V.ItemKind.form).step in
    let p = err_from_is_err_and c.from_residual-in_err-take_part.result c.from_residual-in_err-take_part.ensures.1 in
    rw (p.1, p.2) (step_refused step (c.loop-reader.key, c.loop-reader.value) c.loop-reader.reader c.field.new.self (seen c.in_ok-field.field) _ c.in_err-take_part.field-0.0 c.in_ok-field.ensures.ok c.loop-reader.invariant c.in_err-take_part.ensures)

pub returns : goal.returns
returns g c =
    let step = (entry g.K.ItemKind.form g.V.ItemKind.form).step in
    let none : c.loop-reader.reader ≡ [] = search rules in
    sym c.loop-reader.invariant ∙ reads_end step (c.loop-reader.key, c.loop-reader.value) c.loop-reader.reader none

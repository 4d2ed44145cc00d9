use Rattle.std.proofs.Common.{◌≡◌, [], rules, sym, ◌∙◌}
use Rattle.std.proofs.lemmas.Result.{err_from_is_err_and}
use Rattle.ttrpc_wire.specs.Seen.{seen}
use Rattle.ttrpc_wire.proofs.Folds.{reads_none, reads_end, refused, went_on, step_refused}
use Rattle.ttrpc_wire.proofs.codec.message.read_into.Goals as goal

pub returns-in_err-field : goal.returns-in_err-field
returns-in_err-field g c =
    let p = err_from_is_err_and c.from_residual.result c.from_residual.ensures.1 in
    let some : c.loop-reader.reader ≡ [] → ⊥ = search rules in
    rw (p.1, p.2) (refused c.in_err-field.field-0.0 _ (sym c.loop-reader.invariant ∙ reads_none g.M.WireMessage.step c.loop-reader.message c.loop-reader.reader some c.in_err-field.ensures.err.none))

pub loop-reader-preserved : goal.loop-reader-preserved
loop-reader-preserved g c = went_on g.M.WireMessage.step c.loop-reader.message c.put.new.self c.loop-reader.reader c.field.new.self (seen c.in_ok-field.field) _ c.in_ok-field.ensures.ok c.in_ok-put.ensures c.loop-reader.invariant

pub returns-in_err-put : goal.returns-in_err-put
returns-in_err-put g c =
    let p = err_from_is_err_and c.from_residual-in_err-put.result c.from_residual-in_err-put.ensures.1 in
    rw (p.1, p.2) (step_refused g.M.WireMessage.step c.loop-reader.message c.loop-reader.reader c.field.new.self (seen c.in_ok-field.field) _ c.in_err-put.field-0.0 c.in_ok-field.ensures.ok c.loop-reader.invariant c.in_err-put.ensures)

pub returns : goal.returns
returns g c =
    let none : c.loop-reader.reader ≡ [] = search rules in
    sym c.loop-reader.invariant ∙ reads_end g.M.WireMessage.step c.loop-reader.message c.loop-reader.reader none

use Rattle.std.proofs.lemmas.Result.{err_from_is_err_and}
use Rattle.ttrpc_wire.specs.Seen.{seen}
use Rattle.ttrpc_wire.proofs.Fields.{field_agrees}
use Rattle.ttrpc_wire.proofs.Calls.{taken, shorter, refused}
use Rattle.ttrpc_wire.proofs.reader.Reader.field.Goals as goal

pub returns-in_err-field-clause-err : goal.returns-in_err-field-clause-err
returns-in_err-field-clause-err c =
    let p = err_from_is_err_and c.from_residual.result c.from_residual.ensures.1 in
    rw (p.1, p.2) (refused field_agrees c.self.inside.rest.now _ _ c.self.view_is c.in_err-field.ensures)

pub returns-clause-ok : goal.returns-clause-ok
returns-clause-ok c = taken field_agrees c.self.inside.rest.now _ _ _ c.self.view_is c.in_ok-field.ensures

pub returns-clause-shorter : goal.returns-clause-shorter
returns-clause-shorter c = shorter field_agrees c.self.inside.rest.now _ _ (seen c.in_ok-field.field) c.self.view_is c.in_ok-field.ensures

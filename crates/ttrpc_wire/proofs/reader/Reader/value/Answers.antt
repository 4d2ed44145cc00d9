use Rattle.std.proofs.lemmas.Result.{err_from_is_err_and}
use Rattle.ttrpc_wire.specs.Seen.{seen_value}
use Rattle.ttrpc_wire.proofs.WireValues.{value_agrees}
use Rattle.ttrpc_wire.proofs.Calls.{taken, shorter, refused}
use Rattle.ttrpc_wire.proofs.reader.Reader.value.Goals as goal

pub returns-in_err-value-clause-err : goal.returns-in_err-value-clause-err
returns-in_err-value-clause-err c =
    let p = err_from_is_err_and c.from_residual.result c.from_residual.ensures.1 in
    rw (p.1, p.2) (refused (value_agrees c.args.wire_type) c.self.inside.rest.now _ _ c.self.view_is c.in_err-value.ensures)

pub returns-clause-ok : goal.returns-clause-ok
returns-clause-ok c = taken (value_agrees c.args.wire_type) c.self.inside.rest.now _ _ _ c.self.view_is c.in_ok-value.ensures

pub returns-clause-shorter : goal.returns-clause-shorter
returns-clause-shorter c = shorter (value_agrees c.args.wire_type) c.self.inside.rest.now _ _ (seen_value c.in_ok-value.value) c.self.view_is c.in_ok-value.ensures

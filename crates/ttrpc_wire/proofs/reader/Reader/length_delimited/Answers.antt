use Rattle.std.proofs.lemmas.Result.{err_from_is_err_and}
use Rattle.ttrpc_wire.proofs.WireValues.{length_delimited_agrees}
use Rattle.ttrpc_wire.proofs.Calls.{taken, shorter, refused}
use Rattle.ttrpc_wire.proofs.reader.Reader.length_delimited.Goals as goal

pub returns-in_err-bytes-clause-err : goal.returns-in_err-bytes-clause-err
returns-in_err-bytes-clause-err c =
    let p = err_from_is_err_and c.from_residual.result c.from_residual.ensures.1 in
    rw (p.1, p.2) (refused length_delimited_agrees c.self.inside.rest.now _ _ c.self.view_is c.in_err-bytes.ensures)

pub returns-clause-ok : goal.returns-clause-ok
returns-clause-ok c = taken length_delimited_agrees c.self.inside.rest.now _ _ _ c.self.view_is c.in_ok-bytes.ensures

pub returns-clause-shorter : goal.returns-clause-shorter
returns-clause-shorter c = shorter length_delimited_agrees c.self.inside.rest.now _ _ c.in_ok-bytes.bytes.now c.self.view_is c.in_ok-bytes.ensures

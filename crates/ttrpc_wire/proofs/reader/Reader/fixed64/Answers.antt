use Rattle.std.proofs.lemmas.Result.{err_from_is_err_and}
use Rattle.ttrpc_wire.proofs.WireValues.{fixed64_agrees}
use Rattle.ttrpc_wire.proofs.Calls.{taken, shorter, refused}
use Rattle.ttrpc_wire.proofs.reader.Reader.fixed64.Goals as goal

pub returns-in_err-n-clause-err : goal.returns-in_err-n-clause-err
returns-in_err-n-clause-err c =
    let p = err_from_is_err_and c.from_residual.result c.from_residual.ensures.1 in
    rw (p.1, p.2) (refused fixed64_agrees c.self.inside.rest.now _ _ c.self.view_is c.in_err-n.ensures)

pub returns-clause-ok : goal.returns-clause-ok
returns-clause-ok c = taken fixed64_agrees c.self.inside.rest.now _ _ _ c.self.view_is c.in_ok-n.ensures

pub returns-clause-shorter : goal.returns-clause-shorter
returns-clause-shorter c = shorter fixed64_agrees c.self.inside.rest.now _ _ c.in_ok-n.n c.self.view_is c.in_ok-n.ensures

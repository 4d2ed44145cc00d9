use Rattle.std.proofs.Common.{◌≡◌, inl, rules, Err}
use Rattle.ttrpc_echo.proofs.Answering.{stops_first}
use Rattle.ttrpc_echo.proofs.engine.answer.Goals as goal

pub returns-in_err-core-clause-err : goal.returns-in_err-core-clause-err
returns-in_err-core-clause-err g c =
    let e : c.from_residual.result ≡ Err c.in_err-core.field-0.0 = search rules in
    rw e (inl (stops_first _ _ _ c.in_err-core.ensures))

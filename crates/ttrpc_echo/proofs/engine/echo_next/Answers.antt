use Rattle.std.proofs.Common.{refl, inr, Ok}
use Rattle.std.proofs.lemmas.Result.{on_ok_weaker, IfErr-weaker}
use Rattle.ttrpc_echo.proofs.Stopping.{refused_is_memory}
use Rattle.ttrpc_echo.proofs.engine.echo_next.Goals as goal

pub returns-in-Some-clause-ok : goal.returns-in-Some-clause-ok
returns-in-Some-clause-ok c =
    on_ok_weaker c.answer.result
    (λ a. inr (record { job = c.in-Some.job; mid = c.take_job.new.self; hands = c.in-Some.ensures.handed; answers = rw c.echo.ensures at a }))
    (c.answer.ensures.answered c.echo.result refl)

pub returns-in-Some-clause-err : goal.returns-in-Some-clause-err
returns-in-Some-clause-err c =
    IfErr-weaker c.answer.result _ _
    (λ e refused. refused_is_memory c.args.core.now c.take_job.new.self c.in-Some.job (Ok c.echo.result) e c.requires.rules c.requires.room c.in-Some.ensures.handed refused)
    c.answer.ensures.refused

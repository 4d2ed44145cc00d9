use Rattle.std.proofs.Common.{◌≡◌, inl, inr, rules, Err}
use Rattle.std.proofs.lemmas.Result.{on_ok_weaker, IfErr-weaker}
use Rattle.ttrpc_echo.proofs.Known.{keeps_same, read_nothing}
use Rattle.ttrpc_echo.proofs.Answering.{ends_between, ends_inside, rest_of, so_far_more, so_far_none, stops_between, stops_inside}
use Rattle.ttrpc_echo.proofs.engine.answer_all.Goals as goal

pub loop-init : goal.loop-init
loop-init g c = so_far_none _ _ _ c.requires

pub loop-preserved : goal.loop-preserved
loop-preserved g c =
    let on = c.in_ok-pass_on.ensures in
    so_far_more _ _ _ _ _ _ _ _ _ c.loop.invariant c.in_ok-n.ensures.bytes.0 on.ok on.ready.0 on.ready.1

pub pass_on-requires : goal.pass_on-requires
pass_on-requires g c = record { ready = c.loop.invariant.ready; empty = c.loop.invariant.queue }

pub returns-in_err-n-clause-err : goal.returns-in_err-n-clause-err
returns-in_err-n-clause-err g c =
    let e : c.from_residual.result ≡ Err c.in_err-n.field-0.0 = search rules in
    rw e (inl (stops_between _ _ _ _ _ _ _ c.loop.invariant c.in_err-n.ensures.bytes (λ frames. inr (inl c.in_err-n.ensures.err))))

pub returns-then-n-eq0-clause-ok : goal.returns-then-n-eq0-clause-ok
returns-then-n-eq0-clause-ok g c =
    let at = read_nothing _ _ c.in_ok-n.n _ (search rules) (search rules) c.in_ok-n.ensures.bytes in
    on_ok_weaker c.finish.result (λ none. ends_between _ _ _ _ _ _ c.loop.invariant at.0 at.1 none) c.finish.ensures.ok

pub returns-then-n-eq0-clause-err : goal.returns-then-n-eq0-clause-err
returns-then-n-eq0-clause-err g c =
    let at = read_nothing _ _ c.in_ok-n.n _ (search rules) (search rules) c.in_ok-n.ensures.bytes in
    IfErr-weaker c.finish.result _ _ (λ e told. ends_inside _ _ _ _ _ _ e c.loop.invariant at.0 at.1 told.0 told.1) c.finish.ensures.err

pub returns-in_err-pass_on-clause-err : goal.returns-in_err-pass_on-clause-err
returns-in_err-pass_on-clause-err g c =
    let e : c.from_residual-in_err-pass_on.result ≡ Err c.in_err-pass_on.field-0.0 = search rules in
    let rest = rest_of c.loop.invariant in
    rw e (inl (stops_inside _ _ _ _ _ _ _ _ _ c.loop.invariant c.in_ok-n.ensures.bytes.0 (c.in_err-pass_on.ensures.err rest.0 rest.2)))

pub returns-clause-err : goal.returns-clause-err
returns-clause-err g c = inl (stops_between _ _ _ _ _ _ _ c.loop.invariant (keeps_same _) (λ frames. inr (inl c.broken.ensures)))

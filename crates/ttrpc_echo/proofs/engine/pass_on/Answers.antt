use Rattle.std.proofs.Common.{◌≡◌, rules, Err}
use Rattle.ttrpc_echo.proofs.Passing.{passed_all, passed_first, passed_more, stops_serving, stops_writing}
use Rattle.ttrpc_echo.proofs.engine.pass_on.Goals as goal

pub loop-rest-init : goal.loop-rest-init
loop-rest-init g c = record { ready = c.requires.ready; empty = c.requires.empty; so_far = passed_first _ _ _ }

pub loop-rest-preserved : goal.loop-rest-preserved
loop-rest-preserved g c =
    let i = c.loop-rest.invariant in
    let out = c.in_ok-write_out.ensures in
    record {
      ready = out.ready;
      empty = out.all;
      so_far = rw c.behind-rest.ensures (passed_more _ _ _ _ _ _ _ _ _ c.in_ok-n.n i.so_far i.empty c.in_ok-n.ensures.serves.0 out.wrote out.all);
    }

pub returns-in_err-n-clause-err : goal.returns-in_err-n-clause-err
returns-in_err-n-clause-err g c =
    let e : c.from_residual.result ≡ Err c.in_err-n.field-0.0 = search rules in
    λ before at. rw e (stops_serving _ _ _ _ before _ _ _ at c.loop-rest.invariant.so_far c.in_err-n.ensures.err)

pub returns-in_err-write_out-clause-err : goal.returns-in_err-write_out-clause-err
returns-in_err-write_out-clause-err g c =
    let e : c.from_residual-in_err-write_out.result ≡ Err c.in_err-write_out.field-0.0 = search rules in
    let i = c.loop-rest.invariant in
    let out = c.in_err-write_out.ensures in
    λ before at. rw e (stops_writing _ _ _ _ _ _ _ before _ _ c.in_ok-n.n _ at i.so_far i.empty c.in_ok-n.ensures.serves.0 out.wrote out.err)

pub returns-clause-ok : goal.returns-clause-ok
returns-clause-ok g c = passed_all _ _ _ _ _ _ c.loop-rest.invariant.so_far (search rules)

pub returns-clause-ready : goal.returns-clause-ready
returns-clause-ready g c = (c.loop-rest.invariant.ready, c.loop-rest.invariant.empty)

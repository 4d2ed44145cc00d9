use Rattle.std.proofs.Common.{◌≡◌, rules, Err, inl, inr, refl}
use Rattle.ttrpc_echo.proofs.Echoing.{served_fewer, served_first, served_more, served_short, served_whole}
use Rattle.ttrpc_echo.proofs.Stopping.{stops_later}
use Rattle.ttrpc_echo.proofs.engine.serve.Goals as goal

pub loop-rest-init : goal.loop-rest-init
loop-rest-init c = record { ready = c.requires; so_far = served_first _ _; begun = inl refl }

pub loop-rest-preserved : goal.loop-rest-preserved
loop-rest-preserved c =
    let so_far = c.loop-rest.invariant.so_far in
    record {
      ready = c.in_ok-n.ensures.serves.1;
      so_far = rw c.behind-rest.ensures (served_more _ _ _ _ _ c.in_ok-n.n so_far c.in_ok-n.ensures.serves.0);
      begun = inr (rw c.behind-rest.ensures (served_fewer _ _ _ _ c.in_ok-n.n so_far (search rules) c.in_ok-n.ensures.count));
    }

pub returns-in_err-n-clause-err : goal.returns-in_err-n-clause-err
returns-in_err-n-clause-err c =
    let e : c.from_residual.result ≡ Err c.in_err-n.field-0.0 = search rules in
    let p = c.loop-rest.invariant.so_far in
    rw e (stops_later _ _ p.front _ _ _ p.piece_is p.serves c.in_err-n.ensures.err)

pub returns-then-n-eq0-clause-serves : goal.returns-then-n-eq0-clause-serves
returns-then-n-eq0-clause-serves c = (
  served_short _ _ _ _ _ c.in_ok-n.n c.loop-rest.invariant.so_far (search rules) c.in_ok-n.ensures.serves.0,
  c.in_ok-n.ensures.serves.1,
)

pub returns-clause-serves : goal.returns-clause-serves
returns-clause-serves c = (served_whole _ _ _ _ c.loop-rest.invariant.so_far (search rules), c.loop-rest.invariant.ready)

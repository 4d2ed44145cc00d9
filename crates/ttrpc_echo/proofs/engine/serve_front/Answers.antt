use Rattle.std.proofs.Common.{◌≡◌, inl, rules, Err}
use Rattle.ttrpc_echo.proofs.Stopping.{front_count, front_may, front_serves, front_some, front_stops}
use Rattle.ttrpc_echo.proofs.engine.serve_front.Goals as goal

pub returns-in_err-n-clause-err : goal.returns-in_err-n-clause-err
returns-in_err-n-clause-err c =
    let e : c.from_residual.result ≡ Err c.in_err-n.field-0.0 = search rules in
    rw e (front_stops _ _ _ _ _ c.requires c.in_err-n.ensures)

pub returns-in_err-echo_next-clause-err : goal.returns-in_err-echo_next-clause-err
returns-in_err-echo_next-clause-err c =
    let e : c.from_residual-in_err-echo_next.result ≡ Err c.in_err-echo_next.field-0.0 = search rules in
    rw e (inl c.in_err-echo_next.ensures.err)

pub returns-clause-count : goal.returns-clause-count
returns-clause-count c = front_count _ _ c.args.core.now c.feed_front.new.self c.args.piece.now c.in_ok-n.ensures

pub returns-clause-some : goal.returns-clause-some
returns-clause-some c = λ none. front_some _ c.in_ok-n.n c.args.core.now c.feed_front.new.self c.args.piece.now c.requires none c.in_ok-n.ensures

pub returns-clause-serves : goal.returns-clause-serves
returns-clause-serves c = front_serves _ c.in_ok-n.n c.args.core.now c.feed_front.new.self c.echo_next.new.core c.args.piece.now c.requires c.in_ok-n.ensures c.in_ok-echo_next.ensures.ok

pub echo_next-requires : goal.echo_next-requires
echo_next-requires c =
    let may = front_may _ c.in_ok-n.n c.args.core.now c.feed_front.new.self c.args.piece.now c.requires c.in_ok-n.ensures in
    record { alive = may.alive; rules = may.rules; room = may.room }

use Rattle.ttrpc_server.proofs.Words.{rules, ◌≡◌, inr, refl, IfErr-weaker, Async, Sync}
use Rattle.std.specs.Prelude.{Err}
use Rattle.ttrpc_proto.specs.declared.error.Error.TheVariants.{NoMemory}
use Rattle.ttrpc_server.proofs.Sending.{drops_at, error_drops, textless, unsent_error}
use Rattle.ttrpc_server.proofs.server.ServerCore.answer_error.Goals as goal

pub returns-in-Sync-clause-answered : goal.returns-in-Sync-clause-answered
returns-in-Sync-clause-answered g c =
    let w = c.requires.taken in
    let sync : c.args.self.now.state.rules ≡ Sync = search rules in
    rw c.fail.ensures (error_drops g.O.OutboundTransform c.args.self.now c.args.id c.args.error.now _ sync
    (drops_at c.args.self.now c.args.id w.0 _ _ c.requires.alive (search rules) (c.end.ensures.ended w.0 w.1) w.2 c.end.ensures.same))

pub returns-in_err-response-in-Async-clause-refused : goal.returns-in_err-response-in-Async-clause-refused
returns-in_err-response-in-Async-clause-refused g c =
    let w = c.requires.taken in
    let async : c.args.self.now.state.rules ≡ Async = search rules in
    let e : c.from_residual.result ≡ Err NoMemory = search rules in
    rw e (inr (textless g.O.OutboundTransform c.args.self.now c.args.id w.0 c.args.error.now NoMemory c.requires.alive async w.1 w.2 refl))

pub returns-in_ok-response-in-Async-clause-refused : goal.returns-in_ok-response-in-Async-clause-refused
returns-in_ok-response-in-Async-clause-refused g c =
    let async : c.args.self.now.state.rules ≡ Async = search rules in
    IfErr-weaker c.answer_with.result _ _ (λ told h. unsent_error g.O.OutboundTransform c.args.self.now c.args.id c.args.error.now c.in_ok-response-in-Async.response told async c.in_ok-response-in-Async.ensures h) c.answer_with.ensures.refused

use Rattle.std.proofs.Common.{rules, ◌≡◌, Err, IfOk, None, inl}
use Rattle.std.proofs.lemmas.Result.{IfOk-weaker}
use Rattle.ttrpc_sync_server.specs.Built.{bound}
use Rattle.ttrpc_sync_server.specs.Settings.{bind_refusal}
use Rattle.ttrpc_transport.specs.Listeners.{Listens}
use Rattle.ttrpc_transport.specs.Opened.{IsOpenedAt}
use Rattle.ttrpc_sync_server.proofs.server.Server.bind.Goals as goal

pub returns-in_err-listener-clause-refused : goal.returns-in_err-listener-clause-refused
returns-in_err-listener-clause-refused g c =
    let e : c.from_residual-in_err-listener.result ≡ Err c.in_err-listener.field-0.0 = search rules in
    let free : bind_refusal c.args.self.settings ≡ None = search rules in
    (search (rules, free), λ none. rw e (inl c.in_err-listener.ensures.err))

pub returns-clause-ok : goal.returns-clause-ok
returns-clause-ok g c =
    let listener = c.in_ok-listener.listener in
    let added : IfOk c.add_listener.result (λ server. server ≡ bound c.args.self listener) = search rules in
    IfOk-weaker c.add_listener.result (λ server. server ≡ bound c.args.self listener)
    (λ server. (x : Listens) × IsOpenedAt c.args.sockaddr.now x.domain × (x.nodelay ≡ c.args.nodelay) × server ≡ bound c.args.self x)
    (λ server is. (listener, c.in_ok-listener.ensures.ok, c.in_ok-listener.ensures.nodelay, is)) added

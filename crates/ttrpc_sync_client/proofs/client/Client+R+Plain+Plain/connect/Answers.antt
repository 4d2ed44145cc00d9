use Rattle.std.proofs.Common.{rules, ◌≡◌, Err, inl, inr}
use Rattle.std.proofs.lemmas.Result.{IfErr-weaker, IfOk-weaker}
use Rattle.ttrpc_sync_client.proofs.client.Client+R+Plain+Plain.connect.Goals as goal

pub returns-in_err-connection-clause-err : goal.returns-in_err-connection-clause-err
returns-in_err-connection-clause-err g c =
    let e : c.from_residual.result ≡ Err c.in_err-connection.field-0.0 = search rules in
    rw e (elim c.in_err-connection.ensures.err [ inl nowhere ↦ inl nowhere | inr refused ↦ inr (refused.0, inl refused.1) ])

pub returns-in_err-get_pipe_connection-clause-err : goal.returns-in_err-get_pipe_connection-clause-err
returns-in_err-get_pipe_connection-clause-err g c =
    let e : c.from_residual-in_err-get_pipe_connection.result ≡ Err c.in_err-get_pipe_connection.field-0.0 = search rules in
    let opened = c.in_ok-connection.ensures.ok in
    rw e (inr ((opened.0, opened.1), inl c.in_err-get_pipe_connection.ensures.err))

pub returns-clause-named : goal.returns-clause-named
returns-clause-named g c =
    let opened = c.in_ok-connection.ensures.ok in
    IfOk-weaker c.new.result _ _ (λ client is. (opened.0, opened.1)) c.new.ensures.known

pub returns-clause-err : goal.returns-clause-err
returns-clause-err g c =
    let opened = c.in_ok-connection.ensures.ok in
    IfErr-weaker c.new.result _ _ (λ error why. inr ((opened.0, opened.1), why)) c.new.ensures.err

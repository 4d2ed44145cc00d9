use Rattle.ttrpc_server.proofs.Words.{◌≡◌, ◌∙◌, ap, safe_limit, refl, inr, rules}
use Rattle.ttrpc_server.proofs.Sending.{told_unsent}
use Rattle.ttrpc_server.proofs.server.ServerCore.queue.Goals as goal

pub returns-in-Ok-clause-queued : goal.returns-in-Ok-clause-queued
returns-in-Ok-clause-queued g c =
    let some = c.in-Ok.ensures.ok in
    record { alive = search rules; sent = some.0; responds = rw (← c.rules-rules.ensures) some.1; sends = some.2; same = refl }

pub returns-in-Err-clause-refused : goal.returns-in-Err-clause-refused
returns-in-Err-clause-refused g c =
    let o = c.args.self.now.connection.outbox in
    let limit : c.limit.result ≡ safe_limit g.O.OutboundTransform o.half = c.limit.ensures ∙ ap (λ b. safe_limit g.O.OutboundTransform b.half) c.in-Err.ensures.err.0 in
    inr (record {
      alive = search rules;
      unsent = rw (← c.rules-rules.ensures) (told_unsent _ g.O.OutboundTransform o c.args.stream_id c.args.response.now c.in-Err.unsent c.limit.result c.error.result c.in-Err.ensures.err.1 limit c.error.ensures);
    })

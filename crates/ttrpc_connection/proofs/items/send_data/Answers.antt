use Rattle.ttrpc_connection.proofs.Words.{rules, arith, ◌<◌, ◌≡◌, associated, subst}
use Rattle.ttrpc_secure.specs.Halves.{MayFail}
use Rattle.ttrpc_secure.specs.Sends.{joined}
use Rattle.ttrpc_connection.specs.Items.{IsDataFrame, last_ticket}
use Rattle.ttrpc_connection.proofs.Refusing.{data_refused}
use Rattle.ttrpc_connection.proofs.items.send_data.Goals as goal

pub returns-in-Err-Failed-clause-refused : goal.returns-in-Err-Failed-clause-refused
returns-in-Err-Failed-clause-refused g c =
    let out = g.O.OutboundTransform in
    let old = c.args.outbox.now in
    let plain = c.args.plain.now in
    let next = c.in-Some.ensures.some in
    let left : old.tickets < last_ticket = search (rules, arith, next) in
    let items : joined c.whole.result ≡ plain = c.whole.ensures in
    data_refused out c.args.advice.now old c.args.stream_id c.args.flags plain c.data_frame-frame.result c.in-Err-Failed.refused c.unsent_error.result
    left (search (rules, c.if-plain-limit.false)) (search rules)
    (subst (λ t. IsDataFrame c.args.stream_id c.args.flags t c.data_frame-frame.result) next c.data_frame-frame.ensures)
    (subst (λ p. MayFail out.refuses old.half p (associated c.data_frame-frame.result.message.header) c.in-Err-Failed.refused) items (c.send.ensures.refused c.in-Err-Failed.refused (search rules)))
    c.unsent_error.ensures

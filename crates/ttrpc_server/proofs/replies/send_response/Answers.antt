use Rattle.ttrpc_server.proofs.Words.{rules, ◌≡◌, ◌∙◌, ap, response_bytes}
use Rattle.ttrpc_secure.specs.Sends.{joined}
use Rattle.ttrpc_secure.specs.declared.transform.TransformError.TheVariants.{Refused}
use Rattle.ttrpc_connection.proofs.Refusing.{room_there}
use Rattle.ttrpc_connection.specs.Frames.{safe_limit}
use Rattle.ttrpc_server.specs.Protocol.{fitted}
use Rattle.ttrpc_server.proofs.Sending.{is_roomy, lacks_room, sent_one}
use Rattle.ttrpc_server.proofs.replies.send_response.Goals as goal

pub returns-in-Ok-clause-ok : goal.returns-in-Ok-clause-ok
returns-in-Ok-clause-ok g c =
    let out = g.O.OutboundTransform in
    let fit = rw c.limit.ensures at c.in_ok-instead.ensures.ok in
    let bytes = joined c.parts_of.result in
    let written : bytes ≡ response_bytes (fitted c.args.rules (safe_limit out c.args.outbox.now.half) c.args.response.now) = c.parts_of.ensures ∙ c.in_ok-around.ensures.ok ∙ ap response_bytes (c.either-fitted.ensures ∙ fit.0) in
    sent_one c.args.rules out c.args.outbox.now c.args.stream_id c.args.response.now c.response_frame-frame.result bytes _
    written fit.1 c.response_frame-frame.ensures c.in-Ok.ensures.ok

pub returns-in-Err-Failed-Refused-clause-err : goal.returns-in-Err-Failed-Refused-clause-err
returns-in-Err-Failed-Refused-clause-err g c =
    let out = g.O.OutboundTransform in
    let fit = rw c.limit.ensures at c.in_ok-instead.ensures.ok in
    let bytes = joined c.parts_of.result in
    let written : bytes ≡ response_bytes (fitted c.args.rules (safe_limit out c.args.outbox.now.half) c.args.response.now) = c.parts_of.ensures ∙ c.in_ok-around.ensures.ok ∙ ap response_bytes (c.either-fitted.ensures ∙ fit.0) in (
      search rules,
      (
        is_roomy c.args.rules out c.args.outbox.now c.args.response.now bytes written fit.1
            (room_there out c.args.outbox.now bytes c.send.result (Refused c.in-Err-Failed-Refused.why) (search rules) (search (rules, fit.1, written)) c.send.ensures.no_room.1),
        record {
          frame = c.response_frame-frame.result;
          is_frame = c.response_frame-frame.ensures;
          fits = fit.1;
          refuses = rw (← written) (c.send.ensures.refused (Refused c.in-Err-Failed-Refused.why) (search rules));
        },
      ),
    )

pub send-requires : goal.send-requires
send-requires g c = rw c.response_frame-frame.ensures.ticket tt

pub returns-in-Err-NoRoom-clause-err : goal.returns-in-Err-NoRoom-clause-err
returns-in-Err-NoRoom-clause-err g c =
    let out = g.O.OutboundTransform in
    let fit = rw c.limit.ensures at c.in_ok-instead.ensures.ok in
    let bytes = joined c.parts_of.result in
    let written : bytes ≡ response_bytes (fitted c.args.rules (safe_limit out c.args.outbox.now.half) c.args.response.now) = c.parts_of.ensures ∙ c.in_ok-around.ensures.ok ∙ ap response_bytes (c.either-fitted.ensures ∙ fit.0) in
    let lacks = c.send.ensures.no_room.0 (search rules) in
    (search rules, lacks_room c.args.rules out c.args.outbox.now c.args.response.now bytes written fit.1 lacks.1)

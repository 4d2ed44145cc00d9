use Rattle.std.proofs.Common.{None, Some, ap, arith, length, ◌∙◌}
use Rattle.std.proofs.lemmas.List.{length-take}
use Rattle.std.specs.IoError.{error_kind}
use Rattle.ttrpc_proto.specs.Framing.Header.{header_bytes}
use Rattle.ttrpc_proto.proofs.Sent.{appends_parts, appends_front_parts, sent_parts}
use Rattle.ttrpc_proto.proofs.framing.writing.write_frame.Goals as goal

pub begin-requires : goal.begin-requires
begin-requires g c = let short = length-take 4086 c.args.payload.now in let all = ap length c.front.ensures in omega (arith, short, all)

pub returns-in-Ok-clause-ok : goal.returns-in-Ok-clause-ok
returns-in-Ok-clause-ok g c =
    appends_parts _ _ (header_bytes c.args.header.now) c.args.payload.now _ _ _ (c.as_slice.ensures.value ∙ c.in_default.ensures) c.front.ensures c.behind.ensures c.in-Ok.ensures.ok

pub returns-in-Err-write_both-clause-err : goal.returns-in-Err-write_both-clause-err
returns-in-Err-write_both-clause-err g c =
    appends_front_parts _ _ (header_bytes c.args.header.now) c.args.payload.now _ _ _ (c.as_slice.ensures.value ∙ c.in_default.ensures) c.front.ensures c.behind.ensures c.in-Err-write_both.ensures.err

pub returns-in-Ok-clause-calls : goal.returns-in-Ok-clause-calls
returns-in-Ok-clause-calls g c =
    sent_parts _ _ (header_bytes c.args.header.now) c.args.payload.now _ _ _ None (c.as_slice.ensures.value ∙ c.in_default.ensures) c.front.ensures c.behind.ensures c.in-Ok.ensures.calls

pub returns-in-Err-write_both-clause-calls : goal.returns-in-Err-write_both-clause-calls
returns-in-Err-write_both-clause-calls g c =
    sent_parts _ _ (header_bytes c.args.header.now) c.args.payload.now _ _ _ (Some (error_kind c.in-Err-write_both.error)) (c.as_slice.ensures.value ∙ c.in_default.ensures) c.front.ensures c.behind.ensures c.in-Err-write_both.ensures.calls

use Rattle.std.proofs.Common.{ap, length, arith}
use Rattle.std.proofs.lemmas.Result.{err_from_is_err_and}
use Rattle.ttrpc_wire.specs.Field.{fields_bytes}
use Rattle.ttrpc_wire.proofs.Parts.{part_shorter}
use Rattle.ttrpc_wire.proofs.codec.members.put_parts.Goals as goal

pub returns-in_err-put_part-clause-too_long : goal.returns-in_err-put_part-clause-too_long
returns-in_err-put_part-clause-too_long g c =
    let fields = g.M.WireMessage.fields in
    let p = err_from_is_err_and c.from_residual.result c.from_residual.ensures.1 in
    let shorter = part_shorter c.args.number.value fields c.args.parts.now c.loop-part.part-index c.part-item.result c.loop-part-test.true in
    let same = ap (λ x. length (fields_bytes (fields x))) c.part-item.is in
    rw (p.1, p.2) (λ other. let t = c.in_err-put_part.ensures.too_long other in (t.0, omega (arith, t.1, same, shorter)))

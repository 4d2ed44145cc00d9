use Rattle.std.proofs.Common.{◌≤◌, arith, length, length-take-le, drop, length-append}
use Rattle.std.proofs.lemmas.List.{length-drop}
use Rattle.ttrpc_proto.proofs.Streamed.{passed_on, passed_below}
use Rattle.ttrpc_proto.proofs.framing.reading.pass.Goals as goal

pub returns-in-Err-clause-cut : goal.returns-in-Err-clause-cut
returns-in-Err-clause-cut g c =
    let wanted = c.min-wanted.ensures in
    let page = c.loop-left.invariant.page in
    let fits : c.min-wanted.result ≤ length c.loop-left.page = omega (arith, wanted, page) in
    let part = length-take-le c.min-wanted.result c.loop-left.page fits in
    let size = c.fill-came.auto.buffer in
    let short = rw c.in-Err.is at c.fill-came.ensures.short in
    passed_below _ _ _ _ c.fill-came.new.buffer c.fill-came.result.0 c.min-wanted.result c.loop-left.left c.args.count c.loop-left.invariant.count c.fill-came.ensures.bound (omega (arith, short, size, part)) (omega (arith, wanted)) c.loop-left.invariant.read c.fill-came.ensures.bytes

pub returns-then-came-wanted-clause-ok : goal.returns-then-came-wanted-clause-ok
returns-then-came-wanted-clause-ok g c =
    let wanted = c.min-wanted.ensures in
    let page = c.loop-left.invariant.page in
    let fits : c.min-wanted.result ≤ length c.loop-left.page = omega (arith, wanted, page) in
    let part = length-take-le c.min-wanted.result c.loop-left.page fits in
    let size = c.fill-came.auto.buffer in
    let below = passed_below _ _ _ _ c.fill-came.new.buffer c.fill-came.result.0 c.min-wanted.result c.loop-left.left c.args.count c.loop-left.invariant.count c.fill-came.ensures.bound c.if-came-wanted.true (omega (arith, wanted)) c.loop-left.invariant.read c.fill-came.ensures.bytes in
    let over = rw c.in_default.is at c.fill-came.ensures.end in
    (below.0, below.2, (below.1, over (omega (arith, size, part, c.if-came-wanted.true))))

pub loop-left-preserved : goal.loop-left-preserved
loop-left-preserved g c =
    let wanted = c.min-wanted.ensures in
    let page = c.loop-left.invariant.page in
    let fits : c.min-wanted.result ≤ length c.loop-left.page = omega (arith, wanted, page) in
    let part = length-take-le c.min-wanted.result c.loop-left.page fits in
    let size = c.fill-came.auto.buffer in
    let on = passed_on _ _ _ _ c.fill-came.new.buffer c.fill-came.result.0 c.min-wanted.result c.loop-left.left c.args.count c.loop-left.invariant.count c.fill-came.ensures.bound (omega (arith, size, part)) c.if-came-wanted.false (omega (arith, wanted)) c.loop-left.invariant.read c.fill-came.ensures.bytes in
    record { page = omega (arith, size, part, page, fits, length-append c.fill-came.new.buffer (drop c.min-wanted.result c.loop-left.page), length-drop c.min-wanted.result c.loop-left.page); bytes = on.0; read = on.1; count = on.2 }

use Rattle.std.proofs.Common.{[], arith}
use Rattle.ttrpc_wire.proofs.Digits.{begins, goes_on, ends, ends_at_ten, length-last}
use Rattle.ttrpc_wire.proofs.writer.varint_len.Goals as goal

pub loop-i-init : goal.loop-i-init
loop-i-init c = ([], begins c.args.n (omega arith))

pub returns-then-rest-lt128-clause-value : goal.returns-then-rest-lt128-clause-value
returns-then-rest-lt128-clause-value c =
    let s = c.loop-i.invariant in
    length-last _ _ s.0 _ s.1.count (ends _ _ s.0 _ c.loop-i-test.true c.if-rest-lt128.true s.1)

pub loop-i-preserved : goal.loop-i-preserved
loop-i-preserved c =
    let s = c.loop-i.invariant in
    (_, goes_on _ _ s.0 _ c.loop-i-test.true c.if-rest-lt128.false s.1)

pub returns-clause-value : goal.returns-clause-value
returns-clause-value c =
    let s = c.loop-i.invariant in
    let last = ends_at_ten _ _ s.0 _ (omega arith) s.1 in
    omega (arith, length-last _ _ s.0 _ s.1.count last.0)

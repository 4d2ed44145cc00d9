use Rattle.std.proofs.Common.{refl, arith}
use Rattle.std.proofs.lemmas.List.{length-set}
use Rattle.ttrpc_wire.proofs.Digits.{begins, stores, stores_last, stores_tenth}
use Rattle.ttrpc_wire.proofs.writer.spelling_of.Goals as goal

pub loop-i-init : goal.loop-i-init
loop-i-init c = (refl, begins c.args.n (omega arith))

pub loop-i-preserved : goal.loop-i-preserved
loop-i-preserved c =
    let s = c.loop-i.invariant in
    (rw length-set s.0, stores _ _ _ _ s.0 c.loop-i-test.true c.if-rest-lt128.false s.1)

pub returns-then-rest-lt128-clause-front : goal.returns-then-rest-lt128-clause-front
returns-then-rest-lt128-clause-front c =
    let s = c.loop-i.invariant in
    stores_last _ _ _ _ s.0 c.loop-i-test.true c.if-rest-lt128.true s.1

pub returns-clause-front : goal.returns-clause-front
returns-clause-front c =
    let s = c.loop-i.invariant in
    stores_tenth _ _ _ _ s.0 (omega arith) s.1

use Rattle.std.proofs.Common.{◌<◌, ◌-◌, rules, arith}
use Rattle.ttrpc_wire.proofs.LongVarint.{scale_fits, digit_fits, starts, runs_out, ends, goes_on, ends_at_ten, too_large}
use Rattle.ttrpc_wire.proofs.varint.long_varint.Goals as goal

pub loop-i-init : goal.loop-i-init
loop-i-init c = starts c.args.bytes.now

pub returns-in_default : goal.returns-in_default
returns-in_default c = (runs_out _ _ _ _ _ (omega arith) c.loop-i.invariant (search rules), search rules)

pub overflow_mul-result : goal.overflow_mul-result
overflow_mul-result c = omega (arith, scale_fits c.loop-i.i c.loop-i.scale c.loop-i.invariant.power c.loop-i-test.true, digit_fits c.in-Some.byte c.loop-i.scale c.if-byte-lt128.true)

pub overflow_add-result : goal.overflow_add-result
overflow_add-result c = omega (arith, scale_fits c.loop-i.i c.loop-i.scale c.loop-i.invariant.power c.loop-i-test.true, digit_fits c.in-Some.byte c.loop-i.scale c.if-byte-lt128.true)

pub returns-then-byte-lt128 : goal.returns-then-byte-lt128
returns-then-byte-lt128 c = ends _ _ _ _ _ _ _ c.loop-i-test.true c.loop-i.invariant (search rules) c.if-byte-lt128.true

pub overflow_mul-value : goal.overflow_mul-value
overflow_mul-value c =
    let fits : c.in-Some.byte < 256 = omega arith in
    omega (arith, scale_fits c.loop-i.i c.loop-i.scale c.loop-i.invariant.power c.loop-i-test.true, digit_fits (c.in-Some.byte - 128) c.loop-i.scale (omega arith))

pub overflow_add-value : goal.overflow_add-value
overflow_add-value c =
    let fits : c.in-Some.byte < 256 = omega arith in
    omega (arith, scale_fits c.loop-i.i c.loop-i.scale c.loop-i.invariant.power c.loop-i-test.true, digit_fits (c.in-Some.byte - 128) c.loop-i.scale (omega arith))

pub overflow_mul-scale : goal.overflow_mul-scale
overflow_mul-scale c = omega (arith, scale_fits c.loop-i.i c.loop-i.scale c.loop-i.invariant.power c.loop-i-test.true)

pub loop-i-preserved : goal.loop-i-preserved
loop-i-preserved c =
    let fits : c.in-Some.byte < 256 = omega arith in
    goes_on _ _ _ _ _ _ _ c.loop-i-test.true c.loop-i.invariant (search rules) c.if-byte-lt128.false fits

pub returns-in_default-first : goal.returns-in_default-first
returns-in_default-first c = (runs_out _ _ _ _ _ (omega arith) c.loop-i.invariant (search rules), search rules)

pub returns-then-byte-gt1 : goal.returns-then-byte-gt1
returns-then-byte-gt1 c = (too_large _ _ _ c.in-Some-first.byte c.in-Some-first.after.now _ _ (omega arith) c.loop-i.invariant (search rules) (omega arith), search rules)

pub returns : goal.returns
returns c = ends_at_ten _ _ _ _ _ _ _ (omega arith) c.loop-i.invariant (search rules) (omega arith)

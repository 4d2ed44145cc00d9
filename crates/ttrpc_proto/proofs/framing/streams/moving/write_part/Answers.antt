use Rattle.std.proofs.Common.{ap, arith, length, refl}
use Rattle.std.proofs.lemmas.List.{length-drop}
use Rattle.ttrpc_proto.proofs.Bytes.{appends_on, slice_rest}
use Rattle.ttrpc_proto.proofs.Calls.{offers_on, offers_end, zero_lasts}
use Rattle.ttrpc_proto.proofs.framing.streams.moving.write_part.Goals as goal

pub loop-at-preserved : goal.loop-at-preserved
loop-at-preserved g c =
    let rest = slice_rest c.loop-at.at c.args.part.now in
    let fits = c.in-Ok.ensures.bound in
    record {
      inside = omega (arith, fits, ap length rest, length-drop c.loop-at.at c.args.part.now);
      written = appends_on _ _ _ _ _ _ _ rest c.loop-at.invariant.written c.in-Ok.ensures.bytes;
      calls = offers_on _ _ _ _ _ _ _ rest (let ne = c.in-Ok.taken-test.1 in omega (arith, ne)) fits c.loop-at.invariant.calls c.in-Ok.ensures.calls;
    }

pub returns-in-Ok-eq0-clause-calls : goal.returns-in-Ok-eq0-clause-calls
returns-in-Ok-eq0-clause-calls g c =
    offers_end _ _ _ _ _ _ _ _ (slice_rest c.loop-at.at c.args.part.now) c.loop-at-test.true (c.in-Ok-eq0.field-0-test, c.into.ensures) (zero_lasts _ c.into.ensures) c.loop-at.invariant.calls c.in-Ok-eq0.ensures.calls

pub returns-in-Err-clause-calls : goal.returns-in-Err-clause-calls
returns-in-Err-clause-calls g c =
    offers_end _ _ _ _ _ _ _ _ (slice_rest c.loop-at.at c.args.part.now) c.loop-at-test.true refl c.in-Err.ensures.err c.loop-at.invariant.calls c.in-Err.ensures.calls

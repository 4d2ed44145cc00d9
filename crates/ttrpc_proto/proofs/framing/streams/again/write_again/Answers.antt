use Rattle.std.proofs.Common.{ap, rules, sym, ◌∙◌}
use Rattle.ttrpc_proto.specs.Framing.Streams.{Failed, answered}
use Rattle.ttrpc_proto.proofs.Calls.{tries_more}
use Rattle.ttrpc_proto.proofs.framing.streams.again.write_again.Goals as goal

pub loop-tries-preserved : goal.loop-tries-preserved
loop-tries-preserved g c =
    let passes = c.includes.ensures.0 c.if-includes.true in
    record {
      kept = search rules;
      passed = search rules;
      calls = tries_more _ _ _ _ _ _ _ (_, ap answered c.in-Err.is ∙ ap Failed (sym c.kind.ensures), passes) c.loop-tries.invariant.calls c.write.ensures.calls;
    }

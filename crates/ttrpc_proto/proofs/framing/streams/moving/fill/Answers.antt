use Rattle.std.proofs.Common.{◌-◌, ◌+◌, length, rules}
use Rattle.ttrpc_proto.proofs.Bytes.{consumes_on, front_with}
use Rattle.ttrpc_proto.proofs.Calls.{counts_more, spends_more}
use Rattle.ttrpc_proto.specs.declared.framing.streams.again.Passing.TheVariants.{Interrupted as OnlyInterrupted}
use Rattle.ttrpc_proto.proofs.framing.streams.moving.fill.Goals as goal

pub returns-in-Err-clause-spent : goal.returns-in-Err-clause-spent
returns-in-Err-clause-spent g c =
    let spent = c.in-Err.ensures.spent in
    let before = c.loop-at.invariant.counted in
    (before.0 + spent.0, counts_more _ _ _ _ _ before.1 spent.1, spends_more OnlyInterrupted (g.R.Source.last c.read_again.new.reader) before.0 spent.0 spent.2)

pub loop-at-preserved : goal.loop-at-preserved
loop-at-preserved g c =
    let front = front_with c.loop-at.at (length c.loop-at.buffer - c.loop-at.at) c.in-Ok.n c.loop-at.buffer c.read_again.new.buffer c.loop-at.invariant.inside c.in-Ok.ensures.bound.0 in
    record {
      size = search rules;
      inside = search rules;
      read = consumes_on _ _ _ _ _ _ front c.loop-at.invariant.read c.in-Ok.ensures.bytes.0;
      counted = (_, counts_more _ _ _ _ _ c.loop-at.invariant.counted.1 c.in-Ok.ensures.spent.1);
    }

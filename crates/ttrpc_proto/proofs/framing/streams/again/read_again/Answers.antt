use Rattle.ttrpc_proto.proofs.Calls.{counts_more, spends_none}
use Rattle.ttrpc_proto.proofs.framing.streams.again.read_again.Goals as goal

pub returns-in-Ok-clause-spent : goal.returns-in-Ok-clause-spent
returns-in-Ok-clause-spent g c =
    spends_none c.args.passing _ _ (g.R.Source.last c.read.new.self) _ _ (counts_more _ _ _ _ _ c.loop-tries.invariant.counted c.in-Ok.ensures.reads) c.in-Ok.ensures.last

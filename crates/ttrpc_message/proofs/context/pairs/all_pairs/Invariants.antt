use Rattle.std.proofs.Common.{◌≡◌}
use Rattle.ttrpc_message.specs.Metadata.{pairs_of, seen}
use Rattle.ttrpc_message.proofs.context.pairs.all_pairs.Given as goal

abbrev pub invariant-loop-key : goal.invariant-loop-key
invariant-loop-key l = l.pairs.items ≡ pairs_of (seen l.yielded)

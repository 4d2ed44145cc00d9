use Rattle.std.proofs.Common.{◌≡◌, ◌++◌, map, string_bytes}
use Rattle.ttrpc_message.specs.Metadata.{pairs_at}
use Rattle.ttrpc_message.proofs.context.pairs.push_pairs.Given as goal

abbrev pub invariant-loop-text : goal.invariant-loop-text
invariant-loop-text l = l.pairs.items ≡ l.fn.pairs.items ++ pairs_at l.fn.key (map string_bytes l.yielded)

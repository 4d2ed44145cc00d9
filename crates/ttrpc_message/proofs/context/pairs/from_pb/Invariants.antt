use Rattle.std.proofs.Common.{◌≡◌, ℕ, List, take}
use Rattle.ttrpc_message.specs.Metadata.{seen, some_texts, texts_of, values_at}
use Rattle.ttrpc_message.proofs.context.pairs.from_pb.Given as goal

abbrev pub invariant-loop-pair : goal.invariant-loop-pair
invariant-loop-pair l = (key : List ℕ) → texts_of (seen l.metadata.entries) key ≡ some_texts (values_at (take l.pair-index l.kvs) key)

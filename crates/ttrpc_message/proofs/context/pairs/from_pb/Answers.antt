use Rattle.std.proofs.Common.{rules, ◌≡◌, string_bytes}
use Rattle.ttrpc_message.specs.Metadata.{Adds, seen}
use Rattle.ttrpc_message.proofs.Taken.{pair_taken}
use Rattle.ttrpc_message.proofs.context.pairs.from_pb.Goals as goal

pub loop-pair-preserved : goal.loop-pair-preserved
loop-pair-preserved c =
    let key : string_bytes c.into_string-key.result ≡ c.pair-item.result.key = search rules in
    let value : string_bytes c.into_string-value.result ≡ c.pair-item.result.value = search rules in
    let adds : Adds (seen c.loop-pair.metadata.entries) c.pair-item.result.key c.pair-item.result.value (seen c.push.new.metadata.entries) = rw (← key, ← value) c.in_ok-push.ensures.ok in
    pair_taken (seen c.loop-pair.metadata.entries) (seen c.push.new.metadata.entries) c.args.kvs.now c.loop-pair.pair-index c.pair-item.result c.loop-pair-test.true c.pair-item.is c.loop-pair.invariant adds

use Rattle.std.proofs.Common.{arith, take}
use Rattle.ttrpc_proto.proofs.Streamed.{grown}
use Rattle.ttrpc_proto.proofs.framing.reading.read_behind.Goals as goal

pub returns-clause-read : goal.returns-clause-read
returns-clause-read g c = (
  take c.fill-came.result.0 c.fill-came.new.buffer,
  c.fill-came.ensures.bytes,
  grown c.args.bytes.now.items _ c.fill-came.new.buffer _ _ _ c.args.held c.fill-came.result.0 _ c.requires c.deref_mut.ensures.value c.fill-came.ensures.bound (let size = c.fill-came.auto.buffer in let len = c.deref_mut.ensures.len in let came = c.fill-came.ensures.bound in omega arith) c.truncate.ensures.items,
)

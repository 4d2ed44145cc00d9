use Rattle.ttrpc_proto.specs.Framing.Header.{header_bytes}
use Rattle.ttrpc_proto.specs.Framing.Streams.{Flushes, Writes}
use Rattle.ttrpc_proto.proofs.Bytes.{appends_flushed}
use Rattle.ttrpc_proto.proofs.Calls.{then_goes}
use Rattle.ttrpc_proto.proofs.framing.header.MessageHeader.write_to.Goals as goal

pub returns-clause-err : goal.returns-clause-err
returns-clause-err g c = appends_flushed _ _ _ _ _ _ c.to_bytes.ensures c.in_ok-write_part.ensures.ok c.flush.ensures.bytes

pub returns-clause-calls : goal.returns-clause-calls
returns-clause-calls g c = then_goes _ _ _ (Writes (header_bytes c.args.self.now)) Flushes _ (rw c.to_bytes.ensures at c.in_ok-write_part.ensures.calls) c.flush.ensures.calls

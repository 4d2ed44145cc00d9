use Rattle.std.proofs.Common.{None, Some}
use Rattle.std.specs.IoError.{error_kind}
use Rattle.ttrpc_proto.specs.Framing.Streams.{Flushes}
use Rattle.ttrpc_proto.proofs.Bytes.{front_kept}
use Rattle.ttrpc_proto.proofs.Calls.{then_goes}
use Rattle.ttrpc_proto.specs.Framing.Streaming.{WritesFrame}
use Rattle.ttrpc_proto.proofs.Sent.{went_no_further}
use Rattle.ttrpc_proto.proofs.framing.writing.write_flushed.Goals as goal

pub returns-in-Err-clause-calls : goal.returns-in-Err-clause-calls
returns-in-Err-clause-calls g c = went_no_further _ _ (WritesFrame c.args.header.now c.args.payload.now) Flushes c.in-Err.failure c.in-Err.ensures.calls

pub returns-in-Ok-clause-calls : goal.returns-in-Ok-clause-calls
returns-in-Ok-clause-calls g c = then_goes _ _ _ (WritesFrame c.args.header.now c.args.payload.now) Flushes None c.in_default.ensures.calls c.in-Ok.ensures.calls

pub returns-in-Err-flush-clause-err : goal.returns-in-Err-flush-clause-err
returns-in-Err-flush-clause-err g c = front_kept _ _ _ _ c.in_default.ensures.ok c.in-Err-flush.ensures.bytes

pub returns-in-Err-flush-clause-calls : goal.returns-in-Err-flush-clause-calls
returns-in-Err-flush-clause-calls g c = then_goes _ _ _ (WritesFrame c.args.header.now c.args.payload.now) Flushes (Some (error_kind c.in-Err-flush.error)) c.in_default.ensures.calls c.in-Err-flush.ensures.calls

use Rattle.std.proofs.Common.{refl}
use Rattle.ttrpc_proto.specs.Framing.Streams.{Writes}
use Rattle.ttrpc_proto.proofs.Bytes.{front_of_both, front_of_part}
use Rattle.ttrpc_proto.proofs.Calls.{then_goes}
use Rattle.ttrpc_proto.proofs.framing.streams.moving.write_both.Goals as goal

pub returns-in-Err-clause-err : goal.returns-in-Err-clause-err
returns-in-Err-clause-err g c = front_of_part _ _ c.args.first.now c.args.second.now _ refl c.in-Err.ensures.err

pub returns-clause-err : goal.returns-clause-err
returns-clause-err g c = front_of_both _ _ _ _ _ _ c.in_default.ensures.ok c.write_part-2.ensures.err

pub returns-clause-calls : goal.returns-clause-calls
returns-clause-calls g c = then_goes _ _ _ (Writes c.args.first.now) (Writes c.args.second.now) _ c.in_default.ensures.calls c.write_part-2.ensures.calls

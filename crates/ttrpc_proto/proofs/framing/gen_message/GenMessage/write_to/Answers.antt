use Rattle.std.proofs.Common.{Err, refl}
use Rattle.ttrpc_proto.proofs.Sent.{sent_as}
use Rattle.ttrpc_proto.proofs.framing.gen_message.GenMessage.write_to.Goals as goal

pub returns-clause-calls : goal.returns-clause-calls
returns-clause-calls g c = (Err c.in-Err.failure, sent_as _ _ c.args.self.now.header _ _ (Err c.in-Err.failure) c.as_slice.ensures c.in-Err.ensures.calls, (c.into_error.result, refl, c.into_error.ensures))

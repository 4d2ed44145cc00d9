use Rattle.std.proofs.Common.{Err, inr, refl, ◌∙◌}
use Rattle.ttrpc_proto.proofs.Sent.{sent_as}
use Rattle.ttrpc_message.proofs.message.Message.write_to.Goals as goal

pub returns-clause-calls : goal.returns-clause-calls
returns-clause-calls g c =
    inr (
      Err c.in-Err-write_flushed.failure,
      sent_as _ _ c.args.self.now.header _ _ (Err c.in-Err-write_flushed.failure) (c.as_slice.ensures.value ∙ c.in-Ok.ensures.ok) c.in-Err-write_flushed.ensures.calls,
      (c.into_error.result, refl, c.into_error.ensures),
    )

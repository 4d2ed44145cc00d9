use Rattle.std.proofs.lemmas.Result.{IfOk-weaker}
use Rattle.ttrpc_sync_client.proofs.client.Client.with_hook.Goals as goal

pub returns-in-Ok-clause-known : goal.returns-in-Ok-clause-known
returns-in-Ok-clause-known g c = IfOk-weaker c.start.result _ _ (λ client is. (c.in-Ok.output, c.in-Ok.ensures, is)) c.start.ensures.known

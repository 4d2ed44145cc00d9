use Rattle.std.proofs.lemmas.Result.{IfOk-weaker}
use Rattle.ttrpc_polled_client.proofs.client.Client.with_hook.Goals as goal

pub returns-clause-known : goal.returns-clause-known
returns-clause-known g c = IfOk-weaker c.over.result _ _ (λ made is. (c.in-Ok.output, c.in-Ok.ensures, is.facts)) c.over.ensures.ok

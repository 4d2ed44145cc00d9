use Rattle.ttrpc_secure.specs.Context.Texts.{advice_text}
use Rattle.ttrpc_secure.proofs.Unsent.{fails_to_seal}
use Rattle.ttrpc_secure.proofs.context.connection_context.ConnectionContext.outbound.Goals as goal

pub returns-in-Err-clause-refused : goal.returns-in-Err-clause-refused
returns-in-Err-clause-refused g c = rw (← c.as_slice-data.ensures, ← c.associated_bytes-aad.ensures) (fails_to_seal g.O.OutboundTransform c.args.rpc_error advice_text _ _ _ (g.met.O.OutboundTransform.lawful.small c.args.self.now.outbound) c.seal.result c.in-Err.unsent _ _ c.in-Err.is c.seal.ensures.queues_nothing c.in-Err.ensures.err c.seal.ensures.too_long c.seal.ensures.refused c.unsent_error.ensures)

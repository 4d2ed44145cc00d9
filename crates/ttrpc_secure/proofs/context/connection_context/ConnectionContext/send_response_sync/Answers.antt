use Rattle.std.proofs.Common.{[], true}
use Rattle.ttrpc_secure.proofs.Unsent.{fails_to_send}
use Rattle.ttrpc_secure.proofs.context.connection_context.ConnectionContext.send_response_sync.Goals as goal

pub returns-in-Err-clause-refused : goal.returns-in-Err-clause-refused
returns-in-Err-clause-refused g c = fails_to_send g.O.OutboundTransform true [] _ _ _ (g.met.O.OutboundTransform.lawful.small c.args.self.now.outbound) c.args.outgoing.now c.send_copy.result c.in-Err.unsent _ _ c.in-Err.is c.in-Err.ensures.err.0 c.send_copy.ensures.too_long c.send_copy.ensures.no_room c.send_copy.ensures.refused c.unsent_error.ensures

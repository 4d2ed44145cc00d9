use Rattle.ttrpc_client.proofs.Words.{◌≡◌, [], subst, Client}
use Rattle.ttrpc_client.proofs.Keeping.{none_told}
use Rattle.ttrpc_client.proofs.state.ClientState.next_ended.Goals as goal

pub returns-clause-let_go : goal.returns-clause-let_go
returns-clause-let_go c = subst (λ (s : Client). s.calls ≡ [] → s.ended ≡ []) c.self.view_is (none_told _ _ c.self.invariant.0.told)

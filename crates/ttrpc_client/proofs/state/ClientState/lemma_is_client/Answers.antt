use Rattle.ttrpc_client.proofs.Words.{AreStreams, Client, IsClient, subst}
use Rattle.ttrpc_client.proofs.state.ClientState.lemma_is_client.Goals as goal

pub returns-clause-calls : goal.returns-clause-calls
returns-clause-calls c = subst (λ (s : Client). IsClient s.next s.calls) c.self.view_is c.self.invariant.0.valid

pub returns-clause-streams : goal.returns-clause-streams
returns-clause-streams c = subst (λ (s : Client). AreStreams s.next s.calls s.streams) c.self.view_is c.self.invariant.1

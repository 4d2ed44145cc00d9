use Rattle.ttrpc_server.proofs.Words.{subst, sym, EndsOne, Server}
use Rattle.ttrpc_server.proofs.state.ServerState.end_stream.Goals as goal

pub returns-clause-ended : goal.returns-clause-ended
returns-clause-ended c = λ job at. subst (λ (s : Server). EndsOne c.args.self.now.jobs.list c.args.id job s.jobs.list) (sym c.self.view_is) (c.end.ensures.ended job at)

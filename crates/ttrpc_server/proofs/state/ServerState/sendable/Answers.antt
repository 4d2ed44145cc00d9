use Rattle.ttrpc_server.proofs.Words.{rules, inl, inr, refl}
use Rattle.ttrpc_proto.specs.declared.error.Error.TheVariants.{LocalClosed}
use Rattle.ttrpc_server.proofs.Astray.{has_ended}
use Rattle.ttrpc_server.proofs.state.ServerState.sendable.Goals as goal

pub returns-in-None-clause-err : goal.returns-in-None-clause-err
returns-in-None-clause-err c =
    rw (← c.self.view_is) (inr (search rules, (LocalClosed, has_ended LocalClosed c.self.inside.jobs c.args.id (search rules) (search rules), inl refl)))

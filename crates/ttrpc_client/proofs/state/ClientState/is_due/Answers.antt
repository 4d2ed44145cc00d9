use Rattle.ttrpc_client.proofs.Words.{arith, sym}
use Rattle.ttrpc_client.proofs.Expiring.{none_above}
use Rattle.ttrpc_client.specs.pending.Places.{entries_in}
use Rattle.ttrpc_client.proofs.state.ClientState.is_due.Goals as goal

pub returns-in-Err : goal.returns-in-Err
returns-in-Err c = rw (← c.self.view_is) (sym (none_above c.self.inside.next (entries_in c.self.inside.calls) c.args.id c.args.now c.self.invariant.0.valid (omega (arith, c.in-Err.ensures))))

use Rattle.ttrpc_server.proofs.Words.{arith}
use Rattle.ttrpc_server.proofs.Kept.{kept_none}
use Rattle.ttrpc_server.proofs.state.ServerState.new.Goals as goal

pub invariant_of-result : goal.invariant_of-result
invariant_of-result c = rw (c.new.ensures, c.new-2.ensures) (kept_none c.args.rules, λ async. omega arith)

use Rattle.ttrpc_pair.proofs.Words.{inr, rules}
use Rattle.ttrpc_pair.proofs.pair.Pair.awaiting.Goals as goal

pub returns-then-contains-clause-none : goal.returns-then-contains-clause-none
returns-then-contains-clause-none g c = inr (search rules)

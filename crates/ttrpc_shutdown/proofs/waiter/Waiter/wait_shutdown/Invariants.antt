use Rattle.std.proofs.Common.{◌≡◌}
use Rattle.ttrpc_shutdown.proofs.waiter.Waiter.wait_shutdown.Given as goal

-- it is still at its table
abbrev pub invariant-loop : goal.invariant-loop
invariant-loop g l =
    (goal.iterator-loop g).can_next l.iterator' × (goal.iterator-loop g).is_finite l.iterator' × (l.self.table ≡ l.fn.self.table)

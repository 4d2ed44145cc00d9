use Rattle.std.proofs.Common.{◌≡◌}
use Rattle.ttrpc_shutdown.specs.Holding.{having_read}
use Rattle.ttrpc_shutdown.proofs.notifier.wait_for.Given as goal

-- the seat is as it was, but for the count that was read last
abbrev pub invariant-loop : goal.invariant-loop
invariant-loop g l =
    (goal.iterator-loop g).can_next l.iterator' × (goal.iterator-loop g).is_finite l.iterator' × (l.post ≡ having_read l.fn.post l.post.holder.saw)

use Rattle.std.proofs.Common.{◌-◌}
use Rattle.ttrpc_client.proofs.Searching.{IsSought}
use Rattle.ttrpc_client.proofs.pending.Pending.find.Given as goal

abbrev pub invariant-loop-low : goal.invariant-loop-low
invariant-loop-low g l = IsSought l.id l.self l.low l.high l.fn.looks.count l.looks.count

abbrev pub decreases-loop-low : goal.decreases-loop-low
decreases-loop-low g l = l.high - l.low

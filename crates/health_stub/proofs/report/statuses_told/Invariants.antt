use Rattle.std.specs.BTreeMap.{IsOrdered}
use Rattle.std.specs.Ordering.{nat_cmp}
use Rattle.health_stub.proofs.Telling.{AreToldBy}
use Rattle.health_stub.proofs.report.statuses_told.Given as goal

abbrev pub invariant-loop-entry : goal.invariant-loop-entry
invariant-loop-entry l = record {
  told : AreToldBy l.trace l.entry-index l.told.entries;
  ordered : IsOrdered nat_cmp l.told;
}

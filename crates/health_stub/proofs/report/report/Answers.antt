use Rattle.std.proofs.Common.{◌≡◌, rules}
use Rattle.std.proofs.lemmas.Map.Keys.{IsStrictlyIncreasing-from_sorted}
use Rattle.health_stub.proofs.report.report.Goals as goal

pub returns-clause-found : goal.returns-clause-found
returns-clause-found c =
    let items : c.in_ok-collect.field-0.items ≡ c.in_ok-told.told.entries = search rules in (
      rw c.if-branch.false at c.in_ok-is_answered_otherwise.ensures.no,
      rw items (IsStrictlyIncreasing-from_sorted _ c.in_ok-told.ensures.ordered),
      rw items c.in_ok-told.ensures.told,
    )

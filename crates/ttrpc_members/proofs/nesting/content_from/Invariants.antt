use Rattle.std.proofs.Common.{◌≡◌, drop}
use Rattle.ttrpc_members.specs.Nesting.{content_from}
use Rattle.ttrpc_members.proofs.nesting.content_from.Given as goal

abbrev pub invariant-loop-rule : goal.invariant-loop-rule
invariant-loop-rule l = content_from (drop l.rule-index l.rules) l.message l.number ≡ content_from l.rules l.message l.number

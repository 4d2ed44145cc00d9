use Rattle.std.proofs.Common.{arith, sym, ◌∙◌}
use Rattle.ttrpc_members.proofs.NestingLaws.{content_found, content_nowhere, content_passed, content_ended}
use Rattle.ttrpc_members.proofs.nesting.content_from.Goals as goal

pub returns : goal.returns
returns c = sym (content_nowhere c.args.message c.args.number c.args.rules.now c.loop-rule.rule-index (omega (arith, c.loop-rule-test.false))) ∙ c.loop-rule.invariant

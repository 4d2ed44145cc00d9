use Rattle.std.proofs.Common.{rules}
use Rattle.health_stub.proofs.trace.calls_check.Goals as goal

pub returns-in-Call-Named-clause-yes : goal.returns-in-Call-Named-clause-yes
returns-in-Call-Named-clause-yes c = (c.in-Call-Named.request, search rules, search rules)

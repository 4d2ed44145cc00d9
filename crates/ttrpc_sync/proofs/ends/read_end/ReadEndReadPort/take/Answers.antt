use Rattle.std.proofs.Common.{rules, arith}
use Rattle.ttrpc_sync.proofs.ends.read_end.ReadEndReadPort.take.Goals as goal

pub returns-then-taken-gt0-clause-some : goal.returns-then-taken-gt0-clause-some
returns-then-taken-gt0-clause-some g c = (search (rules, arith), search rules, search rules)

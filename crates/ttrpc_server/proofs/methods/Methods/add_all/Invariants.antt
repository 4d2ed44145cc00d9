use Rattle.ttrpc_server.specs.Methods.{AddsAll}
use Rattle.ttrpc_server.proofs.methods.Methods.add_all.Given as goal

-- what came so far was added
abbrev pub invariant-loop-path : goal.invariant-loop-path
invariant-loop-path g l = record {
  added : AddsAll l.fn.self l.yielded l.self;
}

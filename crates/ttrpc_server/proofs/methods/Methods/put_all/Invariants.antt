use Rattle.ttrpc_server.specs.Methods.{PutsAll}
use Rattle.ttrpc_server.proofs.methods.Methods.put_all.Given as goal

-- what came so far was put
abbrev pub invariant-loop-name : goal.invariant-loop-name
invariant-loop-name g l = record {
  put : PutsAll l.fn.self l.service l.yielded l.self;
}

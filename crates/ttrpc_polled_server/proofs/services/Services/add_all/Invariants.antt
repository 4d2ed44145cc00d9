use Rattle.ttrpc_polled_server.specs.Served.{ServesAll}
use Rattle.ttrpc_polled_server.proofs.services.Services.add_all.Given as goal

-- what came so far was added
abbrev pub invariant-loop-name : goal.invariant-loop-name
invariant-loop-name g l = record {
  added : ServesAll l.fn.self l.yielded l.self;
}

use Rattle.std.proofs.Common.{◌≡◌, [], None}
use Rattle.ttrpc_sync.specs.declared.ports.PortState.TheVariants.{Open}
use Rattle.ttrpc_sync.specs.Loops.{IsOneMore}
use Rattle.ttrpc_sync.specs.Work.{Worked}
use Rattle.ttrpc_sync.proofs.work.work_loop.Given as goal

-- What was taken was reported, and the worker went out of the gate each time.
abbrev pub invariant-loop : goal.invariant-loop
invariant-loop g l = record {
  next : (goal.iterator-loop g).can_next l.iterator';
  finite : (goal.iterator-loop g).is_finite l.iterator';
  state : g.P.JobPort.state l.port ≡ Open;
  current : g.P.JobPort.current l.port ≡ None;
  begun : IsOneMore (g.P.JobPort.begun l.fn.port) (g.P.JobPort.begun l.port);
  worked : Worked (g.H.Handler.gives l.fn.handler) [] (g.P.JobPort.taken l.fn.port) (g.P.JobPort.taken l.port) (g.P.JobPort.reported l.fn.port) (g.P.JobPort.reported l.port) (g.G.Gate.passages l.fn.gate) (g.G.Gate.passages l.gate);
}

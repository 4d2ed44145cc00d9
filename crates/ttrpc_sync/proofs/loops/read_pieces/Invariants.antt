use Rattle.std.proofs.Common.{◌≡◌, length}
use Rattle.ttrpc_sync.specs.declared.ports.PortState.TheVariants.{Open}
use Rattle.ttrpc_sync.specs.Loops.{HandedAll, IsOneMore}
use Rattle.ttrpc_sync.proofs.loops.read_pieces.Given as goal

-- The port took all that the reader gave.
abbrev pub invariant-loop : goal.invariant-loop
invariant-loop g l = record {
  next : (goal.iterator-loop g).can_next l.iterator';
  finite : (goal.iterator-loop g).is_finite l.iterator';
  state : g.P.ReadPort.state l.port ≡ Open;
  begun : IsOneMore (g.P.ReadPort.begun l.fn.port) (g.P.ReadPort.begun l.port);
  size : length l.buffer ≡ length l.fn.buffer;
  handed : HandedAll (g.R.Source.remaining l.fn.reader) (g.R.Source.remaining l.reader) (g.P.ReadPort.taken l.fn.port) (g.P.ReadPort.taken l.port);
}

use Rattle.std.proofs.Common.{◌≡◌, All, length}
use Rattle.ttrpc_sync.specs.declared.ports.PortState.TheVariants.{Open}
use Rattle.ttrpc_sync.specs.Loops.{GoesOn, IsOneMore, Written, reported}
use Rattle.ttrpc_proto.specs.Framing.Streams.{Makes}
use Rattle.ttrpc_sync.proofs.loops.write_pieces.Given as goal

-- What the writer took was reported, and no call of it was one to end at.
abbrev pub invariant-loop : goal.invariant-loop
invariant-loop g l = record {
  next : (goal.iterator-loop g).can_next l.iterator';
  finite : (goal.iterator-loop g).is_finite l.iterator';
  state : g.P.WritePort.state l.port ≡ Open;
  begun : IsOneMore (g.P.WritePort.begun l.fn.port) (g.P.WritePort.begun l.port);
  size : length l.buffer ≡ length l.fn.buffer;
  written : Written (g.W.Sink.contents l.fn.writer) (g.W.Sink.contents l.writer) (reported (g.P.WritePort.told l.fn.port)) (reported (g.P.WritePort.told l.port));
  calls : Makes (g.W.Sink.calls l.fn.writer) (g.W.Sink.calls l.writer) (All GoesOn);
}

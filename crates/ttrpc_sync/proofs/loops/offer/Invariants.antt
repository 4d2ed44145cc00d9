use Rattle.std.proofs.Common.{◌≡◌, ◌≤◌, length, take}
use Rattle.std.specs.Io.KnownBytes.{Appends}
use Rattle.ttrpc_sync.specs.declared.ports.PortState.TheVariants.{Open}
use Rattle.ttrpc_sync.specs.Loops.{IsSameCount}
use Rattle.ttrpc_sync.proofs.loops.offer.Given as goal

-- The port took the piece up to here.
abbrev pub invariant-loop : goal.invariant-loop
invariant-loop g l = record {
  next : (goal.iterator-loop g).can_next l.iterator';
  finite : (goal.iterator-loop g).is_finite l.iterator';
  state : g.P.ReadPort.state l.port ≡ Open;
  begun : IsSameCount (g.P.ReadPort.begun l.fn.port) (g.P.ReadPort.begun l.port);
  inside : l.at ≤ length l.fn.piece;
  taken : Appends (g.P.ReadPort.taken l.fn.port) (g.P.ReadPort.taken l.port) (take l.at l.fn.piece);
}

use Rattle.std.proofs.Common.{◌≡◌, length}
use Rattle.ttrpc_wire.specs.Fold.{read_from}
use Rattle.ttrpc_wire.proofs.codec.message.read_into.Given as goal

abbrev pub invariant-loop-reader : goal.invariant-loop-reader
invariant-loop-reader g l = read_from g.M.WireMessage.step l.message l.reader ≡ read_from g.M.WireMessage.step l.fn.message l.bytes

abbrev pub decreases-loop-reader : goal.decreases-loop-reader
decreases-loop-reader g l = length l.reader

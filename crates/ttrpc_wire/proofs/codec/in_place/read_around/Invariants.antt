use Rattle.std.proofs.Common.{length}
use Rattle.ttrpc_wire.proofs.Around.{IsAround}
use Rattle.ttrpc_wire.proofs.codec.in_place.read_around.Given as goal

abbrev pub invariant-loop-reader : goal.invariant-loop-reader
invariant-loop-reader g l = IsAround g.M.WireMessage.step g.M.WireMessage.empty g.M.CarriesPayload.with_payload l.bytes l.message l.place.0 l.place.1 l.reader

abbrev pub decreases-loop-reader : goal.decreases-loop-reader
decreases-loop-reader g l = length l.reader

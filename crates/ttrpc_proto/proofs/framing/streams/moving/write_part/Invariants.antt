use Rattle.std.proofs.Common.{◌≤◌, ◌-◌, length, take, drop, List}
use Rattle.std.specs.Io.KnownBytes.{Appends}
use Rattle.ttrpc_proto.specs.Framing.Streams.{Called, Makes, Offers}
use Rattle.ttrpc_proto.proofs.framing.streams.moving.write_part.Given as goal

-- the part was offered and appended up to here
abbrev pub invariant-loop-at : goal.invariant-loop-at
invariant-loop-at g l = record {
  inside : l.at ≤ length l.fn.part;
  written : Appends (g.W.Sink.contents l.fn.writer) (g.W.Sink.contents l.writer) (take l.at l.fn.part);
  calls : Makes (g.W.Sink.calls l.fn.writer) (g.W.Sink.calls l.writer) (λ (calls : List Called). Offers l.fn.part calls (drop l.at l.fn.part));
}

abbrev pub decreases-loop-at : goal.decreases-loop-at
decreases-loop-at g l = length l.fn.part - l.at

use Rattle.std.proofs.Common.{◌≡◌, ◌<◌, All, IfSome, length, List}
use Rattle.std.specs.Io.KnownBytes.{Keeps}
use Rattle.ttrpc_proto.specs.Framing.Streams.{Called, IsPassed, Makes, Passes}
use Rattle.ttrpc_proto.proofs.framing.streams.again.write_again.Given as goal

-- nothing was written so far, and each try passed
abbrev pub invariant-loop-tries : goal.invariant-loop-tries
invariant-loop-tries g l = record {
  kept : Keeps (g.W.Sink.contents l.fn.writer) (g.W.Sink.contents l.writer);
  passed : 0 < l._tries → IfSome (g.W.Sink.last l.writer) (Passes l.passing);
  calls : Makes (g.W.Sink.calls l.fn.writer) (g.W.Sink.calls l.writer) (λ (calls : List Called). All (IsPassed l.passing l.fn.bytes) calls × (length calls ≡ l._tries));
}

use Rattle.std.proofs.Common.{◌<◌, IfSome}
use Rattle.std.specs.Io.KnownBytes.{Keeps}
use Rattle.ttrpc_proto.specs.Framing.Streams.{Counts, Passes}
use Rattle.ttrpc_proto.proofs.framing.streams.again.read_again.Given as goal

-- nothing was read so far, and each try passed
abbrev pub invariant-loop-tries : goal.invariant-loop-tries
invariant-loop-tries g l = record {
  kept : Keeps (g.R.Source.remaining l.fn.reader) (g.R.Source.remaining l.reader);
  passed : 0 < l._tries → IfSome (g.R.Source.last l.reader) (Passes l.passing);
  counted : Counts (g.R.Source.reads l.fn.reader) (g.R.Source.reads l.reader) l._tries;
}

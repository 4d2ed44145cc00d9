use Rattle.std.proofs.Common.{◌≡◌, ◌+◌, length, List, ℕ}
use Rattle.std.specs.Io.KnownBytes.{Consumes}
use Rattle.ttrpc_proto.proofs.framing.reading.pass.Given as goal

-- all but what is left was read
abbrev pub invariant-loop-left : goal.invariant-loop-left
invariant-loop-left g l = record {
  page : length l.page ≡ 4096;
  bytes : List ℕ;
  read : Consumes (g.R.Source.remaining l.fn.reader) (g.R.Source.remaining l.reader) bytes;
  count : length bytes + l.left ≡ l.fn.count;
}

abbrev pub decreases-loop-left : goal.decreases-loop-left
decreases-loop-left g l = l.left

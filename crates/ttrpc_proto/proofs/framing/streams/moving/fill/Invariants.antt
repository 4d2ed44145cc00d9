use Rattle.std.proofs.Common.{◌≡◌, ◌≤◌, ◌-◌, ℕ, length, take}
use Rattle.std.specs.Io.KnownBytes.{Consumes}
use Rattle.ttrpc_proto.specs.Framing.Streams.{Counts}
use Rattle.ttrpc_proto.proofs.framing.streams.moving.fill.Given as goal

-- what was consumed is the front of the buffer
abbrev pub invariant-loop-at : goal.invariant-loop-at
invariant-loop-at g l = record {
  size : length l.buffer ≡ length l.fn.buffer;
  inside : l.at ≤ length l.buffer;
  read : Consumes (g.R.Source.remaining l.fn.reader) (g.R.Source.remaining l.reader) (take l.at l.buffer);
  counted : (n : ℕ) × Counts (g.R.Source.reads l.fn.reader) (g.R.Source.reads l.reader) n;
}

abbrev pub decreases-loop-at : goal.decreases-loop-at
decreases-loop-at g l = length l.fn.buffer - l.at

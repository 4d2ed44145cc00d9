use Rattle.std.proofs.Common.{◌≤◌, ◌-◌, length}
use Rattle.std.specs.Io.KnownBytes.{Consumes}
use Rattle.ttrpc_proto.proofs.framing.reading.read_body.Given as goal

-- what was read is the body so far
abbrev pub invariant-loop-body : goal.invariant-loop-body
invariant-loop-body g l = record {
  fits : length l.body.items ≤ l.fn.stated;
  read : Consumes (g.R.Source.remaining l.fn.reader) (g.R.Source.remaining l.reader) l.body.items;
}

abbrev pub decreases-loop-body : goal.decreases-loop-body
decreases-loop-body g l = l.fn.stated - length l.body.items

use Rattle.std.proofs.Common.{◌≡◌, length}
use Rattle.ttrpc_members.specs.Nesting.{numbers_in}
use Rattle.ttrpc_members.proofs.nesting.check_numbers.Given as goal

abbrev pub invariant-loop-reader : goal.invariant-loop-reader
invariant-loop-reader l = numbers_in l.wire_type l.reader ≡ numbers_in l.wire_type l.bytes

abbrev pub decreases-loop-reader : goal.decreases-loop-reader
decreases-loop-reader l = length l.reader

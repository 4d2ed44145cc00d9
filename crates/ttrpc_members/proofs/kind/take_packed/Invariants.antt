use Rattle.std.proofs.Common.{◌≡◌, length}
use Rattle.ttrpc_members.specs.Kinds.{packed_from}
use Rattle.ttrpc_members.proofs.kind.take_packed.Given as goal

abbrev pub invariant-loop-reader : goal.invariant-loop-reader
invariant-loop-reader g l = packed_from g.I.ItemKind.form l.member l.reader ≡ packed_from g.I.ItemKind.form l.fn.member l.bytes

abbrev pub decreases-loop-reader : goal.decreases-loop-reader
decreases-loop-reader g l = length l.reader

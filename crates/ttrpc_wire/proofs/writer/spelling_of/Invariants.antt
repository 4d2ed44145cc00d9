use Rattle.std.proofs.Common.{◌≡◌, length, take}
use Rattle.ttrpc_wire.proofs.Digits.{Spelling}
use Rattle.ttrpc_wire.proofs.writer.spelling_of.Given as goal

abbrev pub invariant-loop-i : goal.invariant-loop-i
invariant-loop-i l = (length l.bytes ≡ 10) × Spelling l.i l.rest (take l.i l.bytes) l.n

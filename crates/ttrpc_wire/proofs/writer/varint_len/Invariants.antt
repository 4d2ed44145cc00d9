use Rattle.std.proofs.Common.{ℕ, List}
use Rattle.ttrpc_wire.proofs.Digits.{Spelling}
use Rattle.ttrpc_wire.proofs.writer.varint_len.Given as goal

abbrev pub invariant-loop-i : goal.invariant-loop-i
invariant-loop-i l = (front : List ℕ) × Spelling l.i l.rest front l.n

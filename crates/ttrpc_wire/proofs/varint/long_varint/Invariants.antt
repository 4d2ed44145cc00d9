use Rattle.ttrpc_wire.proofs.LongVarint.{HasRead}
use Rattle.ttrpc_wire.proofs.varint.long_varint.Given as goal

abbrev pub invariant-loop-i : goal.invariant-loop-i
invariant-loop-i l = HasRead l.i l.value l.scale l.rest l.bytes

use Rattle.ttrpc_wire.proofs.Agrees.{no_longer}
use Rattle.ttrpc_wire.proofs.Varints.{varint_agrees}
use Rattle.ttrpc_wire.proofs.laws.no_varint_begins_another.Goals as goal

pub returns : goal.returns
returns c = λ bytes more m n. no_longer varint_agrees bytes more m n

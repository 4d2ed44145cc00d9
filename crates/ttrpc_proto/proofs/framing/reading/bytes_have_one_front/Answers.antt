use Rattle.ttrpc_proto.proofs.Fronts.{one_front, some_front}
use Rattle.ttrpc_proto.proofs.framing.reading.bytes_have_one_front.Goals as goal

pub returns-clause-some : goal.returns-clause-some
returns-clause-some c = some_front

pub returns-clause-one : goal.returns-clause-one
returns-clause-one c = one_front

use Rattle.ttrpc_proto.proofs.Pieces.{from_nothing, any_cuts}
use Rattle.ttrpc_proto.proofs.framing.frame.pieces_are_joined.Goals as goal

pub returns-clause-frames : goal.returns-clause-frames
returns-clause-frames c = from_nothing

pub returns-clause-cuts : goal.returns-clause-cuts
returns-clause-cuts c = any_cuts

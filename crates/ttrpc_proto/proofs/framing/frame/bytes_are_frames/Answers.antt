use Rattle.ttrpc_proto.proofs.Pieces.{is_frames, one_list}
use Rattle.ttrpc_proto.proofs.framing.frame.bytes_are_frames.Goals as goal

pub returns-clause-some : goal.returns-clause-some
returns-clause-some c = is_frames

pub returns-clause-one : goal.returns-clause-one
returns-clause-one c = one_list

use Rattle.ttrpc_proto.proofs.KindTexts.{at_kind, at_place}
use Rattle.ttrpc_proto.proofs.error.kinds.kind_text.Goals as goal

pub returns : goal.returns
returns c = rw at_place (at_kind c.args.kind)

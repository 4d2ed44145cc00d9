use Rattle.ttrpc_proto.specs.Messages.{empty_any, any_step}
use Rattle.ttrpc_proto.specs.Meaning.{OfAny}
use Rattle.ttrpc_proto.proofs.Lists.{reads_mean, mean_reads}
use Rattle.ttrpc_proto.proofs.Five.{any_apart, any_together}
use Rattle.ttrpc_proto.proofs.laws.any_meaning.Goals as goal

pub returns : goal.returns
returns c = λ bytes m. (reads_mean any_step empty_any OfAny any_apart bytes m, mean_reads any_step empty_any OfAny any_together bytes m)

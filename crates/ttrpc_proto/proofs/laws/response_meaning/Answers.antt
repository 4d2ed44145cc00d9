use Rattle.ttrpc_proto.specs.Messages.{empty_response, response_step}
use Rattle.ttrpc_proto.specs.Meaning.{OfResponse}
use Rattle.ttrpc_proto.proofs.Lists.{reads_mean, mean_reads}
use Rattle.ttrpc_proto.proofs.Five.{response_apart, response_together}
use Rattle.ttrpc_proto.proofs.laws.response_meaning.Goals as goal

pub returns : goal.returns
returns c = λ bytes m. (reads_mean response_step empty_response OfResponse response_apart bytes m, mean_reads response_step empty_response OfResponse response_together bytes m)

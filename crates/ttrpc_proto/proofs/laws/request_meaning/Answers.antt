use Rattle.ttrpc_proto.specs.Messages.{empty_request, request_step}
use Rattle.ttrpc_proto.specs.Meaning.{OfRequest}
use Rattle.ttrpc_proto.proofs.Lists.{reads_mean, mean_reads}
use Rattle.ttrpc_proto.proofs.Five.{request_apart, request_together}
use Rattle.ttrpc_proto.proofs.laws.request_meaning.Goals as goal

pub returns : goal.returns
returns c = λ bytes m. (reads_mean request_step empty_request OfRequest request_apart bytes m, mean_reads request_step empty_request OfRequest request_together bytes m)

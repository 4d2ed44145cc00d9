use Rattle.ttrpc_proto.specs.Messages.{empty_status, status_step}
use Rattle.ttrpc_proto.specs.Meaning.{OfStatus}
use Rattle.ttrpc_proto.proofs.Lists.{reads_mean, mean_reads}
use Rattle.ttrpc_proto.proofs.Five.{status_apart, status_together}
use Rattle.ttrpc_proto.proofs.laws.status_meaning.Goals as goal

pub returns : goal.returns
returns c = λ bytes m. (reads_mean status_step empty_status OfStatus status_apart bytes m, mean_reads status_step empty_status OfStatus status_together bytes m)

use Rattle.ttrpc_proto.specs.Messages.{empty_key_value, key_value_step}
use Rattle.ttrpc_proto.specs.Meaning.{OfKeyValue}
use Rattle.ttrpc_proto.proofs.Lists.{reads_mean, mean_reads}
use Rattle.ttrpc_proto.proofs.Five.{key_value_apart, key_value_together}
use Rattle.ttrpc_proto.proofs.laws.key_value_meaning.Goals as goal

pub returns : goal.returns
returns c = λ bytes m. (reads_mean key_value_step empty_key_value OfKeyValue key_value_apart bytes m, mean_reads key_value_step empty_key_value OfKeyValue key_value_together bytes m)

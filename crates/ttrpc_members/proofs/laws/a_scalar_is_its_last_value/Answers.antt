use Rattle.ttrpc_members.proofs.MeaningLaws.{varint_means, fixed64_means, fixed32_means, bytes_mean, text_means, boolean_means}
use Rattle.ttrpc_members.proofs.laws.a_scalar_is_its_last_value.Goals as goal

pub returns-clause-varint : goal.returns-clause-varint
returns-clause-varint g c = varint_means g.C.Coding64.coding

pub returns-clause-fixed64 : goal.returns-clause-fixed64
returns-clause-fixed64 g c = fixed64_means g.C.Coding64.coding

pub returns-clause-fixed32 : goal.returns-clause-fixed32
returns-clause-fixed32 g c = fixed32_means g.D.Coding32.coding

pub returns-clause-in_bytes : goal.returns-clause-in_bytes
returns-clause-in_bytes g c = bytes_mean

pub returns-clause-in_text : goal.returns-clause-in_text
returns-clause-in_text g c = text_means

pub returns-clause-truth : goal.returns-clause-truth
returns-clause-truth g c = boolean_means

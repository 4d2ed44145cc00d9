use Rattle.ttrpc_secure.proofs.Pairs.{PairedFor-Keeps}
use Rattle.ttrpc_secure.proofs.plain.plain_is_paired.Goals as goal

pub returns : goal.returns
returns c = λ s t n. PairedFor-Keeps n s t

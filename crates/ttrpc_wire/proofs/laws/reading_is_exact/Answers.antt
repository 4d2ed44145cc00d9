use Rattle.ttrpc_wire.proofs.Fields.{are_fields, fields_from}
use Rattle.ttrpc_wire.proofs.laws.reading_is_exact.Goals as goal

pub returns : goal.returns
returns c = λ bytes fs. (are_fields bytes fs, fields_from bytes fs)

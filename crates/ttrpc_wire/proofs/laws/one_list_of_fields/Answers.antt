use Rattle.ttrpc_wire.proofs.Fields.{one_list}
use Rattle.ttrpc_wire.proofs.laws.one_list_of_fields.Goals as goal

pub returns : goal.returns
returns c = one_list

use Rattle.ttrpc_wire.proofs.Agrees.{only_one}
use Rattle.ttrpc_wire.proofs.Fields.{field_agrees}
use Rattle.ttrpc_wire.proofs.laws.one_field_at_the_front.Goals as goal

pub returns : goal.returns
returns c = λ bytes rest rest' f g. only_one field_agrees bytes rest rest' f g

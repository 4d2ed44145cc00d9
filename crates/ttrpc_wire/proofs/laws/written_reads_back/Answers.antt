use Rattle.std.proofs.Common.{refl}
use Rattle.ttrpc_wire.specs.Field.{field_bytes, fields_bytes}
use Rattle.ttrpc_wire.proofs.Fields.{field_written, fields_written, IsFields-append}
use Rattle.ttrpc_wire.proofs.laws.written_reads_back.Goals as goal

pub returns-clause-one : goal.returns-clause-one
returns-clause-one c = λ f rest h. record { front = field_bytes f; whole = refl; is = field_written f h }

pub returns-clause-all : goal.returns-clause-all
returns-clause-all c = λ fs gs rest h k. IsFields-append (fields_bytes fs) rest fs gs (fields_written fs h) k

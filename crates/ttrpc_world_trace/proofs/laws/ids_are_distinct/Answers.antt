use Rattle.ttrpc_world_trace.proofs.Traces.{named_once}
use Rattle.ttrpc_world_trace.proofs.laws.ids_are_distinct.Goals as goal

pub returns : goal.returns
returns g xs = named_once xs

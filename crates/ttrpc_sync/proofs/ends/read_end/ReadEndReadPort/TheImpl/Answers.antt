use Rattle.std.proofs.lemmas.Option.{IfSome_then}
use Rattle.ttrpc_sync.proofs.Untold.{untold}
use Rattle.ttrpc_sync.proofs.ends.read_end.ReadEndReadPort.TheImpl.Goals as goal

-- a front that is taken is taken
pub take-tells : goal.take-tells
take-tells g c = record {
  bound = IfSome_then c.result c.ensures.some (λ n some. some.1);
  taken = IfSome_then c.result c.ensures.some (λ n some. tt);
  state = IfSome_then c.result c.ensures.some (λ n some. some.2);
  stopped = untold _ c.result c.ensures.failed;
  begun = tt;
}

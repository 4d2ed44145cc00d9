use Rattle.ttrpc_polled_server.proofs.Added.{serves_more}
use Rattle.ttrpc_polled_server.proofs.services.Services.add_all.Goals as goal

pub loop-name-preserved : goal.loop-name-preserved
loop-name-preserved g c = record {
  added = serves_more _ _ _ _ _ _ c.loop-name.invariant.added c.in_ok-add.ensures.ok;
}

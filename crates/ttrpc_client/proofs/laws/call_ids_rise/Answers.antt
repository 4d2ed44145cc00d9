use Rattle.ttrpc_client.proofs.Words.{ids_used}
use Rattle.ttrpc_client.proofs.Rising.{rise_apart}
use Rattle.ttrpc_client.proofs.Turning.{run_leaves}
use Rattle.ttrpc_client.proofs.laws.call_ids_rise.Goals as goal

pub returns-clause-rise : goal.returns-clause-rise
returns-clause-rise g c = λ s t old new calls happenings run.
    (run_leaves g.O.OutboundTransform g.I.InboundTransform g.O.OutboundTransform.SEALS calls s old happenings t new run).rises

pub returns-clause-apart : goal.returns-clause-apart
returns-clause-apart g c = λ s t old new calls happenings run.
    rise_apart s.next (ids_used calls) t.next (run_leaves g.O.OutboundTransform g.I.InboundTransform g.O.OutboundTransform.SEALS calls s old happenings t new run).rises

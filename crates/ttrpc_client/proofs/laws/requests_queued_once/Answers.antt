use Rattle.ttrpc_client.proofs.Queueing.{run_once}
use Rattle.ttrpc_client.proofs.laws.requests_queued_once.Goals as goal

pub returns : goal.returns
returns g c = λ s t old new calls happenings once run.
    run_once g.O.OutboundTransform g.I.InboundTransform g.O.OutboundTransform.SEALS calls s old happenings t new once run

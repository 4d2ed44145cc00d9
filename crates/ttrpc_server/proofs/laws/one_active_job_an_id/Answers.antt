use Rattle.ttrpc_server.proofs.Given.{HasSingle, single_lasts}
use Rattle.ttrpc_server.proofs.Running.{run_lasts}
use Rattle.ttrpc_server.proofs.laws.one_active_job_an_id.Goals as goal

pub returns : goal.returns
returns g c = λ s t old new calls happenings async single run.
    (run_lasts g.O.OutboundTransform g.I.InboundTransform HasSingle (single_lasts g.O.OutboundTransform) calls s old happenings t new run (async, single)).1

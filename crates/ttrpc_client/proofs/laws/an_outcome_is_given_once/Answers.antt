use Rattle.ttrpc_client.proofs.Words.{ids_asked, ids_used}
use Rattle.ttrpc_client.proofs.Once.{run_gives_none, run_gives_one}
use Rattle.ttrpc_client.proofs.Turning.{leaves_valid, run_leaves}
use Rattle.ttrpc_client.proofs.laws.an_outcome_is_given_once.Goals as goal

pub returns-clause-once : goal.returns-clause-once
returns-clause-once g c = λ s t old new calls happenings id valid run.
    run_gives_one g.O.OutboundTransform g.I.InboundTransform g.O.OutboundTransform.SEALS id calls s old happenings t new valid run

pub returns-clause-never : goal.returns-clause-never
returns-clause-never g c = λ s t old new calls happenings id run none apart.
    run_gives_none g.O.OutboundTransform g.I.InboundTransform g.O.OutboundTransform.SEALS id calls s old happenings t new run none apart

pub returns-clause-valid : goal.returns-clause-valid
returns-clause-valid g c = λ s t old new calls happenings valid run.
    leaves_valid (ids_used calls) (ids_asked calls) s t (run_leaves g.O.OutboundTransform g.I.InboundTransform g.O.OutboundTransform.SEALS calls s old happenings t new run) valid

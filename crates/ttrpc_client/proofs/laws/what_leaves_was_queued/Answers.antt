use Rattle.ttrpc_client.proofs.Words.{run_goes, run_leaves, called, calling, all_are_accounted}
use Rattle.ttrpc_client.proofs.Calls.{called_is_lawful, does_cause}
use Rattle.ttrpc_client.proofs.Throwing.{run_throws_nothing}
use Rattle.ttrpc_client.proofs.laws.what_leaves_was_queued.Goals as goal

pub returns-clause-caused : goal.returns-clause-caused
returns-clause-caused g c = λ old new call did. does_cause g.O.OutboundTransform g.O.OutboundTransform.SEALS call old new did

pub returns-clause-goes : goal.returns-clause-goes
returns-clause-goes g c = λ s t old new calls happenings run.
    run_goes (calling g.O.OutboundTransform g.I.InboundTransform) (called g.O.OutboundTransform g.O.OutboundTransform.SEALS) (called_is_lawful g.O.OutboundTransform g.O.OutboundTransform.SEALS) calls s old happenings t new run

pub returns-clause-written : goal.returns-clause-written
returns-clause-written g c = λ s t old new calls happenings valid run.
    run_leaves (calling g.O.OutboundTransform g.I.InboundTransform) (called g.O.OutboundTransform g.O.OutboundTransform.SEALS) (called_is_lawful g.O.OutboundTransform g.O.OutboundTransform.SEALS) calls s old happenings t new valid run

pub returns-clause-in_order : goal.returns-clause-in_order
returns-clause-in_order g c = λ s t old new calls happenings run. all_are_accounted happenings old.outbox.queue

pub returns-clause-nothing_thrown : goal.returns-clause-nothing_thrown
returns-clause-nothing_thrown g c = λ s t old new calls happenings not run.
    run_throws_nothing g.O.OutboundTransform g.I.InboundTransform g.O.OutboundTransform.SEALS calls s old happenings t new not run

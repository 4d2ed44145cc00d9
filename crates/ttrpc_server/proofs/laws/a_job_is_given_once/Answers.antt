use Rattle.ttrpc_server.proofs.Given.{expired_are_not_given, expired_are_past, none_given, run_gives_none, run_gives_once}
use Rattle.ttrpc_server.proofs.laws.a_job_is_given_once.Goals as goal

pub returns-clause-once : goal.returns-clause-once
returns-clause-once g c = λ s t old new calls happenings rising run. run_gives_once g.O.OutboundTransform g.I.InboundTransform calls s old happenings t new run rising

pub returns-clause-never : goal.returns-clause-never
returns-clause-never g c = λ s t old new calls happenings id made waits run. run_gives_none g.O.OutboundTransform g.I.InboundTransform id calls s old happenings t new run (made, waits)

pub returns-clause-expired : goal.returns-clause-expired
returns-clause-expired g c = λ before after now t new calls happenings rising ticks run.
    let past = expired_are_past g.O.OutboundTransform g.I.InboundTransform ticks.expired before.state before.connection.outbox after.state after.connection.outbox ticks.expire rising in
    expired_are_not_given g.O.OutboundTransform g.I.InboundTransform ticks.expired after.state past calls after.connection happenings t new run

pub returns-clause-none : goal.returns-clause-none
returns-clause-none g c = λ old new given did. none_given g.O.OutboundTransform g.I.InboundTransform given old new did

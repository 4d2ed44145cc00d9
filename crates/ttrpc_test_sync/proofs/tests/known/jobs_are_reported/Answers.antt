use Rattle.ttrpc_test_sync.proofs.Reporting.{reported_under_keys}
use Rattle.ttrpc_test_sync.proofs.tests.known.jobs_are_reported.Goals as goal

pub returns : goal.returns
returns g c = reported_under_keys _ _ _ _ _ _ _ _ c.requires.taken c.requires.reported c.work_loop.ensures.worked

-- The passes that the tests' gate records, as the loops name them.
-- Source: this project's.
use Rattle.ttrpc_sync.specs.Work.{Passage}
use Rattle.ttrpc_sync.specs.Work as work
use Rattle.ttrpc_test_sync.specs.declared.passes.Pass.{Pass}
use Rattle.ttrpc_test_sync.specs.declared.passes.Pass.TheVariants as pass

-- The passage of a worker, by the gate's record.
abbrev pub passage_of : Pass → Passage
passage_of pass.Entered = work.Entered
passage_of pass.Left = work.Left
passage_of pass.Refused = work.Refused

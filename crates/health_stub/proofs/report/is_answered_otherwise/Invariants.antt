use Rattle.std.proofs.Common.{◌≡◌, ◌<◌, ℕ, Some, get_or}
use Rattle.ttrpc_server.specs.declared.job.Job.{Job}
use Rattle.ttrpc_world_trace.specs.declared.events.Entry.{Entry}
use Rattle.ttrpc_world_trace.specs.declared.events.Event.TheVariants.{Take}
use Rattle.ttrpc_world_trace.specs.declared.events.Reply.TheVariants.{Handed}
use Rattle.health_stub.specs.Report.{IsCheck}
use Rattle.health_stub.specs.Scan.{IsAnsweredSo}
use Rattle.health_stub.proofs.report.is_answered_otherwise.Given as goal

abbrev pub invariant-loop-entry : goal.invariant-loop-entry
invariant-loop-entry l = (k : ℕ) → k < l.entry-index → (d : Entry) (job : Job) → get_or l.trace k d ≡ record { event = Take; reply = Handed (Some job) } → IsCheck job.request → IsAnsweredSo l.table l.trace job

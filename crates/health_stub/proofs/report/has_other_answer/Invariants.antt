use Rattle.std.proofs.Common.{◌≡◌, ◌<◌, ℕ, Option, Some, get_or}
use Rattle.ttrpc_proto.specs.declared.messages.Response.{Response}
use Rattle.ttrpc_world_trace.specs.declared.events.Entry.{Entry}
use Rattle.health_stub.specs.Report.{AnswersWith}
use Rattle.health_stub.proofs.report.has_other_answer.Given as goal

abbrev pub invariant-loop-entry : goal.invariant-loop-entry
invariant-loop-entry l = (k : ℕ) → k < l.entry-index → (d : Entry) (response : Option Response) → AnswersWith l.job.id response (get_or l.trace k d) → response ≡ Some l.expected

use Rattle.ttrpc_members.proofs.NestingLaws.{text_refused, text_taken}
use Rattle.ttrpc_members.proofs.nesting.check_text.Goals as goal

pub returns-in-Ok-clause-taken : goal.returns-in-Ok-clause-taken
returns-in-Ok-clause-taken c = text_taken c.args.bytes.now c.in-Ok.ensures.cases.1

pub returns-in-Err-clause-taken : goal.returns-in-Err-clause-taken
returns-in-Err-clause-taken c = (text_refused c.args.bytes.now c.in-Err.ensures.cases.0, λ e. cc)

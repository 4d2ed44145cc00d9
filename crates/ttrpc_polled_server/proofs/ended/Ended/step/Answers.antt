use Rattle.ttrpc_polled_server.proofs.ended.Ended.step.Goals as goal

pub returns-in-Answers : goal.returns-in-Answers
returns-in-Answers g c = rw c.in-Answers.is (record {
  answered = c.answer.ensures.answered;
  handler_failed = c.answer.ensures.handler_failed;
  refused = c.answer.ensures.refused;
  err = c.answer.ensures.err;
})

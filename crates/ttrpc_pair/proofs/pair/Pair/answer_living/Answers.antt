use Rattle.ttrpc_pair.proofs.Words.{refl, rules, halves}
use Rattle.ttrpc_pair.proofs.Replies.{answers_by}
use Rattle.ttrpc_pair.proofs.pair.Pair.answer_living.Goals as goal
use Rattle.ttrpc_pair.proofs.pair.Pair.answer_living.Goals.{in-Ok, in-Err}

pub returns : goal.returns
returns g c =
    let client = halves g.CO.OutboundTransform g.CI.InboundTransform in
    let server = halves g.SO.OutboundTransform g.SI.InboundTransform in
    let old = c.self.inside.server in
    let taken = rw (← c.self.view_is) at c.in-Some.ensures.some in
    rw (← c.self.view_is) (elim c.match-answer.branch [
      | in-Ok w ↦ rw w.result-is (
        answers_by client server g.CO.OutboundTransform.SEALS old c.args.id c.args.given.now c.answer.new.self c.lemma_answer_is_value.ensures w.in-Ok.ensures.answered w.in-Ok.ensures.handler_failed,
        refl,
        taken.3,
      )
      | in-Err w ↦ rw w.result-is (w.in-Err.ensures.refused, λ alive. record { job = taken.0; at = taken.1; none_yet = taken.3 }, search rules)
    ])

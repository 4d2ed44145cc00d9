use Rattle.ttrpc_pair.proofs.Words.{halves, refl, rules}
use Rattle.ttrpc_pair.proofs.Replies.{end_is}
use Rattle.ttrpc_pair.proofs.pair.Pair.end_by_rules.Goals as goal
use Rattle.ttrpc_pair.proofs.pair.Pair.end_by_rules.Goals.{in-Ok, in-Err}

pub returns : goal.returns
returns g c =
    let client = halves g.CO.OutboundTransform g.CI.InboundTransform in
    let server = halves g.SO.OutboundTransform g.SI.InboundTransform in
    let taken = c.in-Some.ensures.some in
    let lives = rw (← c.self.view_is) at c.requires in
    rw (← c.self.view_is) (elim c.match-end_stream.branch [
      | in-Ok w ↦ rw w.result-is (w.in-Ok.ensures.ended, refl, end_is client server g.CO.OutboundTransform.SEALS c.args.end.now c.lemma_end_is_value.ensures)
      | in-Err w ↦ rw w.result-is (w.in-Err.ensures.refused, λ alive. (lives.1, (taken.0, taken.1)), search rules)
    ])

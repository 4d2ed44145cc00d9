use Rattle.ttrpc_pair.proofs.Words.{◌++◌, ◌∷◌, ◌∙◌, [], ap, halves, inr, rules}
use Rattle.ttrpc_pair.proofs.Replies.{refuses_respond, responds_to}
use Rattle.ttrpc_pair.proofs.pair.Pair.respond_by_rules.Goals as goal

pub returns-in-Ok : goal.returns-in-Ok
returns-in-Ok g c =
    let client = halves g.CO.OutboundTransform g.CI.InboundTransform in
    let server = halves g.SO.OutboundTransform g.SI.InboundTransform in
    let taken = rw (← c.self.view_is) at c.in-Some.ensures.some in
    let lives = rw (← c.self.view_is) at c.requires in
    let items = c.push_reserved.ensures.items ∙ ap (λ xs. xs ++ c.args.id ∷ []) c.reserve.ensures.items in
    rw (← c.self.view_is) (responds_to client server g.CO.OutboundTransform.SEALS _ c.args.id c.in-Some.stream_id c.args.response.now taken.0 c.respond.new.self _
    c.lemma_is_value.ensures lives.1 taken.1 taken.2 taken.3 c.in-Ok.ensures.queued items)

pub returns-in-Err : goal.returns-in-Err
returns-in-Err g c =
    let client = halves g.CO.OutboundTransform g.CI.InboundTransform in
    let server = halves g.SO.OutboundTransform g.SI.InboundTransform in
    let taken = rw (← c.self.view_is) at c.in-Some.ensures.some in
    let lives = rw (← c.self.view_is) at c.requires in
    rw (← c.self.view_is) (
      inr (refuses_respond client server g.CO.OutboundTransform.SEALS _ c.args.id c.in-Some.stream_id c.args.response.now taken.0 c.in-Err.error lives.1 taken.1 taken.2 taken.3 c.in-Err.ensures.refused),
      search rules,
    )

use Rattle.ttrpc_connection.proofs.Words.{rules}
use Rattle.ttrpc_connection.proofs.Lending.{any_left}
use Rattle.ttrpc_connection.proofs.outbox.Outbox.has_unsent.Goals as goal

pub returns : goal.returns
returns g c =
    let both = any_left c.self.inside.queue c.is_empty.ensures.valid.within in
    rw (← c.self.view_is) ((λ is. both.0 (λ none. search rules)), (λ some. let any = both.1 some in search rules))

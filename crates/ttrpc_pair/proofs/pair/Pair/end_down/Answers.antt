use Rattle.ttrpc_pair.proofs.Words.{ap}
use Rattle.ttrpc_pair.proofs.pair.Pair.end_down.Goals as goal

pub returns-then-is_over-clause-only : goal.returns-then-is_over-clause-only
returns-then-is_over-clause-only g c =
    let w = c.self.inside in
    rw (← c.self.view_is) (ap (λ x. record { client = x; server = w.server; up = w.up; down = w.down; moment = w.moment; responded = w.responded.items }) c.end_of_input.ensures.same)

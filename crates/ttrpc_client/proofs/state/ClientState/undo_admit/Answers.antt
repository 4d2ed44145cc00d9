use Rattle.ttrpc_client.proofs.Words.{◌-◌, ◌∙◌, ap, Client}
use Rattle.ttrpc_client.proofs.Keeping.{withdrawn}
use Rattle.ttrpc_client.proofs.state.ClientState.undo_admit.Goals as goal

pub returns : goal.returns
returns c = λ old deadline admits.
    ap (λ (x : Client). record x { next = x.next - 2 }) c.self.view_is ∙ withdrawn old c.args.self.now c.forget.new.self c.args.id deadline admits c.forget.ensures.leaves

use Rattle.ttrpc_server.proofs.Words.{rules, ◌≡◌, ◌≤◌, ℕ, map, sym, subst}
use Rattle.std.proofs.lemmas.List.{length-map}
use Rattle.ttrpc_connection.specs.Mail.{without_receiver}
use Rattle.ttrpc_server.specs.State.{changed_at}
use Rattle.ttrpc_server.proofs.Mapped.{at_stays, kept_mapped}
use Rattle.ttrpc_server.proofs.state.ServerState.drop_receiver.Goals as goal

pub invariant_of-self : goal.invariant_of-self
invariant_of-self c =
    let g = changed_at c.args.id without_receiver in
    let list : c.drop_receiver.new.self.list ≡ map g c.self.inside.jobs.list = search rules in
    rw list (kept_mapped g (at_stays c.args.id without_receiver) c.self.invariant.0, λ async. subst (λ (n : ℕ). n ≤ c.self.inside.expiry.room) (sym (length-map c.self.inside.jobs.list g)) (c.self.invariant.1 async))

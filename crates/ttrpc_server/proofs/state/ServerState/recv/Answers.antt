use Rattle.ttrpc_server.proofs.Words.{◌≡◌, ◌≤◌, ℕ, map, sym, subst}
use Rattle.std.proofs.lemmas.List.{length-map}
use Rattle.ttrpc_server.specs.State.{changed_at}
use Rattle.ttrpc_server.proofs.Mapped.{at_stays, kept_mapped}
use Rattle.ttrpc_server.proofs.state.ServerState.recv.Goals as goal

pub invariant_of-self : goal.invariant_of-self
invariant_of-self c =
    let received = c.in-Some.ensures.answer in
    let g = changed_at c.args.id (λ _. received.1) in
    let list : c.recv.new.self.list ≡ map g c.self.inside.jobs.list = received.4 in
    rw list (kept_mapped g (at_stays c.args.id (λ _. received.1)) c.self.invariant.0, λ async. subst (λ (n : ℕ). n ≤ c.self.inside.expiry.room) (sym (length-map c.self.inside.jobs.list g)) (c.self.invariant.1 async))

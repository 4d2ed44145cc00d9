use Rattle.std.proofs.Common.{rules, ◌≡◌, Option, None, Some, IfSome, IsSome}
use Rattle.ttrpc_polled_server.proofs.server.Server.start.Goals as goal

-- what is the same wherever there is one is that one
one : {X : Type 0} (had given : Option X) → (IsSome had → given ≡ had) → IfSome had (λ x. given ≡ Some x)
one None given same = tt
one (Some x) given same = same (search rules)

pub returns-clause-listener : goal.returns-clause-listener
returns-clause-listener g c =
    one c.args.self.now.listener c.new-serving.result.listener (λ some. let same = c.restore_listener.ensures.listener some in search rules)

use Rattle.ttrpc_server.proofs.Words.{arith, ap, JobList}
use Rattle.ttrpc_server.proofs.Kept.{as_many, kept_by_hand_out, none_weaker}
use Rattle.ttrpc_server.proofs.state.ServerState.hand_out.Goals as goal

pub invariant_of-self : goal.invariant_of-self
invariant_of-self c =
    let none = none_weaker c.hand_out.result (λ same. ap (λ (s : JobList). s.list) same.0) c.hand_out.ensures.none in
    let many = as_many c.self.inside.jobs.list c.hand_out.new.self.list c.hand_out.result c.hand_out.ensures.given none in (
      kept_by_hand_out _ _ c.self.inside.jobs.list c.hand_out.new.self.list c.hand_out.result c.self.invariant.0 c.hand_out.ensures.given none,
      λ async. let room = c.self.invariant.1 async in omega (arith, room, many),
    )

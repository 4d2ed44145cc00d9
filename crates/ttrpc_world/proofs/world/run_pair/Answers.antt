use Rattle.std.proofs.Common.{◌++◌, ◌∷◌, ◌∙◌, ◌≤◌, [], ap, arith, length}
use Rattle.std.specs.Vec.{vec_capacity}
use Rattle.ttrpc_world.proofs.Running.{events_more, run_more}
use Rattle.ttrpc_world.proofs.world.run_pair.Goals as goal

pub loop-event-preserved : goal.loop-event-preserved
loop-event-preserved g c =
    let room : length c.args.events.items ≤ vec_capacity c.push_reserved.new.self = omega (arith, c.push_reserved.ensures.capacity, c.loop-event.invariant.room) in
    rw (c.push_reserved.ensures.items) (record {
      next = tt;
      finite = tt;
      events = events_more _ _ _ ∙ ap (λ es. es ++ c.in-Some.event ∷ []) c.loop-event.invariant.events;
      room = room;
      ran = run_more _ _ _ _ _ _ _ _ _ c.loop-event.invariant.ran c.step-reply.ensures;
    })

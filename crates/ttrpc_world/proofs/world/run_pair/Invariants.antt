use Rattle.std.proofs.Common.{◌≡◌, ◌≤◌, length, map}
use Rattle.std.specs.Vec.{vec_capacity}
use Rattle.ttrpc_world.specs.Headline.Words.{Entry, Runs, halves}
use Rattle.ttrpc_world.proofs.world.run_pair.Given as goal

-- What happened so far is a run, and there is room for the rest.
abbrev pub invariant-loop-event : goal.invariant-loop-event
invariant-loop-event g l = record {
  next : (goal.iterator-loop-event g).can_next l.event-iterator;
  finite : (goal.iterator-loop-event g).is_finite l.event-iterator;
  events : map Entry.event l.trace.items ≡ l.yielded;
  room : length l.fn.events.items ≤ vec_capacity l.trace;
  ran : Runs (halves g.CO.OutboundTransform g.CI.InboundTransform)
      (halves g.SO.OutboundTransform g.SI.InboundTransform) g.CO.OutboundTransform.SEALS l.fn.pair l.trace.items l.pair;
}

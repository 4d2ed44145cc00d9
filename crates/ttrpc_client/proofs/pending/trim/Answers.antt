use Rattle.std.proofs.Common.{◌∙◌, sym}
use Rattle.ttrpc_client.proofs.Places.{shorter}
use Rattle.ttrpc_client.proofs.pending.trim.Goals as goal

pub loop-places-preserved-in-loop-places : goal.loop-places-preserved-in-loop-places
loop-places-preserved-in-loop-places g c = shorter _ c.loop-places.places.items c.pop.new.self.items c.pop.result c.loop-places.invariant c.pop.ensures.items (sym c.ends_empty.ensures ∙ c.loop-places-test.true)

pub loop-places-preserved-in-loop-places-2 : goal.loop-places-preserved-in-loop-places-2
loop-places-preserved-in-loop-places-2 g c = shorter _ c.loop-places.places.items c.pop.new.self.items c.pop.result c.loop-places.invariant c.pop.ensures.items (sym c.ends_empty.ensures ∙ c.loop-places-test.true)

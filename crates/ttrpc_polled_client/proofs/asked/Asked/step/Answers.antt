use Rattle.std.proofs.Common.{rules, ◌≡◌}
use Rattle.ttrpc_polled_client.specs.Steps.{IsStep}
use Rattle.ttrpc_polled_client.specs.declared.asked.Asked.{Asked}
use Rattle.ttrpc_polled_client.specs.declared.asked.Asked.TheVariants.{Asks, Stalls}
use Rattle.ttrpc_polled_client.proofs.Asking.{begins}
use Rattle.ttrpc_polled_client.proofs.asked.Asked.step.Goals as goal

pub returns-in-Asks : goal.returns-in-Asks
returns-in-Asks g c =
    let asks : c.args.self.now ≡ Asks c.in-Asks.request c.in-Asks.now = search rules in
    let made = c.request-asked.ensures in
    rw asks (begins g.O.OutboundTransform (Asks c.in-Asks.request c.in-Asks.now) c.args.core.now c.in-Asks.request c.in-Asks.now c.request-asked.result c.asked.result c.asked.new.self c.request-asked.new.self c.asked.ensures made.ok made.refused made.err)

pub returns-in-Stalls : goal.returns-in-Stalls
returns-in-Stalls g c =
    let stalls : c.args.self.now ≡ Stalls c.in-Stalls._place c.in-Stalls.request c.in-Stalls.now = search rules in
    let made = c.request-asked-in-Stalls.ensures in
    rw stalls (begins g.O.OutboundTransform (Stalls c.in-Stalls._place c.in-Stalls.request c.in-Stalls.now) c.args.core.now c.in-Stalls.request c.in-Stalls.now c.request-asked-in-Stalls.result c.asked-in-Stalls.result c.asked-in-Stalls.new.self c.request-asked-in-Stalls.new.self c.asked-in-Stalls.ensures made.ok made.refused made.err)

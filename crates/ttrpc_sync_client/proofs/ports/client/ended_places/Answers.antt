use Rattle.ttrpc_sync_client.proofs.Telling.{all_are_told, none_told, one_told}
use Rattle.ttrpc_sync_client.proofs.ports.client.ended_places.Goals as goal

pub loop-id-init : goal.loop-id-init
loop-id-init g c = none_told c.args.core.now c.args.reading.now

pub loop-id-preserved : goal.loop-id-preserved
loop-id-preserved g c = rw (c.end_call.ensures, c.place_of.ensures)
    (one_told c.args.core.now c.args.reading.now c.loop-id.core c.next_ended.new.self c.loop-id.reading c.loop-id.places c.in-Some.id c.loop-id.invariant c.in-Some.ensures.first c.in-Some.ensures.same)

pub returns-clause-told : goal.returns-clause-told
returns-clause-told g c = all_are_told c.args.core.now c.args.reading.now c.loop-id.core c.next_ended.new.self c.loop-id.reading c.loop-id.places c.loop-id.invariant (c.in_default.ensures.none) c.in_default.ensures.first c.in_default.ensures.same

use Rattle.ttrpc_world_trace.proofs.Bytes.{none_in_flight, placed_in_flight, carried_in_flight, thrown_in_flight, cut_in_flight, fed_in_flight, all_has_come}
use Rattle.ttrpc_world_trace.proofs.flight.laws.frames_arrive_as_they_were_queued.Goals as goal

pub returns-clause-none : goal.returns-clause-none
returns-clause-none c = none_in_flight

pub returns-clause-placed : goal.returns-clause-placed
returns-clause-placed c = placed_in_flight

pub returns-clause-carried : goal.returns-clause-carried
returns-clause-carried c = carried_in_flight

pub returns-clause-thrown : goal.returns-clause-thrown
returns-clause-thrown c = thrown_in_flight

pub returns-clause-cut : goal.returns-clause-cut
returns-clause-cut c = cut_in_flight

pub returns-clause-fed : goal.returns-clause-fed
returns-clause-fed c = λ held new pipe taken later cut q transit queued incoming split fed f. fed_in_flight held pipe cut q transit queued taken later incoming new split fed f

pub returns-clause-all_has_come : goal.returns-clause-all_has_come
returns-clause-all_has_come c = all_has_come

use Rattle.ttrpc_world_trace.proofs.FlightWords.{IsOwned}
use Rattle.ttrpc_world_trace.proofs.Losing.{all_thrown}
use Rattle.ttrpc_world_trace.proofs.Parcels.{parcels_thrown, parcels_thrown_elsewhere}
use Rattle.ttrpc_world_trace.proofs.flight.laws.a_throw_takes_requests_of_its_owners.Goals as goal

pub returns-clause-elsewhere : goal.returns-clause-elsewhere
returns-clause-elsewhere c = parcels_thrown_elsewhere

pub returns-clause-one : goal.returns-clause-one
returns-clause-one c = parcels_thrown

pub returns-clause-own : goal.returns-clause-own
returns-clause-own c = all_thrown IsOwned

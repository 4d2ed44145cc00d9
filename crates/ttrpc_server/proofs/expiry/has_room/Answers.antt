use Rattle.ttrpc_server.proofs.Sending.{timeout_size}
use Rattle.ttrpc_server.proofs.expiry.has_room.Goals as goal

pub returns : goal.returns
returns g c = rw timeout_size c.has_room.ensures

use Rattle.std.proofs.Common.{inr}
use Rattle.ttrpc_polled.proofs.socket.tcp_of.Goals as goal

pub returns-in-Unix-clause-err : goal.returns-in-Unix-clause-err
returns-in-Unix-clause-err c =
    let place = c.in_ok-address.ensures.ok in
    let unix = rw c.in-Unix.is at place in
    inr ((_, unix.0), c.unsupported.ensures)

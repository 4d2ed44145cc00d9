use Rattle.std.proofs.Common.{refl, None}
use Rattle.ttrpc_polled_server.proofs.held.PolledServerState.receive_last.Goals as goal

pub returns : goal.returns
returns g c =
    record {
      came = None;
      asked = c.recv_item.new.self;
      receives = c.in_default.ensures;
      gives = ((c.end_error-error.result, c.end_error-error.ensures, refl), c.drop_receiver.ensures);
    }

use Rattle.ttrpc_client.proofs.Words.{inl, refl, sym, ◌≡◌, Some}
use Rattle.ttrpc_client.specs.Types.{LocalClosed}
use Rattle.ttrpc_client.specs.Streams.{stream_in}
use Rattle.ttrpc_client.proofs.Entered.{closed_is}
use Rattle.ttrpc_client.proofs.streams.Streams.check_sendable.Goals as goal

pub returns-in-Closed : goal.returns-in-Closed
returns-in-Closed c =
    let found : stream_in c.args.self.now c.args.id ≡ Some c.in-Some.stream.now = rw (← c.self.view_is) (sym c.in-Some.ensures.value) in
    record { ok = tt; err = (LocalClosed, closed_is (stream_in c.args.self.now c.args.id) c.in-Some.stream.now found c.if-not-stream.false c.in-Closed.is, inl refl) }

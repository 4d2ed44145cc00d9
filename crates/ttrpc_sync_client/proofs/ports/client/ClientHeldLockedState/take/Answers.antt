use Rattle.std.proofs.Common.{rules, ◌≡◌, None, refl}
use Rattle.ttrpc_sync_client.proofs.ports.client.ClientHeldLockedState.take.Goals as goal

pub returns-in_err-count-clause-taken : goal.returns-in_err-count-clause-taken
returns-in_err-count-clause-taken g c =
    let none : c.from_residual.result ≡ None = search rules in
    rw none (record { told = c.feed_piece.new.reading; fed = c.in_err-count.ensures.fed; reader_next = refl })

use Rattle.std.proofs.Common.{rules, ◌≡◌, false, true}
use Rattle.std.specs.Prelude.{is_ok}
use Rattle.ttrpc_sync_client.proofs.ports.client.feed_piece.Goals as goal
use Rattle.ttrpc_sync_client.proofs.ports.client.feed_piece.Goals.{in-Err, in-Ok}

pub returns-clause-fed : goal.returns-clause-fed
returns-clause-fed g c =
    let told = c.ended_places-ended.ensures.told in
    elim c.match-taken.branch [
      | in-Ok w ↦
          let ok : is_ok c.take_on-taken.result ≡ true = search (rules, w.in-Ok.is) in
          rw w.result-is (record { fed = c.take_on-taken.new.core; answer = c.take_on-taken.result; takes = c.take_on-taken.ensures.fed; taken = ok; core = told.core; turn = told.turn; callers = told.callers })
      | in-Err w ↦
          let err : is_ok c.take_on-taken.result ≡ false = search (rules, w.in-Err.is) in
          rw w.result-is (record { fed = c.take_on-taken.new.core; answer = c.take_on-taken.result; takes = c.take_on-taken.ensures.fed; taken = err; core = told.core; turn = told.turn; callers = tt })
    ]

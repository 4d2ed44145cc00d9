use Rattle.std.proofs.Common.{rules}
use Rattle.ttrpc_polled_client.proofs.held.PolledClientStatePolledState.tick.Goals as goal

pub returns : goal.returns
returns g c =
    record {
      ticked = c.tick.new.self;
      failed = c.tick.ensures.failed;
      alive = c.tick.ensures.alive;
      told = search rules;
    }

use Rattle.std.proofs.Common.{rules}
use Rattle.ttrpc_polled_server.proofs.held.PolledServerState.tick_core.Goals as goal

pub returns : goal.returns
returns g c =
    record {
      ticked = c.tick.new.self;
      passes = c.tick.ensures;
      told = search rules;
    }

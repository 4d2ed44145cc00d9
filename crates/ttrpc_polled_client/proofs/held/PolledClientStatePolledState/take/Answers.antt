use Rattle.std.proofs.Common.{rules, refl, ◌∙◌}
use Rattle.ttrpc_polled_client.proofs.held.PolledClientStatePolledState.take.Goals as goal

pub returns-clause-takes : goal.returns-clause-takes
returns-clause-takes g c =
    record {
      fed = c.feed.new.self;
      answer = c.feed.result;
      takes = c.feed.ensures.takes;
      counted = rw c.in-Ok.is refl;
      told = rw c.in-Ok.is (search rules);
    }

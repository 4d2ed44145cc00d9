use Rattle.std.proofs.Common.{rules, ◌≡◌, Bool, true, false, ℕ, Option, None, if◌then◌else◌, refl}
use Rattle.ttrpc_polled_server.proofs.held.PolledServerStatePolledState.take.Goals as goal

-- no count is given, whether the core drains or not
none_either : (drains : Bool) → ◌≡◌ {A = Option ℕ} None (if drains then None else None)
none_either true = refl
none_either false = refl

pub returns-in_default-clause-takes : goal.returns-in_default-clause-takes
returns-in_default-clause-takes g c =
    record {
      fed = c.feed.new.self;
      answer = c.feed.result;
      takes = c.feed.ensures;
      counted = rw c.in_default.is (none_either c.args.self.now.drains);
      told = rw c.in_default.is (search rules);
    }

pub returns-then-drains-clause-takes : goal.returns-then-drains-clause-takes
returns-then-drains-clause-takes g c =
    record {
      fed = c.feed.new.self;
      answer = c.feed.result;
      takes = c.feed.ensures;
      counted = rw c.if-drains.true refl;
      told = rw c.in-Ok.is (search rules);
    }

pub returns-else-drains-clause-takes : goal.returns-else-drains-clause-takes
returns-else-drains-clause-takes g c =
    record {
      fed = c.feed.new.self;
      answer = c.feed.result;
      takes = c.feed.ensures;
      counted = rw (c.if-drains.false, c.in-Ok.is) refl;
      told = rw c.in-Ok.is (search rules);
    }

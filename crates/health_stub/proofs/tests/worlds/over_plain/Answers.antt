use Rattle.std.proofs.Common.{refl}
use Rattle.health_stub.proofs.tests.worlds.over_plain.Goals as goal

pub run_health-requires-clause-fresh : goal.run_health-requires-clause-fresh
run_health-requires-clause-fresh c = rw (c.new-3.ensures, c.in_ok-client.ensures.ok, c.in_ok-server.ensures.ok) (record {
  kind = _;
  first = 1;
  client = refl;
  rules = c.args.rules;
  services = _;
  server = refl;
  up = refl;
  down = refl;
  moment = refl;
  responded = refl;
  up_paired = c.plain_is_paired.ensures _ _;
  down_paired = c.plain_is_paired.ensures _ _;
})

use Rattle.std.proofs.Common.{refl}
use Rattle.ttrpc_test_world.proofs.tests.script.over_plain.Goals as goal

pub run-requires : goal.run-requires
run-requires c = rw (c.new-3.ensures, c.in_ok-client.ensures.ok, c.in_ok-server.ensures.ok) (record {
  kind = c.args.ways.kind;
  first = 1;
  client = refl;
  rules = c.args.ways.rules;
  services = _;
  server = refl;
  up = refl;
  down = refl;
  moment = refl;
  responded = refl;
  up_paired = c.plain_is_paired.ensures _ _;
  down_paired = c.plain_is_paired.ensures _ _;
})

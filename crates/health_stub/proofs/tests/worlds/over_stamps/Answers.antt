use Rattle.std.proofs.Common.{◌≡◌, refl, ap}
use Rattle.health_stub.proofs.tests.worlds.over_stamps.Goals as goal

pub run_health-requires-clause-fresh : goal.run_health-requires-clause-fresh
run_health-requires-clause-fresh c =
    let up_out : c.of_halves-up.result.outbound ≡ c.stamps-up_out.result.0 = ap (λ x. x.outbound) c.of_halves-up.ensures.halves in
    let down_in : c.of_halves-up.result.inbound ≡ c.stamps-down_out.result.1 = ap (λ x. x.inbound) c.of_halves-up.ensures.halves in
    let down_out : c.of_halves-down.result.outbound ≡ c.stamps-down_out.result.0 = ap (λ x. x.outbound) c.of_halves-down.ensures.halves in
    let up_in : c.of_halves-down.result.inbound ≡ c.stamps-up_out.result.1 = ap (λ x. x.inbound) c.of_halves-down.ensures.halves in
    rw (c.new-3.ensures, c.in_ok-client.ensures.ok, c.in_ok-server.ensures.ok, up_out, down_in, down_out, up_in) (record {
      kind = _;
      first = 1;
      client = refl;
      rules = c.args.rules;
      services = _;
      server = refl;
      up = refl;
      down = refl;
      moment = refl;
      responded = refl;
      up_paired = c.stamps-up_out.ensures.paired;
      down_paired = c.stamps-down_out.ensures.paired;
    })

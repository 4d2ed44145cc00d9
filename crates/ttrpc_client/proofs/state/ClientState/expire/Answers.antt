use Rattle.ttrpc_client.proofs.Ticking.{all_expired, fewer, one_more}
use Rattle.ttrpc_client.proofs.state.ClientState.expire.Goals as goal

pub loop-smaller : goal.loop-smaller
loop-smaller c = fewer c.loop.self c.expire_first.new.self c.args.now c.in-Some.field-0 c.in-Some.ensures.some

pub loop-preserved : goal.loop-preserved
loop-preserved c = one_more c.args.self.now c.loop.self c.expire_first.new.self c.args.now c.in-Some.field-0 c.loop.invariant c.in-Some.ensures.some

pub returns : goal.returns
returns c = rw c.in_default.ensures.none.0 (all_expired c.args.self.now c.loop.self c.args.now c.loop.invariant c.in_default.ensures.none.1)

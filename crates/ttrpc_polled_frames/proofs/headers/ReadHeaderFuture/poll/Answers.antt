use Rattle.std.proofs.Common.{inl, inr, rules}
use Rattle.ttrpc_polled_frames.proofs.Headings.{fills_more, heads_later, heads_short, heads_whole}
use Rattle.ttrpc_polled_frames.proofs.headers.ReadHeaderFuture.poll.Goals as goal

pub returns-in-Pending-clause-same : goal.returns-in-Pending-clause-same
returns-in-Pending-clause-same g c r later =
    let reads = g.S.AsyncRead.reads in
    let order = g.met.S.AsyncRead.reads_in_order in
    heads_later reads order g.S.AsyncRead.is_at_end g.S.AsyncRead.fails c.args.self.now c.poll_more.new.self r (fills_more reads order c.args.self.now c.loop-self.self c.poll_more.new.self c.loop-self.invariant.0 c.poll_more.ensures.fills) later

pub returns-in-Ready-Err-clause-same : goal.returns-in-Ready-Err-clause-same
returns-in-Ready-Err-clause-same g c =
    let reads = g.S.AsyncRead.reads in
    let order = g.met.S.AsyncRead.reads_in_order in
    rw c.yield_now.ensures.pending
    (λ r later. heads_later reads order g.S.AsyncRead.is_at_end g.S.AsyncRead.fails c.args.self.now c.poll_more.new.self r (fills_more reads order c.args.self.now c.loop-self.self c.poll_more.new.self c.loop-self.invariant.0 c.poll_more.ensures.fills) later)

pub returns-in-Ready-Ok-eq0-clause-value : goal.returns-in-Ready-Ok-eq0-clause-value
returns-in-Ready-Ok-eq0-clause-value g c =
    let reads = g.S.AsyncRead.reads in
    let order = g.met.S.AsyncRead.reads_in_order in
    heads_short reads g.S.AsyncRead.is_at_end g.S.AsyncRead.fails c.args.self.now c.poll_more.new.self _ (fills_more reads order c.args.self.now c.loop-self.self c.poll_more.new.self c.loop-self.invariant.0 c.poll_more.ensures.fills) (search rules) (inr (search rules, search rules)) (search rules)

pub returns-in-Ready-Err-2-clause-value : goal.returns-in-Ready-Err-2-clause-value
returns-in-Ready-Err-2-clause-value g c =
    let reads = g.S.AsyncRead.reads in
    let order = g.met.S.AsyncRead.reads_in_order in
    heads_short reads g.S.AsyncRead.is_at_end g.S.AsyncRead.fails c.args.self.now c.poll_more.new.self _ (fills_more reads order c.args.self.now c.loop-self.self c.poll_more.new.self c.loop-self.invariant.0 c.poll_more.ensures.fills) (search rules) (inl (search rules)) (search rules)

pub returns-clause-value : goal.returns-clause-value
returns-clause-value g c =
    heads_whole g.S.AsyncRead.reads g.S.AsyncRead.is_at_end g.S.AsyncRead.fails c.args.self.now c.loop-self.self _ c.loop-self.invariant.0 c.loop-self-test.false (search rules) c.from.ensures

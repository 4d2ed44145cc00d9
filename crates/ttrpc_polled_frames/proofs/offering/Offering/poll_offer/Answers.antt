use Rattle.std.proofs.Common.{List, ℕ, drop, rules, subst}
use Rattle.tokio.specs.Io.Moved.{TakesWritten}
use Rattle.ttrpc_polled_frames.proofs.Parts.{writes_both}
use Rattle.ttrpc_polled_frames.proofs.offering.Offering.poll_offer.Goals as goal

pub returns-clause-writes : goal.returns-clause-writes
returns-clause-writes g c =
    let self = c.args.self.now in
    let first = subst (λ (s : List ℕ). TakesWritten g.W.AsyncWrite.writes self.writer c.poll_behind.new.writer (drop self.at s) (drop c.poll_behind.new.at s)) c.as_slice.ensures.value c.in-Ready-Ok.ensures.writes in
    let second = subst (λ (s : List ℕ). TakesWritten g.W.AsyncWrite.writes c.poll_behind.new.writer c.poll_behind-2.new.writer (drop self.payload_at s) (drop c.poll_behind-2.new.at s)) c.bytes.ensures c.poll_behind-2.ensures.writes in
    writes_both _ g.met.W.AsyncWrite.writes_in_order _ _ _ _ _ _ _ first (search rules) second

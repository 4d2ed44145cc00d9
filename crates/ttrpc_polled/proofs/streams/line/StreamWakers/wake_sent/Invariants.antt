use Rattle.std.proofs.Common.{◌≡◌, ◌++◌, ℕ, List, length}
use Rattle.ttrpc_polled.proofs.streams.line.StreamWakers.wake_sent.Given as goal

-- some of those who waited for frames were woken, the first ones
abbrev pub invariant-loop-ticket : goal.invariant-loop-ticket
invariant-loop-ticket g l = record {
  woken : (woken : List ℕ) × (l.fn.self.senders ≡ woken ++ l.self-inside.senders);
  receivers : l.self-inside.receivers ≡ l.fn.self.receivers;
}

abbrev pub decreases-loop-ticket : goal.decreases-loop-ticket
decreases-loop-ticket g l = length l.self-inside.senders

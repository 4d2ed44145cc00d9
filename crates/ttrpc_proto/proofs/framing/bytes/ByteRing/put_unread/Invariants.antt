use Rattle.std.proofs.Common.{◌≡◌, ◌+◌, ◌++◌, ℕ, List, length}
use Rattle.circular_buffer.specs.Buffer.{buffer}
use Rattle.ttrpc_proto.proofs.framing.bytes.ByteRing.put_unread.Given as goal

-- those that were put, and those that are left, are all
abbrev pub invariant-loop-left : goal.invariant-loop-left
invariant-loop-left l =
    (unread : List ℕ)
    × (length unread + l.left ≡ l.count)
    × (l.self ≡ buffer (l.fn.self.items ++ unread) l.fn.self.capacity)

abbrev pub decreases-loop-left : goal.decreases-loop-left
decreases-loop-left l = l.left

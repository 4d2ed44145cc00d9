use Rattle.std.proofs.Common.{◌≡◌, ◌≤◌, ◌++◌, List, length}
use Rattle.std.specs.VecDeque.{deque_len, deque_capacity}
use Rattle.ttrpc_proto.specs.declared.framing.record.Record.{Record}
use Rattle.ttrpc_proto.specs.Framing.Laid.{gone_records, kept_records}
use Rattle.ttrpc_proto.proofs.framing.outgoing.throw_from.Given as goal

-- those at the end were looked at, and what stays of them is in front of the others
abbrev pub invariant-loop-left : goal.invariant-loop-left
invariant-loop-left g l =
    (before : List Record) × (behind : List Record)
    × (l.fn.records.items ≡ before ++ behind)
    × (l.records.items ≡ kept_records (g.W.Owners.has l.owners) behind ++ before)
    × (l.gone ≡ gone_records (g.W.Owners.has l.owners) behind)
    × (l.left ≡ length before)
    × (deque_len l.records ≤ deque_len l.fn.records)
    × (deque_capacity l.records ≡ deque_capacity l.fn.records)

abbrev pub decreases-loop-left : goal.decreases-loop-left
decreases-loop-left g l = l.left

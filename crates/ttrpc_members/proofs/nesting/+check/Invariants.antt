use Rattle.std.proofs.Common.{◌≡◌, ◌≤◌, ◌+◌, ◌*◌, ◌-◌, ℕ, None, length}
use Rattle.ttrpc_wire.specs.Fold.{read_from}
use Rattle.ttrpc_members.specs.Nesting.{field_in, nested_upto}
use Rattle.ttrpc_members.proofs.nesting.+check.Given as goal

abbrev pub decreases-check_field : goal.decreases-check_field
decreases-check_field l = 2 * l.levels + 1

abbrev pub decreases-check_message : goal.decreases-check_message
decreases-check_message l = 2 * l.levels

abbrev pub invariant-check_message-loop-reader : goal.invariant-check_message-loop-reader
invariant-check_message-loop-reader l = (1 ≤ l.levels)
    × (read_from (field_in l.rules (λ m b. nested_upto l.rules (l.levels - 1) m b) l.message) tt l.reader ≡ nested_upto l.rules l.levels l.message l.bytes)
    × ((k : ℕ) → read_from (field_in l.rules (λ m b. nested_upto l.rules k m b) l.message) tt l.reader ≡ None → read_from (field_in l.rules (λ m b. nested_upto l.rules k m b) l.message) tt l.bytes ≡ None)

abbrev pub decreases-check_message-loop-reader : goal.decreases-check_message-loop-reader
decreases-check_message-loop-reader l = length l.reader

-- The keys that the loop has passed are below the key, and the others are left.
use Rattle.std.proofs.Common.{◌≡◌, ◌<◌, ◌≤◌, ℕ, ◌++◌, drop, get_or, length}
use Rattle.ttrpc_table.proofs.place.Given as goal

abbrev pub invariant-loop-i : goal.invariant-loop-i
invariant-loop-i l = record {
  rest : l.other-iterator.head.now ++ l.other-iterator.wrapped.now ≡ drop l.i l.keys.items;
  behind : (j : ℕ) → j < l.i → get_or l.keys.items j 0 < l.key;
  within : l.i ≤ length l.keys.items;
}

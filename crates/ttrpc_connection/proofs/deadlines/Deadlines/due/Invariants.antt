use Rattle.ttrpc_connection.proofs.Words.{◌≡◌, ◌≤◌, ◌++◌, length}
use Rattle.std.specs.List.Sorted.{IsStrictlySortedBy}
use Rattle.std.specs.Vec.{vec_capacity}
use Rattle.ttrpc_connection.specs.Deadlines.{due_ids, sooner}
use Rattle.ttrpc_connection.proofs.deadlines.Deadlines.due.Given as goal

-- the ids of those that came so far are there, and the others are in order
abbrev pub invariant-loop-pair : goal.invariant-loop-pair
invariant-loop-pair l = record {
  so_far : l.due.items ++ due_ids l.now l.pair-iterator ≡ due_ids l.now l.self;
  ordered : IsStrictlySortedBy sooner l.pair-iterator;
  room : length (due_ids l.now l.self) ≤ vec_capacity l.due;
  grown : vec_capacity l.fn.due ≤ vec_capacity l.due;
}

-- The parts of a client's state that aren't seen from outside.
-- Source: this project's.
use Rattle.std.specs.Prelude.{◌≡◌, ◌≤◌, ℕ, ◌+◌, List, Option, None, Some, if◌then◌else◌, sum_by}
use Rattle.std.specs.Ordering.{nat_cmp}
use Rattle.std.specs.List.Sorted.{IsStrictlySortedBy}
use Rattle.std.specs.Map.{keys_of, values_of}
use Rattle.ttrpc_connection.specs.Deadlines.{has_deadline, is_moment}
use Rattle.ttrpc_client.specs.Types.{CallState, Waiting}
use Rattle.ttrpc_client.specs.State.{IsClient, call_in, told_left, waits}

-- Returns the deadline of a call, if the call waits and has one.
abbrev pub deadline_in : Option CallState → Option ℕ
deadline_in (Some (Waiting deadline)) = deadline
deadline_in call = None

-- ---- the state that is kept

-- Returns 1 for a call that waits, and 0 for any other.
abbrev pub weight : CallState → ℕ
weight call = if waits (Some call) then 1 else 0

-- Returns how many calls wait.
abbrev pub waiting_in : List (ℕ × CallState) → ℕ
waiting_in calls = sum_by weight (values_of calls)

-- Holds if the deadlines are those of the calls that wait.
abbrev pub AreDeadlines : List (ℕ × ℕ) → List (ℕ × CallState) → Type 0
AreDeadlines deadlines calls = (at id : ℕ) → has_deadline deadlines at id ≡ is_moment at (deadline_in (call_in calls id))

-- Holds if the state has the properties of every client. There is room to report each call that waits as ended, too, and if no call is
-- left, none is reported.
pub record IsKept (next : ℕ) (calls : List (ℕ × CallState)) (deadlines : List (ℕ × ℕ)) (ended : List ℕ) (used room : ℕ) : Type 0 where
  pub valid : IsClient next calls
  pub ordered : IsStrictlySortedBy nat_cmp (keys_of calls)
  pub deadlines_are : AreDeadlines deadlines calls
  pub has_room : used + waiting_in calls ≤ room
  pub told : told_left calls ended ≡ ended

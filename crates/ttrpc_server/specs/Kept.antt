-- The part of a server's state that finds jobs, and that isn't seen from outside.
-- Source: this project's.
use Rattle.std.specs.Prelude.{◌≡◌, ◌≢◌, ◌≤◌, ◌&&◌, ℕ, List, [], ◌∷◌, Option, None, Some, Bool, true, false, length, nat_eq}
use Rattle.std.specs.List.{list_any, AllByRecursion}
use Rattle.std.specs.BTreeMap.{is_at}
use Rattle.std.specs.Map.{lookup}
use Rattle.std.specs.Ordering.{nat_cmp}
use Rattle.ttrpc_server.specs.Types.{ActiveJob, Rules, Async, Sync}
use Rattle.ttrpc_connection.specs.Deadlines.{ChangesTo, has_deadline, is_moment}
use Rattle.ttrpc_server.specs.State.{deadline_in, is_stream, jobs_at}

-- ---- the index: the active job of each stream id, and deadlines

-- An index of jobs.
pub record Indexed : Type 0 where
  -- the id of the active job of each stream id, by rising stream id
  pub streams : List (ℕ × ℕ)
  -- each deadline with the id of its job
  pub deadlines : List (ℕ × ℕ)

-- Returns an index without jobs.
abbrev pub no_index : Indexed
no_index = record { streams = []; deadlines = [] }

-- Returns the job that the index has for a stream id.
abbrev pub job_found : Indexed → ℕ → Option ℕ
job_found index k = lookup (is_at (nat_cmp k)) index.streams

-- Holds if a job of this stream id and with this deadline was added to the index, and all others are found as before.
pub record Finds (old : Indexed) (k id : ℕ) (deadline : Option ℕ) (new : Indexed) : Type 0 where
  pub own : job_found new k ≡ Some id
  pub others : (q : ℕ) → q ≢ k → job_found new q ≡ job_found old q
  pub deadlines : ChangesTo true old.deadlines id deadline new.deadlines

-- Holds if a job of this stream id and with this deadline was removed from the index, and all others are found as before.
pub record Loses (old : Indexed) (k id : ℕ) (deadline : Option ℕ) (new : Indexed) : Type 0 where
  pub own : job_found new k ≡ None
  pub others : (q : ℕ) → q ≢ k → job_found new q ≡ job_found old q
  pub deadlines : ChangesTo false old.deadlines id deadline new.deadlines

-- Holds if all jobs are found as before.
pub record FindsTheSame (old new : Indexed) : Type 0 where
  pub streams : (q : ℕ) → job_found new q ≡ job_found old q
  pub deadlines : (at id : ℕ) → has_deadline new.deadlines at id ≡ has_deadline old.deadlines at id

-- ---- jobs that expire

-- The ids of the jobs that are due, while they expire, and of those that expired and weren't reported yet. `room` is the number of further
-- jobs for which both have room.
pub record Expiring : Type 0 where
  pub due : List ℕ
  pub expired : List ℕ
  pub room : ℕ

-- ---- the properties of every server

-- Returns the id of the first of some jobs.
abbrev pub first_id : List ActiveJob → Option ℕ
first_id [] = None
first_id (j ∷ js) = Some j.id

-- Returns true if one of the jobs has this id and this deadline.
abbrev pub is_due_at : List ActiveJob → ℕ → ℕ → Bool
is_due_at jobs at id = list_any (λ j. nat_eq id j.id && is_moment at (deadline_in j.body)) jobs

-- Holds if each stream id has at most one active job.
abbrev pub AreSingle : List ActiveJob → Type 0
AreSingle jobs = (k : ℕ) → length (jobs_at jobs k) ≤ 1

-- Holds if none of the jobs is a stream's.
abbrev pub AreUnary : List ActiveJob → Type 0
AreUnary jobs = AllByRecursion (λ (j : ActiveJob). is_stream j.body ≡ false) jobs

-- Holds if the jobs and their index have the properties of every server. The index has exactly the deadlines of the jobs. Under async rules
-- a stream id has at most one active job, which is found under it, and sync rules have no streams.
pub record IsKept (rules : Rules) (jobs : List ActiveJob) (index : Indexed) : Type 0 where
  pub deadlines : (at id : ℕ) → has_deadline index.deadlines at id ≡ is_due_at jobs at id
  pub single : rules ≡ Async → AreSingle jobs
  pub found : rules ≡ Async → (k : ℕ) → job_found index k ≡ first_id (jobs_at jobs k)
  pub unary : rules ≡ Sync → AreUnary jobs

-- Holds if under async rules there is room for each job to expire.
abbrev pub HasRoom : Rules → List ActiveJob → Expiring → Type 0
HasRoom rules jobs expiring = rules ≡ Async → length jobs ≤ expiring.room

-- The ids of jobs rise through every call.
use Rattle.ttrpc_server.proofs.Words.{◌≡◌, ℕ, ◌≤◌, List, [], ◌∷◌, ◌++◌, Some, None, arith, AllByRecursion, Request, ActiveJob, Job, EndsOne, HandsOne, NoneWaits, Rising}
use Rattle.ttrpc_server.proofs.Keyed.{one_less}

-- ---- lists of jobs

with_one_taken : (low high : ℕ) (front back : List ActiveJob) (job : ActiveJob) → Rising low (front ++ job ∷ back) high → Rising low (front ++ record job { request = None } ∷ back) high
with_one_taken low high [] back job rising = rising
with_one_taken low high (j ∷ front) back job rising = (rising.0, with_one_taken j.id high front back job rising.1)

-- ---- calls

pub taking_keeps : (old new : List ActiveJob) (high : ℕ) (handed : Job) → HandsOne old handed new → Rising 0 old high → Rising 0 new high
taking_keeps old new high handed one rising = rw one.jobs (with_one_taken 0 high one.front one.back one.job (rw one.was at rising))

pub answering_keeps : (old new : List ActiveJob) (high id : ℕ) (job : ActiveJob) → EndsOne old id job new → Rising 0 old high → Rising 0 new high
answering_keeps old new high id job ends rising = rw ends.jobs (one_less 0 high ends.at.front ends.at.back job (rw ends.at.is at rising))

-- ---- the job that is handed out

-- of the jobs that wait, none has a lower id
abbrev LeastOf : ℕ → List ActiveJob → Type 0
LeastOf id js = AllByRecursion (λ (j : ActiveJob). (request : Request) → j.request ≡ Some request → id ≤ j.id) js

least_behind : (id low high : ℕ) (js : List ActiveJob) → id ≤ low → Rising low js high → LeastOf id js
least_behind id low high [] le rising = tt
least_behind id low high (j ∷ js) le rising =
    (λ request is. omega (arith, le, rising.0), least_behind id j.id high js (omega (arith, le, rising.0)) rising.1)

least_of_all : (low high : ℕ) (front back : List ActiveJob) (job : ActiveJob) → NoneWaits front → Rising low (front ++ job ∷ back) high → LeastOf job.id (front ++ job ∷ back)
least_of_all low high [] back job none rising = (λ request is. omega arith, least_behind job.id job.id high back (omega arith) rising.1)
least_of_all low high (j ∷ front) back job none rising =
    (λ request is. absurd (cc (none.0, is)), least_of_all j.id high front back job none.1 rising.1)

pub handed_is_least : (old new : List ActiveJob) (handed : Job) (low high : ℕ) → HandsOne old handed new → Rising low old high → LeastOf handed.id old
handed_is_least old new handed low high hands rising = rw (hands.was, hands.id) (least_of_all low high hands.front hands.back hands.job hands.first (rw hands.was at rising))

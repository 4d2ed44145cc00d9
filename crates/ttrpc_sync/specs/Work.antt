-- The behavior of a worker: the jobs that it took, the outcomes that it reported, and how it passed its gate.
-- Source: this project's; where the gate is passed, the Rust crate ttrpc, the worker threads of its server.
use Rattle.std.specs.Prelude.{◌≡◌, ℕ, zero, suc, List, [], ◌∷◌, ◌++◌, length, Option, None, Some, Bool, true, false, ⊤}
use Rattle.ttrpc_sync.specs.declared.ports.PortState.{PortState}
use Rattle.ttrpc_sync.specs.declared.ports.PortState.TheVariants.{Open, Stopped}

-- a list that is known in the end has grown by these items
abbrev pub Grows : {A : Type 0} → Option (List A) → Option (List A) → List A → Type 0
Grows old None more = ⊤
Grows None (Some new) more = ⊥
Grows (Some old) (Some new) more = new ≡ old ++ more

-- a list that is known in the end stayed as it was
abbrev pub Stays : {A : Type 0} → Option (List A) → Option (List A) → Type 0
Stays old new = Grows old new []

-- An act of a worker at a gate: it was let in, it went out again, or it was sent away.
pub data Passage : Type 0 where
  Entered : Passage
  Left : Passage
  Refused : Passage

-- the worker that passed the gate last was let in
abbrev pub IsInside : Option (List Passage) → Type 0
IsInside None = ⊤
IsInside (Some passages) = (before : List Passage) × (passages ≡ before ++ Entered ∷ [])

-- n times a worker was let in and went out again
abbrev pub rounds : ℕ → List Passage
rounds zero = []
rounds (suc n) = Entered ∷ Left ∷ rounds n

-- For each of these jobs, in order, an outcome was reported under the job's own key. This outcome is one that the job's request may have.
abbrev pub Reports : {Key Request Outcome : Type 0} → (Request → Outcome → Type 0) → List (Key × Request) → List (Key × Outcome) → Type 0
Reports gives [] [] = ⊤
Reports gives [] (report ∷ reports) = ⊥
Reports gives (job ∷ jobs) [] = ⊥
Reports gives (job ∷ jobs) (report ∷ reports) = (report.0 ≡ job.0) × gives job.1 report.1 × Reports gives jobs reports

-- A worker took jobs, reported the outcome of each, passed its gate once for each, and then had this last round at the gate.
pub record Worked {Key Request Outcome : Type 0} (gives : Request → Outcome → Type 0) (last : List Passage)
    (taken_old taken_new : Option (List (Key × Request))) (reported_old reported_new : Option (List (Key × Outcome)))
    (passages_old passages_new : Option (List Passage)) : Type 0 where
  pub jobs : List (Key × Request)
  pub reports : List (Key × Outcome)
  pub taken : Grows taken_old taken_new jobs
  pub reported : Grows reported_old reported_new reports
  pub handled : Reports gives jobs reports
  pub passed : Grows passages_old passages_new (rounds (length jobs) ++ last)

-- The last round at the gate. If the port gave no more jobs, the worker was let in and went out again; else it was sent away.
abbrev pub last_round : PortState → List Passage
last_round Stopped = Entered ∷ Left ∷ []
last_round _ = Refused ∷ []

-- A worker ends if its port gives no more jobs, or if its gate sent it away.
abbrev pub EndsWorking : PortState → Bool → Type 0
EndsWorking Stopped is_shut = is_shut ≡ false
EndsWorking Open is_shut = is_shut ≡ true
EndsWorking _ is_shut = ⊥

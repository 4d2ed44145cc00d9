-- The tasks that wait for something of a stream.
-- Source: this project's.
use Rattle.std.specs.Prelude.{ℕ, List, [], ◌∷◌}

-- the tickets of the frames for which senders wait, and the streams from which a task waits to receive, in order
pub record Waiting : Type 0 where
  pub senders : List ℕ
  pub receivers : List ℕ

-- no task waits
abbrev pub nobody : Waiting
nobody = record { senders = []; receivers = [] }

-- if a task still waits, the first of these tickets has this property
abbrev pub IfUnsent : (ℕ → Type 0) → List ℕ → Type 0
IfUnsent Is [] = Unit {0}
IfUnsent Is (ticket ∷ tickets) = Is ticket

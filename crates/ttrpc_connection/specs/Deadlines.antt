-- Deadlines, each a moment in nanoseconds with the id of what must have ended by then.
-- Source: this project's.
use Rattle.std.specs.Prelude.{◌≡◌, ◌&&◌, ℕ, ◌+◌, List, map, filter, Option, None, Some, Bool, false, if◌then◌else◌, nat_eq, nat_le, ℤ, pos, negsuc, zero, suc}
use Rattle.std.specs.declared.cmp.Ordering.{Ordering}
use Rattle.std.specs.Ordering.{nat_cmp, ordering_then}
use Rattle.std.specs.List.{list_any}
use Rattle.std.specs.BTreeMap.{is_at}
use Rattle.ttrpc_wire.specs.Number.{number_of}

-- Returns the moment by which something that begins now must have ended, or none if its timeout is 0.
abbrev pub deadline_of : ℕ → ℤ → Option ℕ
deadline_of now (pos zero) = None
deadline_of now (pos (suc n)) = Some (now + number_of (pos (suc n)))
deadline_of now (negsuc n) = Some (now + number_of (negsuc n))

-- Compares two deadlines by their moments, and at one moment by their ids.
abbrev pub sooner : ℕ × ℕ → ℕ × ℕ → Ordering
sooner x y = ordering_then (nat_cmp x.0 y.0) (nat_cmp x.1 y.1)

-- Returns true if a deadline with this moment and this id is among them.
abbrev pub has_deadline : List (ℕ × ℕ) → ℕ → ℕ → Bool
has_deadline deadlines at id = list_any (is_at (sooner (at, id))) deadlines

-- Returns true if there is a moment and it is this one.
abbrev pub is_moment : ℕ → Option ℕ → Bool
is_moment at None = false
is_moment at (Some moment) = nat_eq at moment

-- Holds if the deadline of this id, if it has one, is now there or not, as stated, and the others are as before.
abbrev pub ChangesTo : Bool → List (ℕ × ℕ) → ℕ → Option ℕ → List (ℕ × ℕ) → Type 0
ChangesTo there old id deadline new =
    (at k : ℕ) → has_deadline new at k ≡ (if nat_eq k id && is_moment at deadline then there else has_deadline old at k)

-- Returns the ids with a deadline at or before this moment, in the order of the deadlines.
abbrev pub due_ids : ℕ → List (ℕ × ℕ) → List ℕ
due_ids now deadlines = map (λ d. d.1) (filter (λ d. nat_le d.0 now) deadlines)

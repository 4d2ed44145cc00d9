-- The sources at which the future of a connection waits.
-- Source: this project's.
use Rattle.std.specs.Prelude.{◌≡◌, ◌≢◌, ◌⊎◌, ℕ, [], IsSome, true}
use Rattle.std.specs.Arc.{arc_value}
use Rattle.std.specs.declared.io.Error.{Error}
use Rattle.tokio.specs.Timers.{sleep_source}
use Rattle.ttrpc_polled.specs.declared.link.ConnectionDriver.{ConnectionDriver}

-- The future waits to write, if bytes are kept, and in any case for something new.
abbrev pub OutNeeds : {R S W C : Type 0} → (W → ℕ → Type 0) → (C → ℕ) → ConnectionDriver R S W C → ℕ → Type 0
OutNeeds writes asked c s =
    ((c.write_buffer.kept ≢ []) × writes c.write_buffer.writer s) ⊎ (s ≡ asked (arc_value c.shared))

-- In all the future waits to read, unless it reads no more or the core has no room for the rest of a piece. It also waits for its alarm, if
-- that is set.
abbrev pub LinkNeeds : {R S W C : Type 0} → (S → ℕ → Type 0) → (W → ℕ → Type 0) → (C → ℕ) → ConnectionDriver R S W C → ℕ → Type 0
LinkNeeds reads writes asked c s =
    OutNeeds writes asked c s
    ⊎ ((c.is_reading ≡ true) × (c.read_buffer.piece ≡ []) × reads c.read_buffer.reader s)
    ⊎ (IsSome c.alarm.set_for × (s ≡ sleep_source c.alarm.sleep))

-- A connection that is over keeps nothing that is to be written. Or its writer took none of it, even in the time for that, or failed.
abbrev pub IsOver : {R S W C : Type 0} → (W → Error → Type 0) → (W → Type 0) → ConnectionDriver R S W C → Type 0
IsOver fails is_full c = (c.write_buffer.kept ≡ []) ⊎ is_full c.write_buffer.writer ⊎ (c.is_late ≡ true) ⊎ ((e : Error) × fails c.write_buffer.writer e)

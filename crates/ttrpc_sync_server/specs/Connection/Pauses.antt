-- How long a peer has paused inside a frame.
-- Source: this project's.
use Rattle.std.specs.Prelude.{◌-◌, ℕ, Bool, false, Option, Some, None, if◌then◌else◌}
use Rattle.ttrpc_sync_server.specs.declared.connection.pause.Pause.{Pause}
use Rattle.ttrpc_sync_server.specs.Connection.ReadTurns.{is_number}

-- The peer is inside a frame, and no piece has come since the last look.
abbrev pub lasts : Pause → (pieces : Option ℕ) → Bool
lasts pause None = false
lasts pause (Some count) = is_number pause.pieces count

-- the time since the first look that saw this number of pieces
abbrev pub paused : Pause → (now : ℕ) → (pieces : Option ℕ) → ℕ
paused pause now pieces = if lasts pause pieces then now - pause.since else 0

-- the state after a look
abbrev pub seen_behind : Pause → (now : ℕ) → (pieces : Option ℕ) → Pause
seen_behind pause now pieces = if lasts pause pieces then pause else record { pieces = pieces; since = now }

-- The rest of one poll of a connection.
-- Source: this project's.
use Rattle.std.specs.Prelude.{◌≡◌, ◌≤◌, ◌⊎◌, ◌+◌, ◌^◌, ◌-◌, min, ℕ, true}
use Rattle.ttrpc_polled.specs.declared.share.Share.{Share}

-- the share of a poll that begins at this moment: it may hand on a piece, and has some 100
-- microseconds
abbrev pub fresh : ℕ → Share
fresh now = record { moment = now; until = min (now + 100000) (2 ^ 64 - 1); jobs = 0; moves = 0; may_hand_on = true }

-- nothing is left: the time is over, or 16 jobs were handled
abbrev pub IsSpent : Share → Type 0
IsSpent share = (share.until ≤ share.moment) ⊎ (16 ≤ share.jobs)

-- The frames that go out of a connection.
-- Source: this project's.
use Rattle.std.specs.Prelude.{ℕ, ◌&&◌, Bool, nat_lt, nat_le}
use Rattle.ttrpc_proto.specs.Framing.Queue.{Queue}

-- The half that seals, the frames that it sealed, and the tickets that were given.
pub record Outbox (O : Type 0) : Type 0 where
  -- the half that seals
  pub half : O
  -- the sealed frames that wait to be written
  pub queue : Queue
  -- the last ticket that was given, 0 before the first
  pub tickets : ℕ

-- Returns true if the frame of this ticket was reported whole.
abbrev pub is_sent : Queue → ℕ → Bool
is_sent q ticket = nat_lt 0 ticket && nat_le ticket q.sent

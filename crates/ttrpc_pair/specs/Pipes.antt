-- The bytes in flight to one side.
-- Source: this project's.
use Rattle.std.specs.Prelude.{ℕ, List, [], Bool, true, false}

-- the pipe to one side: the bytes in flight, and whether the pipe was cut
pub record Pipe : Type 0 where
  pub bytes : List ℕ
  -- true if all bytes that are written from now on are lost
  pub cut : Bool

-- a pipe that has no bytes and wasn't cut
abbrev pub empty_pipe : Pipe
empty_pipe = record { bytes = []; cut = false }

-- Returns true if the pipe was cut and these bytes, which are left to deliver, are none.
abbrev pub is_over_of : Bool → List ℕ → Bool
is_over_of true [] = true
is_over_of cut bytes = false

-- Returns true if the pipe was cut and has no bytes left to deliver.
abbrev pub is_over : Pipe → Bool
is_over p = is_over_of p.cut p.bytes

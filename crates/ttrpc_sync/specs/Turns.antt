-- The turn to write.
-- Source: this project's.
use Rattle.std.specs.Prelude.{Bool, true, false, if◌then◌else◌}
use Rattle.ttrpc_sync.specs.declared.ends.turn.WriteTurn.{WriteTurn}
use Rattle.ttrpc_sync.specs.declared.ends.turn.Next.{Next}
use Rattle.ttrpc_sync.specs.declared.ends.turn.Next.TheVariants.{Writes, Leaves, Sleeps}

-- Bytes wait, and no other thread has the turn.
abbrev pub may_write : (is_taken has_turn bytes_wait : Bool) → Bool
may_write is_taken has_turn bytes_wait = if bytes_wait then (if has_turn then true else (if is_taken then false else true)) else false

-- the next action of a writer when nothing is lent
abbrev pub next_of : (is_taken has_turn stays bytes_wait : Bool) → Next
next_of is_taken has_turn stays bytes_wait = if may_write is_taken has_turn bytes_wait then Writes else (if stays then Sleeps else Leaves)

-- the turn after that action: the writer has it, or has given it back
abbrev pub turn_after : WriteTurn → (has_turn stays bytes_wait : Bool) → WriteTurn
turn_after t has_turn stays bytes_wait =
    if may_write t.is_taken has_turn bytes_wait then record t { is_taken = true } else
    record { is_taken = if has_turn then false else t.is_taken; sleeps = if stays then true else t.sleeps }

-- A thread that gives the turn back wakes the writer thread if bytes wait and the writer thread sleeps.
abbrev pub wakes_behind : WriteTurn → (bytes_wait : Bool) → Bool
wakes_behind t bytes_wait = if bytes_wait then t.sleeps else false

-- the turn after it was given back: free; if the writer thread is woken, it no longer counts as asleep
abbrev pub given_back : WriteTurn → (bytes_wait : Bool) → WriteTurn
given_back t bytes_wait = record { is_taken = false; sleeps = if bytes_wait then false else t.sleeps }

-- The writer thread is woken if it is wanted, it sleeps, and no thread has the turn.
abbrev pub wakes_writer : WriteTurn → (is_wanted : Bool) → Bool
wakes_writer t is_wanted = if is_wanted then (if t.is_taken then false else t.sleeps) else false

-- the turn afterwards: if the writer thread is woken, it no longer counts as asleep
abbrev pub turn_waking : WriteTurn → (is_wanted : Bool) → WriteTurn
turn_waking t is_wanted = if is_wanted then record t { sleeps = if t.is_taken then t.sleeps else false } else t

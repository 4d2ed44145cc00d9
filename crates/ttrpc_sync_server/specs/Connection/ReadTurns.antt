-- The turn to read, which a server's two readers share, and when one reader takes it from the other.
-- Source: this project's.
use Rattle.std.specs.Prelude.{◌+◌, ◌-◌, ◌^◌, min, ℕ, Bool, true, false, Option, Some, None, if◌then◌else◌, is_some, nat_eq}
use Rattle.ttrpc_sync_server.specs.declared.connection.ports.read_turn.AtTurn.{AtTurn}
use Rattle.ttrpc_sync_server.specs.declared.connection.ports.read_turn.AtTurn.TheVariants.{Reads, LooksAgain, Sleeps}
use Rattle.ttrpc_sync_server.specs.declared.connection.ports.read_turn.ServerReadTurn.{ServerReadTurn}

-- a turn that no reader has, and for which none waits
abbrev pub new_read_turn : ServerReadTurn
new_read_turn = record { reader = None; handles = false; rounds = 0; other_waits = false; other_sleeps = false }

-- The number is known, and is this one.
abbrev pub is_number : Option ℕ → ℕ → Bool
is_number None number = false
is_number (Some other) number = nat_eq other number

-- This reader has the turn.
abbrev pub has_turn : ServerReadTurn → (reader : ℕ) → Bool
has_turn read_turn reader = is_number read_turn.reader reader

-- A worker may take a job, and so may this reader, unless it has the turn and reads.
abbrev pub may_handle : ServerReadTurn → (reader : Option ℕ) → Bool
may_handle read_turn None = true
may_handle read_turn (Some reader) = if read_turn.handles then true else (if has_turn read_turn reader then false else true)

-- A reader without the turn takes it: no reader has it, or the reader that has it still handles jobs of the round that
-- was seen.
abbrev pub takes : ServerReadTurn → (seen : Option ℕ) → Bool
takes read_turn seen = if is_some read_turn.reader then (if read_turn.handles then is_number seen read_turn.rounds else false) else true

-- A reader without the turn sleeps: the reader that has it reads, and has begun no round since the last look.
abbrev pub rests : ServerReadTurn → (seen : Option ℕ) → Bool
rests read_turn seen = if read_turn.handles then false else (if is_some seen then is_number seen read_turn.rounds else true)

-- the next action of a reader that wants to read
abbrev pub at_turn : ServerReadTurn → (reader : ℕ) → (seen : Option ℕ) → AtTurn
at_turn read_turn reader seen =
    if has_turn read_turn reader then Reads else
    if takes read_turn seen then Reads else
    if rests read_turn seen then Sleeps else LooksAgain read_turn.rounds

-- the turn after that
abbrev pub read_turn_wanted : ServerReadTurn → (reader : ℕ) → (seen : Option ℕ) → ServerReadTurn
read_turn_wanted read_turn reader seen =
    if has_turn read_turn reader then record read_turn { handles = false } else
    if takes read_turn seen then record read_turn { reader = Some reader; handles = false; other_waits = false; other_sleeps = false } else
    record read_turn { other_waits = true; other_sleeps = rests read_turn seen }

-- the turn after the reader that has it has begun to handle jobs
abbrev pub read_turn_begun : ServerReadTurn → ServerReadTurn
read_turn_begun read_turn = record read_turn { handles = true; rounds = min (read_turn.rounds + 1) (2 ^ 64 - 1); other_sleeps = false }

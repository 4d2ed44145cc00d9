-- How much of a connection's input waits to be handled, and when the input is too much.
-- Source: this project's.
use Rattle.std.specs.Prelude.{◌+◌, ◌-◌, ◌^◌, min, ℕ, Bool, true, false, Option, Some, None, if◌then◌else◌, nat_eq, nat_lt}
use Rattle.ttrpc_proto.specs.declared.framing.header.TheConstants.{MESSAGE_HEADER_LENGTH}
use Rattle.ttrpc_sync_server.specs.declared.connection.ports.backlog.Backlog.{Backlog}

-- A count is above a limit, if there is one.
abbrev pub is_above : (limit : Option ℕ) → (count : ℕ) → Bool
is_above None count = false
is_above (Some limit) count = nat_lt limit count

-- Too much waits, if this many jobs wait: the jobs are too many, or there are some, and too many bytes wait.
abbrev pub is_full : Backlog → (waiting : ℕ) → Bool
is_full backlog waiting =
    if is_above backlog.max_jobs waiting then true else
    (if nat_lt 0 waiting then is_above backlog.max_bytes backlog.bytes else false)

-- the number of bytes that wait after a job has begun, if the payload of its frame has this length: none if no job
-- waits, else fewer by the frame
abbrev pub bytes_behind : ℕ → (length waiting : ℕ) → ℕ
bytes_behind bytes length waiting = if nat_eq waiting 0 then 0 else bytes - (length + MESSAGE_HEADER_LENGTH)

-- the backlog after `length` bytes of a piece have come, if any have
abbrev pub with_piece : Backlog → (length : ℕ) → Backlog
with_piece backlog length = if nat_eq length 0 then backlog else record backlog {
  bytes = min (backlog.bytes + length) (2 ^ 64 - 1);
  pieces = min (backlog.pieces + 1) (2 ^ 64 - 1);
}

-- the backlog after such a job has begun
abbrev pub with_begun : Backlog → (length waiting : ℕ) → Backlog
with_begun backlog length waiting = record backlog { bytes = bytes_behind backlog.bytes length waiting }

-- The waiting reader is woken, since too much no longer waits.
abbrev pub calls_reader : Backlog → (waiting : ℕ) → Bool
calls_reader backlog waiting = if backlog.reader_waits then (if is_full backlog waiting then false else true) else false

-- the backlog with this flag for its reader
abbrev pub with_reader : Backlog → (waits : Bool) → Backlog
with_reader backlog waits = record backlog { reader_waits = waits }

-- The turn to read.
-- Source: this project's.
use Rattle.std.specs.Prelude.{◌+◌, ◌-◌, ◌^◌, min, ℕ, Bool, true, false, Option, Some, None, Result, Ok, Err, if◌then◌else◌, is_some, nat_eq, nat_lt, nat_le}
use Rattle.ttrpc_proto.specs.declared.error.Error.{Error}
use Rattle.ttrpc_proto.specs.declared.error.Error.TheVariants.{RpcStatus}
use Rattle.ttrpc_proto.specs.declared.messages.Response.{Response}
use Rattle.ttrpc_sync_client.specs.declared.ports.read_turn.TheConstants.{CALLS_TO_REST}
use Rattle.ttrpc_sync_client.specs.declared.ports.read_turn.CurrentReader.{CurrentReader}
use Rattle.ttrpc_sync_client.specs.declared.ports.read_turn.CurrentReader.TheVariants.{Nobody, Thread, Caller}
use Rattle.ttrpc_sync_client.specs.declared.ports.read_turn.ReaderNext.{ReaderNext}
use Rattle.ttrpc_sync_client.specs.declared.ports.read_turn.ReaderNext.TheVariants.{Reads, Leaves, HandsOver}
use Rattle.ttrpc_sync_client.specs.declared.ports.read_turn.CallShape.{CallShape}
use Rattle.ttrpc_sync_client.specs.declared.ports.read_turn.ReadTurn.{ReadTurn}

-- a turn that no thread has, without a call under way
abbrev pub new_turn : ReadTurn
new_turn = record { reader = Nobody; sleeps = false; callers = 0; alone = 0; last = None; unread = None }

-- No thread reads.
abbrev pub is_free : CurrentReader → Bool
is_free Nobody = true
is_free Thread = false
is_free (Caller id) = false

-- The caller of this call reads.
abbrev pub reads_for : CurrentReader → ℕ → Bool
reads_for Nobody id = false
reads_for Thread id = false
reads_for (Caller other) id = nat_eq other id

-- The call is known, and is this one.
abbrev pub is_call : Option ℕ → ℕ → Bool
is_call None id = false
is_call (Some other) id = nat_eq other id

-- A caller may write for itself: nothing waits before its frame, and it has no deadline. With a deadline, a write could hold it too long.
abbrev pub may_write : CallShape → Bool
may_write shape = if shape.is_next then (if shape.has_deadline then false else true) else false

-- No other call is under way, and the peer has read all bytes that were written, since it answered the last call.
abbrev pub is_first : ReadTurn → Bool
is_first turn = if is_some turn.unread then false else nat_eq turn.callers 0

-- A caller that writes for itself may read for itself, too, if its frame is short, and it is the first.
abbrev pub is_alone : ReadTurn → CallShape → Bool
is_alone turn shape = if shape.is_short then (if is_first turn then may_write shape else false) else false

-- the turn after a call has begun
abbrev pub begun : ReadTurn → ℕ → (is_alone : Bool) → ReadTurn
begun turn id is_alone = record turn {
  callers = min (turn.callers + 1) (2 ^ 64 - 1);
  alone = if is_alone then min (turn.alone + 1) CALLS_TO_REST else 0;
  last = Some id;
  unread = Some id;
}

-- the turn after a call has ended: its caller reads no more
abbrev pub ended : ReadTurn → ℕ → ReadTurn
ended turn id = record turn {
  reader = if reads_for turn.reader id then Nobody else turn.reader;
  last = if is_call turn.last id then None else turn.last;
}

-- the turn after a caller has its outcome: if the call that began last was answered, the peer has read all requests
abbrev pub finished : ReadTurn → ℕ → (is_answered : Bool) → ReadTurn
finished turn id is_answered = record turn {
  callers = turn.callers - 1;
  unread = if (if is_answered then is_call turn.unread id else false) then None else turn.unread;
}

-- An outcome is the peer's answer.
abbrev pub is_answer : Result Response Error → Bool
is_answer (Ok response) = true
is_answer (Err (RpcStatus status)) = true
is_answer (Err error) = false

-- the turn after the caller of a call has asked for its outcome, and got it if there was one
abbrev pub turn_asked : ReadTurn → ℕ → Option (Result Response Error) → ReadTurn
turn_asked turn id None = turn
turn_asked turn id (Some outcome) = finished turn id (is_answer outcome)

-- The caller of this call may take the turn: no thread has it, and the call is the last one and hasn't ended.
abbrev pub may_take : ReadTurn → ℕ → Bool
may_take turn id = if is_free turn.reader then is_call turn.last id else false

-- The reader thread may rest: enough calls in a row were alone, and the last one has ended.
abbrev pub may_rest : ReadTurn → Bool
may_rest turn = if is_some turn.last then false else nat_le CALLS_TO_REST turn.alone

-- Callers wait, and the thread that is to read for them sleeps.
abbrev pub leaves_others : ReadTurn → Bool
leaves_others turn = if turn.sleeps then nat_lt 1 turn.callers else false

-- the next action of a reader after a piece; if no thread has the turn any more, the piece ended the call of the reading caller
abbrev pub reader_next_of : CurrentReader → ReadTurn → ReaderNext
reader_next_of Nobody turn = if leaves_others turn then HandsOver else Leaves
reader_next_of Thread turn = if may_rest turn then Leaves else Reads
reader_next_of (Caller id) turn = Reads

-- the turn after that action
abbrev pub turn_reader_next : ReaderNext → ReadTurn → ReadTurn
turn_reader_next Reads turn = turn
turn_reader_next Leaves turn = record turn { reader = Nobody }
turn_reader_next HandsOver turn = record turn { sleeps = false }

-- The reader reads on.
abbrev pub reads_on : ReaderNext → Bool
reads_on Reads = true
reads_on Leaves = false
reads_on HandsOver = false

-- The reader thread is to be woken.
abbrev pub hands_over : ReaderNext → Bool
hands_over Reads = false
hands_over Leaves = false
hands_over HandsOver = true

-- The reader thread is to be woken for a caller that doesn't read: no thread reads, and the reader thread sleeps.
abbrev pub wakes_thread : ReadTurn → Bool
wakes_thread turn = if is_free turn.reader then turn.sleeps else false

-- the turn after that
abbrev pub turn_waking : ReadTurn → ReadTurn
turn_waking turn = if is_free turn.reader then record turn { sleeps = false } else turn

-- How the calls of a server's ports change its core, under the lock.
-- Source: this project's.
use Rattle.std.specs.Prelude.{◌≡◌, ◌≢◌, ◌⊎◌, ◌-◌, ℕ, Option, Some, None, List, filter, length, take, drop, min, is_some, if◌then◌else◌, Bool, true, false, nat_eq, nat_le, nat_lt, Ok, Err, Result}
use Rattle.ttrpc_proto.specs.Framing.Frames.{nothing}
use Rattle.ttrpc_proto.specs.Framing.Queue.{after_report, open_part, with_lent}
use Rattle.ttrpc_proto.specs.declared.error.Error.{Error}
use Rattle.ttrpc_secure.specs.declared.transform.InboundTransform.{Ghosts as InboundTransform}
use Rattle.ttrpc_secure.specs.declared.transform.OutboundTransform.{Ghosts as OutboundTransform}
use Rattle.ttrpc_server.specs.Protocol.{serving}
use Rattle.ttrpc_server.specs.State.{waits}
use Rattle.ttrpc_server.specs.Types.{Ends, TakesOrDrains}
use Rattle.ttrpc_server.specs.declared.server.ServerCore.{ServerCore}
use Rattle.ttrpc_sync.specs.Turns.{wakes_writer}
use Rattle.ttrpc_sync.specs.declared.ends.turn.WriteTurn.{WriteTurn}
use Rattle.ttrpc_sync.specs.declared.link.queuing.AfterQueuing.{AfterQueuing}
use Rattle.ttrpc_sync.specs.declared.link.queuing.AfterQueuing.TheVariants.{Write}
use Rattle.ttrpc_sync_server.specs.declared.connection.ports.read_turn.ServerReadTurn.{ServerReadTurn}
use Rattle.ttrpc_sync_server.specs.declared.connection.ports.server.ServerWakeSet.{ServerWakeSet}
use Rattle.ttrpc_sync_server.specs.declared.connection.ports.backlog.Backlog.{Backlog}
use Rattle.ttrpc_sync_server.specs.Connection.Backlogs.{is_full}
use Rattle.ttrpc_sync_server.specs.Connection.ReadTurns.{has_turn, read_turn_begun}

-- the number of jobs that wait
abbrev pub waiting_of : {O I : Type 0} → ServerCore O I → ℕ
waiting_of core = length (filter waits core.state.jobs.list)

-- ---- bytes in

-- the number of bytes of a piece that were taken, unless its reader is to end: the input has ended, or the connection failed
abbrev pub taken_of : (has_ended : Bool) → Result ℕ Error → Option ℕ
taken_of true answer = None
taken_of false (Ok n) = Some n
taken_of false (Err e) = None

-- A piece was fed to the core, and this number of its bytes was taken.
pub record IsFed {O I : Type 0} (seals : OutboundTransform O) (opens : InboundTransform I) (old : ServerCore O I) (piece : List ℕ) (has_ended : Bool) (taken : Option ℕ) (new : ServerCore O I) : Type 0 where
  pub answer : Result ℕ Error
  pub fed : TakesOrDrains (serving seals opens) old.state old.connection piece 0 answer new.state new.connection
  pub count : taken ≡ taken_of has_ended answer

-- The input has come into a frame and not to the frame's end, and more input is read.
pub record IsInsideFrame {O I : Type 0} (core : ServerCore O I) (has_ended : Bool) (backlog : Backlog) : Type 0 where
  pub goes_on : has_ended ≡ false
  pub room : is_full backlog (waiting_of core) ≡ false
  pub inside : core.connection.decoder ≢ nothing

-- ---- bytes out

-- the number of bytes that can be lent: the rest of the first unfinished frame, and none once the connection has failed
abbrev pub open_of : {O I : Type 0} → ServerCore O I → ℕ
open_of core = if is_some core.connection.failure then 0 else length (open_part core.connection.outbox.queue)

-- n bytes were lent into a buffer that held other bytes: the first bytes that can be lent, as many as fit. The rest of the buffer is as it
-- was, and `ends_frame` says whether the bytes end a frame.
pub record LendsFrame {O I : Type 0} (old : ServerCore O I) (before : List ℕ) (n : ℕ) (ends_frame : Bool) (after : List ℕ) (new : ServerCore O I) : Type 0 where
  pub count : n ≡ min (length before) (open_of old)
  pub copied : take n after ≡ take n (open_part old.connection.outbox.queue)
  pub rest : drop n after ≡ drop n before
  pub ends : ends_frame ≡ nat_eq n (open_of old)
  pub same : new ≡ record old { connection = record old.connection { outbox = record old.connection.outbox { queue = with_lent old.connection.outbox.queue n } } }

-- no job is under way, none waits, and nothing can be lent
pub record IsQuiet {O I : Type 0} (core : ServerCore O I) : Type 0 where
  pub jobs : length core.state.jobs.list ≡ 0
  pub bytes : open_of core ≡ 0

-- the core is as it was; or the input has ended, the core was quiet, and the end was reported to it
abbrev pub MayTellEnd : {O I : Type 0} → Bool → ServerCore O I → ServerCore O I → Type 0
MayTellEnd has_ended old new = (new ≡ old) ⊎ ((has_ended ≡ true) × IsQuiet old × Ends old.connection new.connection × (new ≡ record old { connection = new.connection }))

-- true if bytes can be lent
abbrev pub has_bytes : {O I : Type 0} → ServerCore O I → Bool
has_bytes core = nat_lt 0 (open_of core)

-- true if the connection hasn't failed
abbrev pub is_alive : {O I : Type 0} → ServerCore O I → Bool
is_alive core = if is_some core.connection.failure then false else true

-- the core after a report that n of the lent bytes were written, at most all of them
abbrev pub reported_to : {O I : Type 0} → ServerCore O I → ℕ → ServerCore O I
reported_to core n = record core { connection = record core.connection { outbox = record core.connection.outbox { queue = after_report core.connection.outbox.queue (min n core.connection.outbox.queue.lent) } } }

-- ---- which threads are woken

-- true if the reader of a piece handles its jobs itself: the piece was taken whole, jobs wait, and the other reader waits for the turn
abbrev pub keeps_jobs : {O I : Type 0} → (is_whole : Bool) → ServerCore O I → ServerReadTurn → Bool
keeps_jobs is_whole core read_turn = if is_whole then (if nat_lt 0 (waiting_of core) then read_turn.other_waits else false) else false

-- true if such a reader reads on: it has a rest to hand over, or it handles no jobs, and not too much waits
abbrev pub reads_on : {O I : Type 0} → (is_whole : Bool) → ServerCore O I → ServerReadTurn → Backlog → Bool
reads_on is_whole core read_turn backlog =
    if is_whole then (if keeps_jobs true core read_turn then false else (if is_full backlog (waiting_of core) then false else true)) else true

-- the turn to read after that: a reader that handles jobs has begun a round
abbrev pub read_turn_behind : (keeps : Bool) → ServerReadTurn → ServerReadTurn
read_turn_behind keeps read_turn = if keeps then read_turn_begun read_turn else read_turn

-- true if one of the sleeping workers is woken: a job waits, and no worker is on its way
abbrev pub calls_worker : {O I : Type 0} → ServerCore O I → (sleeping coming : ℕ) → Bool
calls_worker core sleeping coming =
    if nat_lt 0 (waiting_of core) then (if nat_lt 0 sleeping then nat_eq coming 0 else false) else false

-- true if there is a reader, and it has the turn
abbrev pub is_turn_of : ServerReadTurn → Option ℕ → Bool
is_turn_of read_turn None = false
is_turn_of read_turn (Some reader) = has_turn read_turn reader

-- true if a worker is woken for the next job, after this reader or a worker took one
abbrev pub calls_for_next : {O I : Type 0} → ServerCore O I → ServerReadTurn → (reader : Option ℕ) → (sleeping coming : ℕ) → Bool
calls_for_next core read_turn reader sleeping coming = if is_turn_of read_turn reader then false else calls_worker core sleeping coming

-- the number of workers that sleep after that
abbrev pub asleep : (calls : Bool) → ℕ → ℕ
asleep calls sleeping = if calls then sleeping - 1 else sleeping

-- the number of workers that are on their way after that
abbrev pub on_their_way : (calls : Bool) → ℕ → ℕ
on_their_way calls coming = if calls then 1 else coming

-- The threads that are woken for a piece: a worker for a job that the reader leaves, and the writer thread if bytes wait. The other reader
-- is woken if it sleeps and is to check how long jobs take.
abbrev pub woken_for : {O I : Type 0} → ServerCore O I → (keeps : Bool) → (sleeping coming : ℕ) → WriteTurn → ServerReadTurn → ServerWakeSet
woken_for core keeps sleeping coming turn read_turn = record {
  worker = if keeps then false else calls_worker core sleeping coming;
  writer = wakes_writer turn (has_bytes core);
  reader = if keeps then read_turn.other_sleeps else false;
}

-- true if the thread that queued an answer writes it itself: more requests may come, nothing waited to be written before, no other job is
-- under way, and none waits
abbrev pub is_lone_answer : {O I : Type 0} → (has_ended : Bool) → ServerCore O I → ServerCore O I → Bool
is_lone_answer has_ended old new =
    if has_ended then false else
    if has_bytes old then false else
    if nat_eq (waiting_of new) 0 then nat_lt (length new.state.jobs.list) 2 else false

-- true if a handler's thread has the turn to write after that
abbrev pub writes_behind : AfterQueuing → Bool → Bool
writes_behind Write handler_writes = true
writes_behind _ handler_writes = handler_writes

-- true if each request is answered, and no more come: no job waits, and none is under way except the job of a handler that writes its
-- answer
abbrev pub is_answered : {O I : Type 0} → ServerCore O I → (has_ended handler_writes : Bool) → Bool
is_answered core has_ended handler_writes =
    if has_ended then
    (if nat_eq (waiting_of core) 0 then nat_le (length core.state.jobs.list) (if handler_writes then 1 else 0) else false)
    else false

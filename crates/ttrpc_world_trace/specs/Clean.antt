-- Clean runs, quiet runs, and the calls and streams that are whole in a run that is both. In a clean run nothing is refused, dropped,
-- drained or cut, no side is failed, and no deadline is reached. At the end of a quiet run nothing is left to be moved or run. These
-- are properties of a trace alone.
-- Source: this project's; when a deadline is reached: PROTOCOL.md of ttrpc, "Request".
use Rattle.std.specs.Prelude.{◌≡◌, ◌≢◌, ◌<◌, ◌⊎◌, ℕ, List, [], ◌∷◌, ◌++◌, nat_eq, nat_le, nat_lt, ◌||◌, ◌&&◌, Bool, true, false, Option, Some, None, Result, Ok, Err, if◌then◌else◌}
use Rattle.std.specs.List.{AllByRecursion, list_any}
use Rattle.std.specs.Option.{option_map_or}
use Rattle.ttrpc_proto.specs.declared.error.Error.TheVariants.{Eof, RemoteClosed}
use Rattle.ttrpc_connection.specs.Deadlines.{deadline_of}
use Rattle.ttrpc_server.specs.State.{Services, has_method}
use Rattle.ttrpc_server.specs.declared.rules.Rules.{Rules}
use Rattle.ttrpc_server.specs.declared.rules.Rules.TheVariants.{Async, Sync}
use Rattle.ttrpc_world_trace.specs.declared.events.Side.{Side}
use Rattle.ttrpc_world_trace.specs.declared.events.Side.TheVariants as side
use Rattle.ttrpc_world_trace.specs.declared.events.StreamEnd.TheVariants as end
use Rattle.ttrpc_world_trace.specs.Types.{Error, Request, Response, Event, Answer, Call, Carry, Cut, Deliver, Drain, DropCall, DropReceiver, DropSender, EndStream, Fail, Open, Outcome, Recv, Respond, Take, Tick, Reply, Count, Done, Handed, Item, Named, NoMemory, Refused, Entry}
use Rattle.ttrpc_world_trace.specs.Trace.{Act, Answered, Called, Gave, Ran, acts, some_of}
use Rattle.ttrpc_world_trace.specs.Told.{calls, outcomes}
use Rattle.ttrpc_world_trace.specs.Flows.{Fresh, Tells, Word, flows, got, has_end, heard_down, heard_up, items, put_down, put_up}

-- ---- the moment at a place, and the deadlines that it reaches

-- Returns the last moment after this event with its reply.
abbrev pub moment_after : ℕ → Event → Reply → ℕ
moment_after moment (Tick now) Done = now
moment_after moment event reply = moment

-- Returns the last moment after a trace that began at this one.
abbrev pub moment_behind : ℕ → List Entry → ℕ
moment_behind moment [] = moment
moment_behind moment (e ∷ es) = moment_behind (moment_after moment e.event e.reply) es

-- Returns true if there is a deadline and this moment reaches it.
abbrev pub reaches : ℕ → Option ℕ → Bool
reaches now deadline = option_map_or (λ at. nat_le at now) deadline false

-- Returns the results with which a call or a stream was answered or ended, in order.
abbrev pub answers : List Act → List (Result (Option Response) Error)
answers [] = []
answers (Answered stream result ∷ xs) = result ∷ answers xs
answers (act ∷ xs) = answers xs

-- Returns true if the list is empty.
abbrev pub is_none_of : {X : Type 0} → List X → Bool
is_none_of [] = true
is_none_of (x ∷ xs) = false

-- Returns true if the moment `now` reaches the deadline of a call or a stream that an entry began at an earlier moment. The call has
-- no outcome in the trace so far, or the stream has no answer.
abbrev pub reaches_at : (stream_of : ℕ → ℕ) → (front : List Entry) → (now began : ℕ) → Event → Reply → Bool
reaches_at stream_of front now began (Call request) (Named id) = reaches now (deadline_of began request.timeout_nano) && is_none_of (outcomes (acts stream_of id front))
reaches_at stream_of front now began (Open request up down) (Named id) = reaches now (deadline_of began request.timeout_nano) && is_none_of (answers (acts stream_of id front))
reaches_at stream_of front now began event reply = false

-- Returns true if the moment `now` reaches such a deadline of one of these entries. `moment` is the last moment before the first entry.
abbrev pub reaches_one : (stream_of : ℕ → ℕ) → (front : List Entry) → (now moment : ℕ) → List Entry → Bool
reaches_one stream_of front now moment [] = false
reaches_one stream_of front now moment (e ∷ es) = reaches_at stream_of front now moment e.event e.reply || reaches_one stream_of front now (moment_after moment e.event e.reply) es

-- Holds if the event isn't a tick that was done, or if its moment reaches no deadline of the entries before it.
abbrev pub IsInTime : (stream_of : ℕ → ℕ) → (front : List Entry) → Event → Reply → Type 0
IsInTime stream_of front (Tick now) Done = reaches_one stream_of front now 0 front ≡ false
IsInTime stream_of front event reply = Unit {0}

-- ---- clean

-- Returns true if the event drops nothing, doesn't drain the server, cuts no pipe and fails no side.
abbrev pub is_clean_event : Event → Bool
is_clean_event (DropCall id) = false
is_clean_event (DropReceiver at) = false
is_clean_event (DropSender id) = false
is_clean_event Drain = false
is_clean_event (Cut to keep) = false
is_clean_event (Fail of) = false
is_clean_event event = true

-- Returns true if a receiver's result is an item, an end, or nothing yet. The error `RemoteClosed` always counts as an end here, so
-- that it excludes no run from the clean ones.
abbrev pub is_clean_word : Option Word → Bool
is_clean_word None = true
is_clean_word (Some (Ok bytes)) = true
is_clean_word (Some (Err Eof)) = true
is_clean_word (Some (Err RemoteClosed)) = true
is_clean_word (Some (Err error)) = false

-- Returns true if the reply is no refusal and no lack of memory, and gives a receiver no error but an end. `NoStep` is no refusal.
abbrev pub is_clean_reply : Reply → Bool
is_clean_reply (Refused error) = false
is_clean_reply NoMemory = false
is_clean_reply (Item word) = is_clean_word word
is_clean_reply reply = true

-- Returns true if an answer may be an error. Under sync rules it may not, since an error fails the connection.
abbrev pub may_be_error : Rules → Bool
may_be_error Sync = false
may_be_error Async = true

-- Returns true if this isn't an error that was accepted as an answer or as an end, or if an answer may be an error.
abbrev pub is_clean_answer : Rules → Event → Reply → Bool
is_clean_answer rules (Answer job (Err error)) Done = may_be_error rules
is_clean_answer rules (EndStream job (Err error)) Done = may_be_error rules
is_clean_answer rules event reply = true

-- Holds if the event with its reply is clean after the entries `front`.
pub record IsCleanAt (rules : Rules) (stream_of : ℕ → ℕ) (front : List Entry) (event : Event) (reply : Reply) : Type 0 where
  pub event_is : is_clean_event event ≡ true
  pub reply_is : is_clean_reply reply ≡ true
  pub answer_is : is_clean_answer rules event reply ≡ true
  pub in_time : IsInTime stream_of front event reply

-- Holds if each of these entries is clean after the entries `front` and the entries before it.
abbrev pub AreClean : Rules → (ℕ → ℕ) → List Entry → List Entry → Type 0
AreClean rules stream_of front [] = Unit {0}
AreClean rules stream_of front (e ∷ es) = IsCleanAt rules stream_of front e.event e.reply × AreClean rules stream_of (front ++ e ∷ []) es

-- A CLEAN RUN. Holds if each entry is clean under the server's rules. `stream_of job` is the stream id of a job.
abbrev pub IsClean : Rules → (ℕ → ℕ) → List Entry → Type 0
IsClean rules stream_of trace = AreClean rules stream_of [] trace

-- ---- quiet

-- Returns the other side.
abbrev pub other : Side → Side
other side.Client = side.Server
other side.Server = side.Client

-- Holds if the last four events are a carry from each side, in either order, and then a delivery to each side, in either order. Each
-- of them allowed at least one byte, and moved none.
pub record IsDrained (trace : List Entry) : Type 0 where
  pub front : List Entry
  pub from : Side
  pub to : Side
  pub a : ℕ
  pub b : ℕ
  pub c : ℕ
  pub d : ℕ
  pub some : (0 < a) × (0 < b) × (0 < c) × (0 < d)
  pub ends : trace ≡ front ++ record { event = Carry from a; reply = Count 0 } ∷ record { event = Carry (other from) b; reply = Count 0 }
      ∷ record { event = Deliver to c; reply = Count 0 } ∷ record { event = Deliver (other to) d; reply = Count 0 } ∷ []

-- Returns true if an answer, a response or an end of this job was accepted.
abbrev pub is_answer_of : ℕ → Event → Reply → Bool
is_answer_of job (Answer j result) Done = nat_eq j job
is_answer_of job (Respond j response) Done = nat_eq j job
is_answer_of job (EndStream j result) Done = nat_eq j job
is_answer_of job event reply = false

-- Holds if the job that was handed out at this event was answered in this trace, or if none was handed out.
abbrev pub IsAnsweredIn : List Entry → Event → Reply → Type 0
IsAnsweredIn trace Take (Handed (Some job)) = list_any (λ (e : Entry). is_answer_of job.id e.event e.reply) trace ≡ true
IsAnsweredIn trace event reply = Unit {0}

-- Returns true if this side took bytes.
abbrev pub takes_bytes : Side → Event → Reply → Bool
takes_bytes side.Client (Deliver side.Client n) (Count k) = nat_lt 0 k
takes_bytes side.Server (Deliver side.Server n) (Count k) = nat_lt 0 k
takes_bytes at event reply = false

-- Returns true if an entry that satisfies `is_it` comes after the last bytes that a side took, or anywhere if the side took none. `b`
-- is the result for the entries before these.
abbrev pub since : Side → (Event → Reply → Bool) → Bool → List Entry → Bool
since at is_it b [] = b
since at is_it b (e ∷ es) = since at is_it (if takes_bytes at e.event e.reply then false else (is_it e.event e.reply || b)) es

-- Returns true if the server was asked for a job and none waited.
abbrev pub takes_nothing : Event → Reply → Bool
takes_nothing Take (Handed None) = true
takes_nothing event reply = false

-- A QUIET RUN. Holds if nothing moves at the end, and each job that was handed out was answered. If the server took bytes, then it was
-- asked for a job after the last of them, and none waited.
pub record IsQuiet (trace : List Entry) : Type 0 where
  pub drained : IsDrained trace
  pub answered : AllByRecursion (λ (e : Entry). IsAnsweredIn trace e.event e.reply) trace
  pub taken : since side.Server takes_nothing true trace ≡ true

-- ---- asked out

-- Returns true if the outcome of this call was asked for.
abbrev pub asks_outcome : ℕ → Event → Reply → Bool
asks_outcome k (Outcome id) reply = nat_eq id k
asks_outcome k event reply = false

-- Returns true if the server's receiver of this stream was asked for an item and had nothing yet.
abbrev pub finds_nothing_up : (ℕ → ℕ) → ℕ → Event → Reply → Bool
finds_nothing_up stream_of k (Recv (end.Server job)) (Item None) = nat_eq (stream_of job) k
finds_nothing_up stream_of k event reply = false

-- Returns true if the client's receiver of this stream was asked for an item and had nothing yet.
abbrev pub finds_nothing_down : ℕ → Event → Reply → Bool
finds_nothing_down k (Recv (end.Client id)) (Item None) = nat_eq id k
finds_nothing_down k event reply = false

-- Holds if the outcome of this call was given, or was asked for after the last bytes that the client took.
abbrev pub IsAskedFor : (ℕ → ℕ) → ℕ → List Entry → Type 0
IsAskedFor stream_of k trace = (outcomes (acts stream_of k trace) ≢ []) ⊎ (since side.Client (asks_outcome k) false trace ≡ true)

-- Holds if the server's receiver was given an end, or was asked after the last bytes that the server took and had nothing yet.
abbrev pub IsAskedOutUp : (ℕ → ℕ) → ℕ → List Entry → Type 0
IsAskedOutUp stream_of k trace = (has_end Fresh (heard_up (flows stream_of k trace)) ≡ true) ⊎ (since side.Server (finds_nothing_up stream_of k) false trace ≡ true)

-- Holds if the client's receiver was given an end, or was asked after the last bytes that the client took and had nothing yet.
abbrev pub IsAskedOutDown : (ℕ → ℕ) → ℕ → List Entry → Type 0
IsAskedOutDown stream_of k trace = (has_end Fresh (heard_down (flows stream_of k trace)) ≡ true) ⊎ (since side.Client (finds_nothing_down k) false trace ≡ true)

-- ---- whole

-- Holds if a call with this request is whole. Exactly four acts happened, in this order: the call; one run of exactly its request; one
-- answer; the outcome, which is the one that this answer gives.
abbrev pub IsWholeCall : Rules → ℕ → Request → List Act → Type 0
IsWholeCall rules limit request xs = (job : ℕ) × (answer : Result Response Error) × (outcome : Result Response Error)
    × (xs ≡ Called request ∷ Ran job false request ∷ Answered false (some_of answer) ∷ Gave outcome ∷ []) × Tells rules limit answer outcome

-- THE CALLS OF A CLEAN QUIET RUN ARE WHOLE. Holds if, in such a run, each call of a method of the server that was asked for is whole.
abbrev pub AreWholeCalls : Rules → Services → ℕ → (ℕ → ℕ) → List Entry → Type 0
AreWholeCalls rules services limit stream_of trace = IsClean rules stream_of trace → IsQuiet trace
    → (k : ℕ) (request : Request) → calls (acts stream_of k trace) ≡ request ∷ [] → has_method services request.service request.method ≡ true → IsAskedFor stream_of k trace
    → IsWholeCall rules limit request (acts stream_of k trace)

-- Holds if a stream is whole: a receiver that is asked out was given all items that were put in.
pub record IsWholeStream (rules : Rules) (limit : ℕ) (stream_of : ℕ → ℕ) (k : ℕ) (trace : List Entry) : Type 0 where
  pub up : IsAskedOutUp stream_of k trace → got (heard_up (flows stream_of k trace)) ≡ items (put_up (flows stream_of k trace))
  pub down : IsAskedOutDown stream_of k trace → got (heard_down (flows stream_of k trace)) ≡ items (put_down rules limit (flows stream_of k trace))

-- THE STREAMS OF A CLEAN QUIET RUN ARE WHOLE. Holds if, in such a run, each stream is whole.
abbrev pub AreWholeStreams : Rules → ℕ → (ℕ → ℕ) → List Entry → Type 0
AreWholeStreams rules limit stream_of trace = IsClean rules stream_of trace → IsQuiet trace → (k : ℕ) → IsWholeStream rules limit stream_of k trace

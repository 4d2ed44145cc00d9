-- The acts of one call or stream, as a trace lists them.
-- Source: this project's.
use Rattle.std.specs.Prelude.{◌≡◌, ℕ, List, [], ◌∷◌, nat_eq, if◌then◌else◌, Bool, false, true, Option, Some, Result, Ok, Err}
use Rattle.std.specs.List.{AllByRecursion, flat_map}
use Rattle.ttrpc_world_trace.specs.Types.{Error, Request, Response, Event, Call, Open, Outcome, Take, Answer, Respond, EndStream, Reply, Named, Given, Handed, Done, Entry}

-- an act of a call or a stream
pub data Act : Type 0 where
  -- a call was accepted
  Called : (request : Request) → Act
  -- a stream was opened; `up` is true if the client sends items, and `down` if it receives them
  Opened : (request : Request) → (up down : Bool) → Act
  -- one of its jobs was handed out; `stream` is true for a stream's job, and false for a job with one response
  Ran : (job : ℕ) → (stream : Bool) → (request : Request) → Act
  -- one of its jobs was answered or ended, or a response was queued for the job; `stream` is true for a stream's end
  Answered : (stream : Bool) → (result : Result (Option Response) Error) → Act
  -- the call's outcome was given
  Gave : (outcome : Result Response Error) → Act

-- Returns a list of this value if the condition is true, and the empty list otherwise.
abbrev pub only_if : {X : Type 0} → Bool → X → List X
only_if b x = if b then x ∷ [] else []

-- Returns a handler's result for a job with one response, in the form of a stream's end.
abbrev pub some_of : Result Response Error → Result (Option Response) Error
some_of (Ok response) = Ok (Some response)
some_of (Err error) = Err error

-- Returns the act of an event with its reply, if it is one of the call or stream of id k. `stream_of job` is the stream id of a job.
abbrev pub act_of : (stream_of : ℕ → ℕ) → ℕ → Event → Reply → List Act
act_of stream_of k (Call request) (Named id) = only_if (nat_eq id k) (Called request)
act_of stream_of k (Open request up down) (Named id) = only_if (nat_eq id k) (Opened request up down)
act_of stream_of k (Outcome id) (Given (Some outcome)) = only_if (nat_eq id k) (Gave outcome)
act_of stream_of k Take (Handed (Some job)) = only_if (nat_eq job.header.stream_id k) (Ran job.id job.stream job.request)
act_of stream_of k (Answer job result) Done = only_if (nat_eq (stream_of job) k) (Answered false (some_of result))
act_of stream_of k (Respond job response) Done = only_if (nat_eq (stream_of job) k) (Answered false (Ok (Some response)))
act_of stream_of k (EndStream job result) Done = only_if (nat_eq (stream_of job) k) (Answered true result)
act_of stream_of k event reply = []

-- THE STORY OF ONE ID. Returns all acts of the id k in a trace, in order.
abbrev pub acts : (stream_of : ℕ → ℕ) → ℕ → List Entry → List Act
acts stream_of k trace = flat_map (λ (e : Entry). act_of stream_of k e.event e.reply) trace

-- Holds if `stream_of` is right for the job that was handed out at this event, or if none was.
abbrev pub IsRightAt : (ℕ → ℕ) → Event → Reply → Type 0
IsRightAt stream_of Take (Handed (Some job)) = stream_of job.id ≡ job.header.stream_id
IsRightAt stream_of event reply = Unit {0}

-- Holds if `stream_of` is right for each job that was handed out in a trace.
abbrev pub IsStreamOf : (ℕ → ℕ) → List Entry → Type 0
IsStreamOf stream_of trace = AllByRecursion (λ (e : Entry). IsRightAt stream_of e.event e.reply) trace

-- Holds if no two numbers have the same value. For `stream_of` this says that no two jobs have the same stream id.
abbrev pub IsOneToOne : (ℕ → ℕ) → Type 0
IsOneToOne f = (i j : ℕ) → f i ≡ f j → i ≡ j

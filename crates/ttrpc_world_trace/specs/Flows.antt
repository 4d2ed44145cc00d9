-- The items that were put into a call or a stream each way, and the results of its receivers. The items that a receiver was given are
-- a beginning of the items that were put in, in order, and an end comes after all of them.
-- Source: this project's; what closes a stream, and what the flags of its request mean: PROTOCOL.md of ttrpc, "Streaming".
use Rattle.std.specs.Prelude.{◌≡◌, ℕ, List, [], ◌∷◌, ◌++◌, nat_eq, ◌||◌, Bool, true, false, Option, Some, Result, Ok, Err}
use Rattle.std.specs.List.{flat_map}
use Rattle.ttrpc_proto.specs.declared.error.Error.TheVariants.{Eof, RemoteClosed}
use Rattle.ttrpc_connection.specs.declared.thing.MailboxEntry.{MailboxEntry}
use Rattle.ttrpc_connection.specs.declared.thing.MailboxEntry.TheVariants as thing
use Rattle.ttrpc_server.specs.Protocol.{IsSentFor, fitted}
use Rattle.ttrpc_server.specs.declared.rules.Rules.{Rules}
use Rattle.ttrpc_client.specs.Protocol.{by_status}
use Rattle.ttrpc_world_trace.specs.declared.events.StreamEnd.TheVariants as end
use Rattle.ttrpc_world_trace.specs.Types.{Error, Request, Response, Event, Answer, Call, Close, EndStream, Open, Recv, Respond, Send, Reply, Done, Item, Named, Ticket, Entry}
use Rattle.ttrpc_world_trace.specs.Trace.{only_if, some_of}

-- ---- what happened to the items of one id

-- a result of a receiver: an item or an error
abbrev pub Word : Type 0
Word = Result (List ℕ) Error

-- an event of the items of a call or a stream
pub data Flow : Type 0 where
  -- a call was accepted
  Asked : (request : Request) → Flow
  -- a stream was opened; `up` is true if the client sends items
  Began : (request : Request) → (up : Bool) → Flow
  -- the client sent an item
  SentUp : (bytes : List ℕ) → Flow
  -- the client closed its half
  ClosedUp : Flow
  -- the server sent an item on the stream of its job
  SentDown : (bytes : List ℕ) → Flow
  -- its job was answered or ended, or a response was queued for it
  EndedDown : (result : Result (Option Response) Error) → Flow
  -- the server's receiver had this result
  HeardUp : (word : Word) → Flow
  -- the client's receiver had this result
  HeardDown : (word : Word) → Flow

-- Returns the `Flow` of an event with its reply, if it concerns the items of id k. `stream_of job` is the stream id of a job.
abbrev pub flow_of : (stream_of : ℕ → ℕ) → ℕ → Event → Reply → List Flow
flow_of stream_of k (Call request) (Named id) = only_if (nat_eq id k) (Asked request)
flow_of stream_of k (Open request up down) (Named id) = only_if (nat_eq id k) (Began request up)
flow_of stream_of k (Send (end.Client id) bytes) (Ticket ticket) = only_if (nat_eq id k) (SentUp bytes)
flow_of stream_of k (Close id) (Ticket ticket) = only_if (nat_eq id k) ClosedUp
flow_of stream_of k (Send (end.Server job) bytes) (Ticket ticket) = only_if (nat_eq (stream_of job) k) (SentDown bytes)
flow_of stream_of k (Answer job result) Done = only_if (nat_eq (stream_of job) k) (EndedDown (some_of result))
flow_of stream_of k (Respond job response) Done = only_if (nat_eq (stream_of job) k) (EndedDown (Ok (Some response)))
flow_of stream_of k (EndStream job result) Done = only_if (nat_eq (stream_of job) k) (EndedDown result)
flow_of stream_of k (Recv (end.Server job)) (Item (Some word)) = only_if (nat_eq (stream_of job) k) (HeardUp word)
flow_of stream_of k (Recv (end.Client id)) (Item (Some word)) = only_if (nat_eq id k) (HeardDown word)
flow_of stream_of k event reply = []

-- THE ITEMS OF ONE ID. Returns each `Flow` of id k in a trace, in order.
abbrev pub flows : (stream_of : ℕ → ℕ) → ℕ → List Entry → List Flow
flows stream_of k trace = flat_map (λ (e : Entry). flow_of stream_of k e.event e.reply) trace

-- ---- the outcome of an answer

-- Returns the outcome that a client makes of this response as the server queues it. The server replaces a response that is too long.
abbrev pub told_by : Rules → ℕ → Response → Result Response Error
told_by rules limit r = by_status (fitted rules limit r).status (fitted rules limit r)

-- Holds if a handler's result may give this outcome, under the server's rules and the limit of the data that it may seal. Under sync
-- rules an error gives no outcome.
abbrev pub Tells : Rules → ℕ → Result Response Error → Result Response Error → Type 0
Tells rules limit result outcome = (answer : Response) × IsSentFor rules result answer × (outcome ≡ told_by rules limit answer)

-- ---- what was put in

-- Returns the thing that a response puts in. For the outcome `Ok` this is its payload as the last item, and for an error only the
-- end.
abbrev pub last_thing : Result Response Error → Response → MailboxEntry
last_thing (Ok told) r = thing.Last r.payload
last_thing (Err error) r = thing.End

-- Returns the thing that an answer or an end puts in.
abbrev pub ending_thing : Rules → ℕ → Result (Option Response) Error → MailboxEntry
ending_thing rules limit (Ok (Some r)) = last_thing (told_by rules limit r) r
ending_thing rules limit result = thing.End

-- Returns all that was put in upwards: the request's payload, unless it opens a stream on which the client sends items, and then what
-- the client sent. The request closes a stream on which the client sends no items. The request of a call closes nothing.
abbrev pub put_up : List Flow → List MailboxEntry
put_up [] = []
put_up (Asked request ∷ xs) = thing.Item request.payload ∷ put_up xs
put_up (Began request true ∷ xs) = put_up xs
put_up (Began request false ∷ xs) = thing.Last request.payload ∷ put_up xs
put_up (SentUp bytes ∷ xs) = thing.Item bytes ∷ put_up xs
put_up (ClosedUp ∷ xs) = thing.End ∷ put_up xs
put_up (x ∷ xs) = put_up xs

-- Returns all that was put in downwards: the items that the job sent, and then the payload of its answer, if the outcome is `Ok`. The
-- answer or the end closes.
abbrev pub put_down : Rules → ℕ → List Flow → List MailboxEntry
put_down rules limit [] = []
put_down rules limit (SentDown bytes ∷ xs) = thing.Item bytes ∷ put_down rules limit xs
put_down rules limit (EndedDown result ∷ xs) = ending_thing rules limit result ∷ put_down rules limit xs
put_down rules limit (x ∷ xs) = put_down rules limit xs

-- Returns the items among the things that were put in.
abbrev pub items : List MailboxEntry → List (List ℕ)
items [] = []
items (thing.Item bytes ∷ xs) = bytes ∷ items xs
items (thing.Last bytes ∷ xs) = bytes ∷ items xs
items (x ∷ xs) = items xs

-- Returns true if a last item or an end was put in.
abbrev pub closed : List MailboxEntry → Bool
closed [] = false
closed (thing.Last bytes ∷ xs) = true
closed (thing.End ∷ xs) = true
closed (x ∷ xs) = closed xs

-- ---- the results of a receiver

-- Returns the results of the server's receiver, in order.
abbrev pub heard_up : List Flow → List Word
heard_up [] = []
heard_up (HeardUp word ∷ xs) = word ∷ heard_up xs
heard_up (x ∷ xs) = heard_up xs

-- Returns the results of the client's receiver, in order.
abbrev pub heard_down : List Flow → List Word
heard_down [] = []
heard_down (HeardDown word ∷ xs) = word ∷ heard_down xs
heard_down (x ∷ xs) = heard_down xs

-- Returns the items that a receiver was given, in order.
abbrev pub got : List Word → List (List ℕ)
got [] = []
got (Ok bytes ∷ xs) = bytes ∷ got xs
got (Err error ∷ xs) = got xs

-- the last result of a receiver
pub data Mood : Type 0 where
  -- no result yet
  Fresh : Mood
  -- an item
  AfterItem : Mood
  -- an end: no more items come
  AtEnd : Mood
  -- an error that is no end
  AfterError : Mood

-- Returns the last result after the error `RemoteClosed`. This error is an end if it comes directly after an item or an end.
abbrev pub after_closed : Mood → Mood
after_closed Fresh = AfterError
after_closed AfterItem = AtEnd
after_closed AtEnd = AtEnd
after_closed AfterError = AfterError

-- Returns the last result after this one.
abbrev pub after : Mood → Word → Mood
after mood (Ok bytes) = AfterItem
after mood (Err Eof) = AtEnd
after mood (Err RemoteClosed) = after_closed mood
after mood (Err error) = AfterError

-- Returns true if the last result is an end.
abbrev pub is_end : Mood → Bool
is_end AtEnd = true
is_end mood = false

-- Returns true if an end is among these results. `mood` is the last result before them.
abbrev pub has_end : Mood → List Word → Bool
has_end mood [] = false
has_end mood (x ∷ xs) = is_end (after mood x) || has_end (after mood x) xs

-- ---- in order

-- THE ITEMS OF ONE RECEIVER, IN ORDER. Holds if the items that a receiver was given are a beginning of the items that were put in. If
-- the receiver was given an end, then a last item or an end was put in, and the receiver was given all items.
pub record IsInOrder (put : List MailboxEntry) (told : List Word) : Type 0 where
  pub rest : List (List ℕ)
  pub beginning : items put ≡ got told ++ rest
  pub whole : has_end Fresh told ≡ true → (rest ≡ []) × (closed put ≡ true)

-- Holds if the items are in order, both upwards and downwards.
pub record AreInOrder (rules : Rules) (limit : ℕ) (xs : List Flow) : Type 0 where
  pub up : IsInOrder (put_up xs) (heard_up xs)
  pub down : IsInOrder (put_down rules limit xs) (heard_down xs)

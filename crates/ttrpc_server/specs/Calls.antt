-- The calls of a server core besides those of its connection, the queue's happenings during them and at the rows of the table, and the jobs
-- that are handed out over lists of calls.
-- Source: this project's.
use Rattle.std.specs.Prelude.{◌≡◌, ◌⊎◌, ℕ, List, [], ◌∷◌, ◌++◌, map, option_to_list, Option, Some, None, Result, Ok, Err}
use Rattle.std.specs.List.{AllByRecursion, flat_map}
use Rattle.ttrpc_server.specs.Types.{Error, Response, Incoming, Queued, OutboundTransform, Connection, ActiveJob, Job}
use Rattle.ttrpc_proto.specs.Framing.Frames.{Fed}
use Rattle.ttrpc_proto.specs.Framing.Queue.{Happening, Placed}
use Rattle.ttrpc_connection.specs.Calls.{Call, Did, Others, Queues}
use Rattle.ttrpc_connection.specs.Frames.{header_of_frame}
use Rattle.ttrpc_server.specs.declared.server.ServerCore.{ServerCore}
use Rattle.ttrpc_server.specs.State.{IsTaken, Server, NoneWaits, job_at}
use Rattle.ttrpc_server.specs.Streaming.{EndsStream, IsCloseFrame, ReceivesOne, SendsItem, unheard}
use Rattle.ttrpc_connection.specs.Items.{IsDataFrame}
use Rattle.ttrpc_server.specs.Protocol.{Answers, Drops, drained, Finishes, Hands, IsResponseFrame, QueuesResponse, Passes, due_jobs}

-- A call, with its arguments and its result.
pub data Served : Type 0 where
  -- a job was asked for, with this result
  Took : (job : Option Job) → Served
  -- a job was answered by this response
  Answered : (id : ℕ) → (response : Response) → Served
  -- a job's handler failed
  Dropped : (id : ℕ) → Served
  -- a response was queued under a stream id
  Responded : (k : ℕ) → (response : Response) → Served
  -- a job was ended
  Finished : (id : ℕ) → Served
  -- the core stopped taking input
  Drained : Served
  -- a moment was reported
  Ticked : (now : ℕ) → Served
  -- the next expired job was asked for, with this result
  AskedExpired : (id : Option ℕ) → Served
  -- an item was sent on the stream of a job, with this ticket
  SentItem : (id : ℕ) → (item : List ℕ) → (ticket : ℕ) → Served
  -- the next item of the stream of a job was asked for, with this result
  Received : (id : ℕ) → (given : Option (Result (List ℕ) Error)) → Served
  -- the receiver of the stream of a job was dropped
  ReceiverDropped : (id : ℕ) → Served
  -- the stream of a job was ended with this result of its handler
  Ended : (id : ℕ) → (end : Result (Option Response) Error) → Served
  -- the next stream's job for which something came was asked for, with this result
  AskedHeard : (id : Option ℕ) → Served

-- Returns the core of this state and this connection.
abbrev pub core : {O I : Type 0} → Server → Connection O I → ServerCore O I
core state connection = record { state = state; connection = connection }

-- Holds if the first of the expired jobs was reported and removed, if there was one.
pub record TellsExpired {O I : Type 0} (old : ServerCore O I) (id : Option ℕ) (new : ServerCore O I) : Type 0 where
  pub first : old.state.expired ≡ option_to_list id ++ new.state.expired
  pub same : new ≡ record old { state = record old.state { expired = new.state.expired } }

-- Holds if the first of the streams' jobs for which something came was reported and removed, if there was one.
pub record TellsHeard {O I : Type 0} (old : ServerCore O I) (id : Option ℕ) (new : ServerCore O I) : Type 0 where
  pub first : old.state.heard ≡ option_to_list id ++ new.state.heard
  pub same : new ≡ record old { state = record old.state { heard = new.state.heard } }

-- Holds if the call has this effect on the core.
abbrev pub Performs : {O I : Type 0} → OutboundTransform O → Served → ServerCore O I → ServerCore O I → Type 0
Performs out (Took (Some job)) old new = Hands old job new
Performs out (Took None) old new = (new ≡ old) × (old.connection.failure ≡ None → NoneWaits old.state.jobs.list)
Performs out (Answered id response) old new = Answers out old id response new
Performs out (Dropped id) old new = Drops old id new
Performs out (Responded k response) old new = QueuesResponse out old k response new
Performs out (Finished id) old new = Finishes old id new
Performs out Drained old new = new ≡ drained old
Performs out (Ticked now) old new = Passes out old.state.rules old.connection.failure old now new
Performs out (AskedExpired id) old new = TellsExpired old id new
Performs out (SentItem id item ticket) old new = SendsItem out old id item ticket new
Performs out (Received id given) old new = ReceivesOne old id given new
Performs out (ReceiverDropped id) old new = new ≡ unheard old id
Performs out (Ended id end) old new = EndsStream out old id end new
Performs out (AskedHeard id) old new = TellsHeard old id new

-- ---- the queue's happenings during a call

-- Holds if one response is queued, under this stream id.
abbrev pub PlacesResponse : {O I : Type 0} → ℕ → ServerCore O I → ServerCore O I → List Happening → Type 0
PlacesResponse k old new happenings =
    (f : Queued) × IsResponseFrame k f × Queues old.connection (f ∷ []) new.connection × (happenings ≡ Placed f ∷ [])

-- Holds if these frames were queued for those stream ids, in order: for each id at most one frame, which is a response under it.
abbrev pub AreAnswers : List ℕ → List Queued → Type 0
AreAnswers [] queued = queued ≡ []
AreAnswers (k ∷ ks) queued =
    AreAnswers ks queued
    ⊎ ((answer : Queued) × (others : List Queued) × IsResponseFrame k answer × (queued ≡ answer ∷ others) × AreAnswers ks others)

-- Returns the stream ids of the jobs that are due at a moment.
abbrev pub streams_due : ℕ → Server → List ℕ
streams_due now s = map (λ j. j.header.stream_id) (due_jobs now s.jobs.list)

-- Holds if one frame of this kind is queued.
abbrev pub PlacesOne : {O I : Type 0} → (Queued → Type 0) → ServerCore O I → ServerCore O I → List Happening → Type 0
PlacesOne is_such old new happenings = (f : Queued) × is_such f × Queues old.connection (f ∷ []) new.connection × (happenings ≡ Placed f ∷ [])

-- Holds if this frame may end a stream with this result of its handler: a frame that closes the stream, or a response.
abbrev pub IsEndFrame : Result (Option Response) Error → ℕ → Queued → Type 0
IsEndFrame (Ok None) k f = IsCloseFrame k f
IsEndFrame (Ok (Some r)) k f = IsResponseFrame k f
IsEndFrame (Err e) k f = IsResponseFrame k f

-- Holds if the queue goes through these happenings during a call.
abbrev pub Causes : {O I : Type 0} → Served → ServerCore O I → ServerCore O I → List Happening → Type 0
Causes (Answered id response) old new happenings =
    (job : ActiveJob) × IsTaken old.state.jobs.list id job × PlacesResponse job.header.stream_id old new happenings
Causes (Responded k response) old new happenings = PlacesResponse k old new happenings
Causes (Ticked now) old new happenings =
    (queued : List Queued) × AreAnswers (streams_due now old.state) queued × Queues old.connection queued new.connection × (happenings ≡ map Placed queued)
Causes (SentItem id item ticket) old new happenings =
    (job : ActiveJob) × (job_at old.state.jobs.list id ≡ Some job) × PlacesOne (IsDataFrame job.header.stream_id 0 ticket) old new happenings
Causes (Ended id end) old new happenings = (job : ActiveJob) × IsTaken old.state.jobs.list id job × PlacesOne (IsEndFrame end job.header.stream_id) old new happenings
Causes call old new happenings = happenings ≡ []

-- Holds if such a call has this effect, and the queue goes through these happenings.
abbrev pub served : {O I : Type 0} → OutboundTransform O → Others Served Server O I
served out a s old happenings t new = Performs out a (core s old) (core t new) × Causes a (core s old) (core t new) happenings

-- ---- the queue's happenings at the rows of the table

-- Returns the stream ids of frames.
abbrev pub streams_of : List Incoming → List ℕ
streams_of frames = map (λ f. (header_of_frame f).stream_id) frames

-- Holds if these frames were queued while a piece was fed, for the frames that were whole with its first bytes.
pub record AnswersPiece {O I : Type 0} (old : Connection O I) (piece : List ℕ) (queued : List Queued) (new : Connection O I) : Type 0 where
  pub taken : List ℕ
  pub rest : List ℕ
  pub piece_is : piece ≡ taken ++ rest
  pub frames : List Incoming
  pub fed : Fed old.decoder taken frames new.decoder
  pub answers : AreAnswers (streams_of frames) queued

-- ---- the jobs that are handed out

-- Returns the id of the job that a call handed out, if it handed one out.
abbrev pub given_by : Call Served → List ℕ
given_by (Did (Took (Some job))) = job.id ∷ []
given_by call = []

-- Returns the ids of the jobs that were handed out, in order.
abbrev pub ids_given : List (Call Served) → List ℕ
ids_given calls = flat_map given_by calls

-- Holds if no job of this id waits.
abbrev pub WaitsNot : ℕ → List ActiveJob → Type 0
WaitsNot id jobs = AllByRecursion (λ (j : ActiveJob). j.id ≡ id → j.request ≡ None) jobs

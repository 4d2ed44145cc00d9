-- The protocol of a server, from top to bottom: the row of a frame, the effect of a row, the effect of each call, jobs that expire, and the
-- reasons for refusals. The cases of frames and the rows of the cases are in `Table.antt`. PROTOCOL.md defines the kinds of frames, and
-- that a request is answered by one response under its stream id. The document leaves codes, texts and the ignored frames open, which are
-- as in the Rust crate. Jobs and the order of refusals are this project's.
-- Source: PROTOCOL.md of ttrpc, "Request" and "Response"; the Rust crate; this project's.
use Rattle.std.specs.Prelude.{◌≡◌, ◌⊎◌, ℕ, ◌<◌, ◌≤◌, ◌+◌, ◌-◌, ◌^◌, List, [], ◌∷◌, ◌++◌, length, codes, min, Option, None, Some, Result, Ok, Err, Bool, true, nat_lt, if◌then◌else◌, ◌≢◌, filter, false, nat_le}
use Rattle.std.specs.Fmt.{decimal}
use Rattle.std.specs.Option.{option_map_or}
use Rattle.ttrpc_server.specs.Types.{Code, UNKNOWN, INVALID_ARGUMENT, DEADLINE_EXCEEDED, MessageHeader, MESSAGE_LENGTH_MAX, MESSAGE_TYPE_RESPONSE, Response, Error, Others, NoMemory, NoRoom, Queued, OutboundTransform, Outbox, Arrived, Failure, JobIdsUsedUp, HandlerError, NoMemoryLeft, ActiveJob, Case, Job, Rules, Sync, Async}
use Rattle.ttrpc_wire.specs.Field.{fields_bytes}
use Rattle.ttrpc_proto.specs.ErrorText.{IsTextOf}
use Rattle.ttrpc_proto.specs.Messages.{IsResponse, response_fields}
use Rattle.ttrpc_proto.specs.Framing.Header.Oversize.{oversize_text}
use Rattle.ttrpc_secure.specs.declared.transform.InboundTransform.{Ghosts as InboundTransform}
use Rattle.ttrpc_secure.specs.Hooks.Facts.{Facts}
use Rattle.ttrpc_secure.specs.Context.Texts.{advice_text, unsafe_payload_text, unsealed_text}
use Rattle.ttrpc_proto.specs.declared.framing.header.TheConstants.{MESSAGE_HEADER_LENGTH}
use Rattle.ttrpc_proto.specs.Framing.Queue.{free}
use Rattle.ttrpc_secure.specs.Sends.{associated}
use Rattle.ttrpc_connection.specs.Failure.{IsTold}
use Rattle.ttrpc_connection.specs.Feeds.{IsFailed, Ways, new_connection}
use Rattle.ttrpc_connection.specs.Frames.{Sent, SendsAll, safe_limit}
use Rattle.ttrpc_server.specs.declared.server.ServerCore.{ServerCore}
use Rattle.ttrpc_server.specs.State.{EndsOne, HandsOne, IsTaken, IsNoUnary, is_stream, Server, Services, jobs_at, new_server, put_in, stream_body, takes_on, unary_body, with_made, with_newest, without_payload, with_list, IsJob, deadline_in, waits}
use Rattle.ttrpc_server.specs.Table.{Row, Ignore, MakeJob, MakeStream, PutIn, makes_job, SendCode, SendResponse, case_of, case_row, id_state_of, newest_after, status_response}

-- ---- the row of a frame

-- Returns the case of a frame in the state of a core.
abbrev pub case_in : Server → Arrived → Case
case_in s a = case_of s.rules a.header a.opening s.jobs.newest (id_state_of (jobs_at s.jobs.list a.header.stream_id))

-- Returns the row of a frame in the state of a core.
abbrev pub row_of : Server → Arrived → Row
row_of s a = case_row s.rules s.services a.header (case_in s a)

-- Returns the core that has seen a frame. Under async rules a request that is read is the newest, whatever its row.
abbrev pub seen_by : Server → Arrived → Server
seen_by s a = with_newest s (newest_after s.rules a.header.stream_id (case_in s a) s.jobs.newest)

-- ---- how a response is sent: fitted to the limit, sealed, in a frame of its own
-- Source: PROTOCOL.md of ttrpc, "Response"; limit and texts: the Rust crate.

-- Holds if the response is a status of this code, with any message.
abbrev pub IsStatusResponse : Code → Response → Type 0
IsStatusResponse code response = (message : List ℕ) × (response ≡ status_response code message)

-- Returns the written form of a response.
abbrev pub response_bytes : Response → List ℕ
response_bytes r = fields_bytes (response_fields r)

-- Returns the length of a response, at most the greatest number of 32 bits.
abbrev pub response_size : Response → ℕ
response_size r = min (length (response_bytes r)) (2 ^ 32 - 1)

-- Returns the text of the answer in place of a response of this length, which may become longer than a message may be.
abbrev pub limit_text : ℕ → ℕ → List ℕ
limit_text length limit = codes "response payload " ++ decimal length ++ codes " bytes exceeds safe limit " ++ decimal limit ++ codes " bytes (after transform overhead)"

-- Returns the response, or if it is above the limit, a status that states this.
abbrev pub fit_to_limit : ℕ → Response → Response
fit_to_limit limit r = if nat_lt limit (response_size r) then status_response INVALID_ARGUMENT (limit_text (response_size r) limit) else r

-- Returns the response. Under async rules a response that is longer than a message may be is replaced by a status that states this.
abbrev pub fit_to_message : Rules → Response → Response
fit_to_message Sync r = r
fit_to_message Async r = if nat_lt MESSAGE_LENGTH_MAX (response_size r) then status_response INVALID_ARGUMENT (oversize_text (response_size r)) else r

-- Returns the response, or its replacement if it is too long.
abbrev pub fitted : Rules → ℕ → Response → Response
fitted rules limit r = fit_to_limit limit (fit_to_message rules r)

-- Returns the advice that a server adds to the text about the safe limit.
abbrev pub advice : Rules → List ℕ
advice Sync = []
advice Async = advice_text

-- Returns how many bytes the frame of a response may need: its header, the response as it is fitted, and the bytes that sealing may add.
abbrev pub response_room : {O : Type 0} → Rules → OutboundTransform O → O → Response → ℕ
response_room rules out o r = MESSAGE_HEADER_LENGTH + response_size (fitted rules (safe_limit out o) r) + out.overhead o

-- Holds if this is the frame for a response under a stream id.
pub record IsResponseFrame (k : ℕ) (f : Queued) : Type 0 where
  pub stream_id : f.message.header.stream_id ≡ k
  pub type_ : f.message.header.type_ ≡ MESSAGE_TYPE_RESPONSE
  pub flags : f.message.header.flags ≡ 0
  pub ticket : f.ticket ≡ None
  pub is_unary_request : f.is_unary_request ≡ Bool.false
  pub owner : f.owner ≡ 0

-- Holds if the response, as it is fitted to the limit, was sent under a stream id.
pub record Responds (rules : Rules) (limit k : ℕ) (r : Response) (sent : List Sent) : Type 0 where
  pub frame : Queued
  pub is_frame : IsResponseFrame k frame
  pub fits : response_size (fitted rules limit r) ≤ limit
  pub is : sent ≡ record { frame = frame; plain = response_bytes (fitted rules limit r) } ∷ []

-- Holds if a response is above the limit even after it is fitted.
abbrev pub IsAboveLimit : Rules → ℕ → Response → Type 0
IsAboveLimit rules limit r = limit < response_size (fitted rules limit r)

-- Holds if the half may refuse a response for this reason.
pub record IsUnsealed {O : Type 0} (rules : Rules) (out : OutboundTransform O) (o : O) (k : ℕ) (r : Response) (why : List ℕ) : Type 0 where
  pub frame : Queued
  pub is_frame : IsResponseFrame k frame
  pub fits : response_size (fitted rules (safe_limit out o) r) ≤ safe_limit out o
  pub refuses : out.refuses o (response_bytes (fitted rules (safe_limit out o) r)) (associated frame.message.header) why

-- Holds if the core's own answer was sent, or was left out because it can't be sent.
abbrev pub SendsOwnAnswer : {O : Type 0} → Rules → OutboundTransform O → O → ℕ → Response → List Sent → Type 0
SendsOwnAnswer rules out o k r sent =
    Responds rules (safe_limit out o) k r sent
    ⊎ ((sent ≡ []) × (IsAboveLimit rules (safe_limit out o) r ⊎ ((why : List ℕ) × IsUnsealed rules out o k r why)))

-- ---- the effect of a row
-- Source: PROTOCOL.md of ttrpc, "Request" and "Response".

-- Holds if a row has this effect for a frame of this header that came at this moment.
abbrev pub Does : {O : Type 0} → OutboundTransform O → Row → Server → O → MessageHeader → ℕ → List Sent → Server → Type 0
Does out Ignore old o header now sent new = (new ≡ old) × (sent ≡ [])
Does out (SendResponse r) old o header now sent new = (new ≡ old) × SendsOwnAnswer old.rules out o header.stream_id r sent
Does out (SendCode code) old o header now sent new = (new ≡ old) × ((r : Response) × IsStatusResponse code r × SendsOwnAnswer old.rules out o header.stream_id r sent)
Does out (MakeJob request) old o header now sent new = (new ≡ with_made old header request (unary_body old.rules now request)) × (sent ≡ [])
Does out (MakeStream request) old o header now sent new =
    (new ≡ with_made old header (without_payload request) (stream_body old.services.bare_openings header.flags request.payload)) × (sent ≡ [])
Does out (PutIn payload) old o header now sent new = (new ≡ put_in old header payload) × (sent ≡ [])

-- Holds if the row of a frame has this effect, after the core has seen the frame.
abbrev pub serves : {O : Type 0} → OutboundTransform O → Server → O → Arrived → List Sent → Server → Type 0
serves out old o a sent new = Does out (row_of old a) (seen_by old a) o a.header a.now sent new

-- Holds if the row makes a job, and no id is left.
pub record IsUsedUp (row : Row) (old : Server) (failure : Failure) : Type 0 where
  pub is_row : makes_job row ≡ true
  pub last : old.jobs.last ≡ 2 ^ 64 - 1
  pub failure_is : failure ≡ JobIdsUsedUp

-- Holds if the row of a frame makes a job, and no id is left.
abbrev pub stops_serving : Server → Arrived → Failure → Type 0
stops_serving old a failure = IsUsedUp (row_of old a) old failure

-- Returns the facts that clauses know about a server core over these halves.
abbrev pub serving : {O I : Type 0} → OutboundTransform O → InboundTransform I → Ways Server O I
serving out in_ = record { out = out; in_ = in_; core = record { reacts = serves out; fails = stops_serving; takes = takes_on; ROOM = MESSAGE_HEADER_LENGTH + MESSAGE_LENGTH_MAX } }

-- ---- the effect of the calls: taking, answering and ending a job
-- Source: this project's.

-- Returns a core that has made no job, with a new connection.
abbrev pub new_core : {O I : Type 0} → Rules → Services → Facts → O → I → ServerCore O I
new_core rules services known outbound inbound = record { state = new_server rules services; connection = new_connection known outbound inbound }

-- Returns the core after it stopped taking input.
abbrev pub drained : {O I : Type 0} → ServerCore O I → ServerCore O I
drained core = record core { state = record core.state { draining = true } }

-- Returns the core with these jobs.
abbrev pub with_jobs : {O I : Type 0} → ServerCore O I → List ActiveJob → ServerCore O I
with_jobs c jobs = record c { state = with_list c.state jobs }

-- Holds if the connection hasn't failed, and the first of the jobs that wait was handed out.
pub record Hands {O I : Type 0} (old : ServerCore O I) (handed : Job) (new : ServerCore O I) : Type 0 where
  pub alive : old.connection.failure ≡ None
  pub hands : HandsOne old.state.jobs.list handed new.state.jobs.list
  pub same : new ≡ with_jobs old new.state.jobs.list

-- Holds if a response was queued under a stream id, and no job ended.
pub record QueuesResponse {O I : Type 0} (out : OutboundTransform O) (old : ServerCore O I) (k : ℕ) (response : Response) (new : ServerCore O I) : Type 0 where
  pub alive : old.connection.failure ≡ None
  pub sent : List Sent
  pub responds : Responds old.state.rules (safe_limit out old.connection.outbox.half) k response sent
  pub sends : SendsAll out old.connection.outbox sent new.connection.outbox
  pub same : new ≡ record old { connection = record old.connection { outbox = new.connection.outbox } }

-- Holds if a unary job that was taken ended, and nothing was queued.
pub record Finishes {O I : Type 0} (old : ServerCore O I) (id : ℕ) (new : ServerCore O I) : Type 0 where
  pub alive : old.connection.failure ≡ None
  pub job : ActiveJob
  pub ends : EndsOne old.state.jobs.list id job new.state.jobs.list
  pub unary : is_stream job.body ≡ false
  pub same : new ≡ with_jobs old new.state.jobs.list

-- Holds if a unary job that was taken was answered.
pub record Answers {O I : Type 0} (out : OutboundTransform O) (old : ServerCore O I) (id : ℕ) (response : Response) (new : ServerCore O I) : Type 0 where
  pub alive : old.connection.failure ≡ None
  pub job : ActiveJob
  pub ends : EndsOne old.state.jobs.list id job new.state.jobs.list
  pub unary : is_stream job.body ≡ false
  pub sent : List Sent
  pub responds : Responds old.state.rules (safe_limit out old.connection.outbox.half) job.header.stream_id response sent
  pub sends : SendsAll out old.connection.outbox sent new.connection.outbox
  pub same : new ≡ record (with_jobs old new.state.jobs.list) { connection = record old.connection { outbox = new.connection.outbox } }

-- Holds if a handler failed: its unary job is gone, and the connection has failed.
pub record Drops {O I : Type 0} (old : ServerCore O I) (id : ℕ) (new : ServerCore O I) : Type 0 where
  pub alive : old.connection.failure ≡ None
  pub job : ActiveJob
  pub ends : EndsOne old.state.jobs.list id job new.state.jobs.list
  pub unary : is_stream job.body ≡ false
  pub same : new ≡ record (with_jobs old new.state.jobs.list) { connection = record old.connection { failure = Some HandlerError } }

-- Holds if this is the response to a handler's error under async rules: a status of code UNKNOWN with the error's text.
abbrev pub IsErrorResponse : Error → Response → Type 0
IsErrorResponse error r = (text : List ℕ) × IsTextOf error text × (r ≡ status_response UNKNOWN text)

-- Holds if a handler's error was answered. Under sync rules its job is gone and the connection has failed. Under async rules the job was
-- answered by a valid response.
abbrev pub AnswersError : {O I : Type 0} → OutboundTransform O → Rules → ServerCore O I → ℕ → Error → ServerCore O I → Type 0
AnswersError out Sync old id error new = Drops old id new
AnswersError out Async old id error new = (r : Response) × IsErrorResponse error r × Answers out old id r new × IsResponse r

-- ---- jobs that expire
-- Source: this project's; code and text of the answer: the Rust crate.

-- Returns true if the deadline of a job is at or before a moment.
abbrev pub is_due : ℕ → ActiveJob → Bool
is_due now j = option_map_or (λ at. nat_le at now) (deadline_in j.body) false

-- Returns the jobs that are due, by rising id.
abbrev pub due_jobs : ℕ → List ActiveJob → List ActiveJob
due_jobs now jobs = filter (is_due now) jobs

-- Returns the answer to a job that expires.
abbrev pub timeout_response : Response
timeout_response = status_response DEADLINE_EXCEEDED (codes "timeout")

-- Returns how many bytes the frame of the answer to an expired job may need.
abbrev pub timeout_room : {O : Type 0} → OutboundTransform O → O → ℕ
timeout_room out o = MESSAGE_HEADER_LENGTH + response_size timeout_response + out.overhead o

-- Returns the expired jobs to be reported, after this job has expired. The job is added if it was taken.
abbrev pub told_with : ActiveJob → List ℕ → List ℕ
told_with job expired = if waits job then expired else expired ++ job.id ∷ []

-- Holds if one job expires, with room for its answer. The job is gone, whether it was taken or not, and is answered, unless the answer
-- can't be sent.
pub record ExpiresOne {O : Type 0} (out : OutboundTransform O) (old : Server) (from : Outbox O) (job : ActiveJob) (new : Server) (to : Outbox O) : Type 0 where
  pub at : IsJob old.jobs.list job.id job
  pub room : timeout_room out from.half ≤ free from.queue
  pub state : new ≡ record (with_list old (at.front ++ at.back)) { expired = told_with job old.expired }
  pub sent : List Sent
  pub answers : SendsOwnAnswer old.rules out from.half job.header.stream_id timeout_response sent
  pub sends : SendsAll out from sent to

-- Holds if these jobs expire, one after the other.
abbrev pub ExpireAll : {O : Type 0} → OutboundTransform O → Server → Outbox O → List ActiveJob → Server → Outbox O → Type 0
ExpireAll out old from [] new to = (new ≡ old) × (to ≡ from)
ExpireAll {O} out old from (j ∷ js) new to = (mid : Server) × (between : Outbox O) × ExpiresOne out old from j mid between × ExpireAll out mid between js new to

-- Holds if jobs that are due are left with this failure of the connection. If none is left, or there is no room for the answer to the
-- first, the connection hasn't failed. If memory for that answer was refused, the failure states this.
abbrev pub Leaves : {O : Type 0} → OutboundTransform O → List ActiveJob → Outbox O → Option Failure → Type 0
Leaves out [] outbox failure = failure ≡ None
Leaves out (j ∷ js) outbox failure =
    ((free outbox.queue < timeout_room out outbox.half) × (failure ≡ None))
    ⊎ ((timeout_room out outbox.half ≤ free outbox.queue) × (failure ≡ Some NoMemoryLeft))

-- Holds if a moment came. The jobs that are due expire, by rising id, while there is room for their answers. If memory for an answer is
-- refused the connection has failed, and the jobs before have expired.
pub record Ticks {O I : Type 0} (out : OutboundTransform O) (old : ServerCore O I) (now : ℕ) (new : ServerCore O I) : Type 0 where
  pub expired : List ActiveJob
  pub left : List ActiveJob
  pub due : due_jobs now old.state.jobs.list ≡ expired ++ left
  pub expire : ExpireAll out old.state old.connection.outbox expired new.state new.connection.outbox
  pub leaves : Leaves out left new.connection.outbox new.connection.failure
  pub same : new ≡ record old { state = new.state; connection = record old.connection { outbox = new.connection.outbox; failure = new.connection.failure } }

-- Holds if a moment came. Under sync rules and after a failure nothing changes.
abbrev pub Passes : {O I : Type 0} → OutboundTransform O → Rules → Option Failure → ServerCore O I → ℕ → ServerCore O I → Type 0
Passes out Sync failure old now new = new ≡ old
Passes out Async None old now new = Ticks out old now new
Passes out Async (Some failure) old now new = new ≡ old

-- Holds if this is the least moment at which a job expires.
pub record IsDeadline (jobs : List ActiveJob) (at : ℕ) : Type 0 where
  pub some : due_jobs at jobs ≢ []
  pub earlier : (now : ℕ) → now < at → due_jobs now jobs ≡ []

-- ---- why an answer, a response and a job's end are refused, in the order of the tests
-- Source: this project's; texts: the Rust crate.

-- Holds if the connection hasn't failed, and the server follows async rules, which have no such call.
pub record HasOtherRules {O I : Type 0} (old : ServerCore O I) (told : Error) : Type 0 where
  pub alive : old.connection.failure ≡ None
  pub rules : old.state.rules ≡ Async
  pub is_told : IsTold (Others (codes "wrong rules for this call")) told

-- Holds if the connection hasn't failed, and there is no unary job of this id that was taken.
pub record HasNoJob {O I : Type 0} (old : ServerCore O I) (id : ℕ) (told : Error) : Type 0 where
  pub alive : old.connection.failure ≡ None
  pub unknown : IsNoUnary old.state.rules old.state.jobs.list id
  pub is_told : IsTold (Others (codes "unknown job")) told

-- Holds if the response fits into a message, but the queue lacks room for it.
abbrev pub LacksRoom : {O : Type 0} → Rules → OutboundTransform O → Outbox O → Response → Type 0
LacksRoom rules out outbox r = (response_size (fitted rules (safe_limit out outbox.half) r) ≤ safe_limit out outbox.half) × (free outbox.queue < response_room rules out outbox.half r)

-- Holds if a response can't be sent, with this error: it is above the limit, there is no room for it, the half refuses it, or memory is
-- refused.
abbrev pub IsUnsent : {O : Type 0} → Rules → OutboundTransform O → Outbox O → ℕ → Response → Error → Type 0
IsUnsent rules out outbox k r told =
    (IsAboveLimit rules (safe_limit out outbox.half) r × IsTold (Others (unsafe_payload_text (response_size (fitted rules (safe_limit out outbox.half) r)) (safe_limit out outbox.half) (advice rules))) told)
    ⊎ (LacksRoom rules out outbox r × (told ≡ NoRoom))
    ⊎ ((response_room rules out outbox.half r ≤ free outbox.queue) × ((why : List ℕ) × IsUnsealed rules out outbox.half k r why × IsTold (Others (unsealed_text why)) told))
    ⊎ (told ≡ NoMemory)

-- Holds if this is the response to send for a handler's result: its response, or under async rules one to its error.
abbrev pub IsSentFor : Rules → Result Response Error → Response → Type 0
IsSentFor rules (Ok r) answer = answer ≡ r
IsSentFor Sync (Err e) answer = ⊥
IsSentFor Async (Err e) answer = IsErrorResponse e answer

-- Holds if the connection hasn't failed and the job was taken, but the response to it can't be sent. Under async rules the job is unary.
pub record HasUnsent {O I : Type 0} (out : OutboundTransform O) (old : ServerCore O I) (id : ℕ) (response : Result Response Error) (told : Error) : Type 0 where
  pub alive : old.connection.failure ≡ None
  pub job : ActiveJob
  pub at : IsTaken old.state.jobs.list id job
  pub unary : old.state.rules ≡ Async → is_stream job.body ≡ false
  pub answer : Response
  pub is_answer : IsSentFor old.state.rules response answer
  pub unsent : IsUnsent old.state.rules out old.connection.outbox job.header.stream_id answer told

-- Holds if an answer may be refused with this error: the connection has failed, there is no such job, or the response can't be sent.
abbrev pub RefusesAnswer : {O I : Type 0} → OutboundTransform O → ServerCore O I → ℕ → Result Response Error → Error → Type 0
RefusesAnswer out old id response told = IsFailed old.connection.failure told ⊎ HasNoJob old id told ⊎ HasUnsent out old id response told

-- Holds if the connection hasn't failed, but the response can't be sent.
pub record HasUnsentResponse {O I : Type 0} (out : OutboundTransform O) (old : ServerCore O I) (k : ℕ) (response : Response) (told : Error) : Type 0 where
  pub alive : old.connection.failure ≡ None
  pub unsent : IsUnsent old.state.rules out old.connection.outbox k response told

-- Holds if a response may be refused with this error: the connection has failed, async rules have no such call, or the response can't be
-- sent.
abbrev pub RefusesResponse : {O I : Type 0} → OutboundTransform O → ServerCore O I → ℕ → Response → Error → Type 0
RefusesResponse out old k response told = IsFailed old.connection.failure told ⊎ HasOtherRules old told ⊎ ((old.state.rules ≡ Sync) × HasUnsentResponse out old k response told)

-- Holds if a job's end may be refused with this error: the connection has failed, async rules have no such call, or there is no such job.
abbrev pub RefusesFinish : {O I : Type 0} → ServerCore O I → ℕ → Error → Type 0
RefusesFinish old id told = IsFailed old.connection.failure told ⊎ HasOtherRules old told ⊎ ((old.state.rules ≡ Sync) × HasNoJob old id told)

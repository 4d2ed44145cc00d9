-- The table of a server: the case of each frame, the action of a request that was read, and the row of each. PROTOCOL.md defines the kinds
-- of frames, and that a request is answered by one response under its stream id. The document leaves codes, texts and the ignored frames
-- open, which are as in the Rust crate. The crate has two servers, and each of the two rules follows one of them. This project adds that
-- async rules refuse an id with an active job, and an id that isn't above that of the newest request.
-- Source: PROTOCOL.md of ttrpc, "Message Frame", "Request" and "Response"; the Rust crate; this project's.
use Rattle.std.specs.Prelude.{◌≡◌, ◌⊎◌, ◌<◌, ℕ, ◌%◌, List, ◌++◌, length, codes, Option, None, Some, Bool, true, false, nat_eq, nat_lt, if◌then◌else◌, [], ◌∷◌}
use Rattle.std.specs.Fmt.{decimal}
use Rattle.ttrpc_server.specs.Types.{Code, UNKNOWN, INVALID_ARGUMENT, UNIMPLEMENTED, MessageHeader, MESSAGE_LENGTH_MAX, MESSAGE_TYPE_DATA, MESSAGE_TYPE_REQUEST, Request, Response, TooLong, Opened, Refused, ActiveJob, Rules, Sync, Async, StreamIdState, Absent, Busy, Full, Taking, Receiver, Open, Closed, Broken, Dropped, Body, Stream, Unary, Case, Skipped, Oversize, Unopened, EvenId, Inactive, InUse, NotAbove, Asks, PutsIn, RequestKind, Call, Chat, NoPath, NoService, NoMethod}
use Rattle.ttrpc_wire.specs.Fold.{read_from}
use Rattle.ttrpc_proto.specs.ErrorText.{status_of}
use Rattle.ttrpc_proto.specs.Messages.{empty_request, request_step}
use Rattle.ttrpc_proto.specs.Framing.Header.Oversize.{oversize_text}
use Rattle.ttrpc_secure.specs.Context.Texts.{unopened_text}
use Rattle.ttrpc_connection.specs.declared.arrived.InboundResult.{InboundResult}
use Rattle.ttrpc_server.specs.State.{Services, has_method, has_service, has_stream}

-- ---- the case of a frame, from top to bottom

-- Returns how a stream's job takes data, by whether its end came and by its receiver. Data after the end are ignored.
abbrev pub id_state_by : Bool → Receiver → StreamIdState
id_state_by true receiver = Full
id_state_by false Open = Taking
id_state_by false Closed = Busy
id_state_by false Broken = Busy
id_state_by false Dropped = Busy

-- Returns how a job takes a frame under its stream id.
abbrev pub id_state_in : Body → StreamIdState
id_state_in (Unary deadline) = Busy
id_state_in (Stream mail) = id_state_by mail.ended mail.receiver

-- Returns how these jobs, those of a stream id, take a frame under it.
abbrev pub id_state_of : List ActiveJob → StreamIdState
id_state_of [] = Absent
id_state_of (j ∷ js) = id_state_in j.body

-- Returns the case of a payload that was opened, under sync rules.
abbrev pub sync_case : MessageHeader → List ℕ → Case
sync_case h plain =
    if nat_lt MESSAGE_LENGTH_MAX (length plain) then Oversize (length plain) else
    if nat_eq h.type_ MESSAGE_TYPE_REQUEST then Asks plain else
    Skipped

-- Holds if an id is above that of the newest request, if there is one.
abbrev pub IsAbove : ℕ → Option ℕ → Type 0
IsAbove k None = Unit {0}
IsAbove k (Some newest) = newest < k

-- Holds if the newest request is as before, or is one of a greater id.
abbrev pub IsNoOlder : Option ℕ → Option ℕ → Type 0
IsNoOlder old new = (new ≡ old) ⊎ ((k : ℕ) × (new ≡ Some k) × IsAbove k old)

-- Returns the case of a request under async rules with an id that has no job. The request is read if its id is above that of the newest
-- request.
abbrev pub newer_case : ℕ → Option ℕ → List ℕ → Case
newer_case k None plain = Asks plain
newer_case k (Some newest) plain = if nat_lt newest k then Asks plain else NotAbove newest

-- Returns the case of a request under async rules, by the state of its id.
abbrev pub id_state_case : ℕ → Option ℕ → List ℕ → StreamIdState → Case
id_state_case k newest plain Absent = newer_case k newest plain
id_state_case k newest plain Busy = InUse
id_state_case k newest plain Taking = InUse
id_state_case k newest plain Full = InUse

-- Returns the case of data under async rules, by the state of their id.
abbrev pub data_case : List ℕ → StreamIdState → Case
data_case plain Absent = Inactive
data_case plain Busy = Inactive
data_case plain Taking = PutsIn plain
data_case plain Full = Skipped

-- Returns the case of a payload that was opened, under async rules.
abbrev pub async_case : MessageHeader → List ℕ → Option ℕ → StreamIdState → Case
async_case h plain newest id_state =
    if nat_lt MESSAGE_LENGTH_MAX (length plain) then Skipped else
    if nat_eq (h.stream_id % 2) 0 then EvenId else
    if nat_eq h.type_ MESSAGE_TYPE_REQUEST then id_state_case h.stream_id newest plain id_state else
    if nat_eq h.type_ MESSAGE_TYPE_DATA then data_case plain id_state else
    Skipped

-- Returns the case of a payload that was opened.
abbrev pub opened_case : Rules → MessageHeader → List ℕ → Option ℕ → StreamIdState → Case
opened_case Sync h plain newest id_state = sync_case h plain
opened_case Async h plain newest id_state = async_case h plain newest id_state

-- Returns the case of a payload that the inbound half refused.
abbrev pub unopened_case : Rules → List ℕ → Case
unopened_case Sync why = Unopened why
unopened_case Async why = Skipped

-- Returns the case of a frame, by the result of the inbound half, the newest request and the state of the frame's id.
abbrev pub case_of : Rules → MessageHeader → InboundResult → Option ℕ → StreamIdState → Case
case_of rules h TooLong newest id_state = Oversize h.length
case_of rules h (Refused why) newest id_state = unopened_case rules why
case_of rules h (Opened plain) newest id_state = opened_case rules h plain newest id_state

-- Returns the newest request after a frame of this id and case: under async rules a request that is read, or else the one before.
abbrev pub newest_after : Rules → ℕ → Case → Option ℕ → Option ℕ
newest_after Async k (Asks plain) newest = Some k
newest_after rules k case newest = newest

-- ---- the action of a request that was read

-- Returns the action of a request for a method that isn't there. Sync rules have methods alone.
abbrev pub other_of : Rules → Services → Request → RequestKind
other_of Sync services r = NoPath
other_of Async services r =
    if has_stream services r.service r.method then Chat else
    if has_service services r.service then NoMethod else
    NoService

-- Returns the action of a request that was read.
abbrev pub request_kind_of : Rules → Services → Request → RequestKind
request_kind_of rules services r = if has_method services r.service r.method then Call else other_of rules services r

-- ---- the answer: a code and a text, or nothing

-- Returns the response with a status of this code and message, and no payload.
abbrev pub status_response : Code → List ℕ → Response
status_response code message = record { status = Some (status_of code message); payload = [] }

-- Returns the text of the answer to a payload that the inbound half didn't open.
abbrev pub unopened_response_text : List ℕ → List ℕ
unopened_response_text why = codes "ttrpc err: " ++ unopened_text why

-- Returns the text of the answer to an even id.
abbrev pub even_id_text : List ℕ
even_id_text = codes "stream id must be odd"

-- Returns the text of the answer to data that no active stream takes.
abbrev pub inactive_text : List ℕ
inactive_text = codes "Stream is no longer active"

-- Returns the text of the answer to a request under an id that has an active job.
abbrev pub in_use_text : ℕ → List ℕ
in_use_text k = codes "stream id " ++ decimal k ++ codes " is in use"

-- Returns the text of the answer to a request under an id that isn't above that of the newest request.
abbrev pub not_above_text : ℕ → ℕ → List ℕ
not_above_text k newest = codes "stream id " ++ decimal k ++ codes " is not above " ++ decimal newest

-- Returns the text of the answer to a request with a path that has no handler.
abbrev pub path_text : List ℕ → List ℕ → List ℕ
path_text service method = codes "/" ++ service ++ codes "/" ++ method ++ codes " does not exist"

-- Returns the text of the answer to a request for a service that isn't there.
abbrev pub service_text : List ℕ → List ℕ
service_text service = service ++ codes " service does not exist"

-- Returns the text of the answer to a request for a method that its service lacks.
abbrev pub method_text : List ℕ → List ℕ
method_text method = method ++ codes " method"

-- Returns a response of this code and text.
abbrev pub answer : Code → List ℕ → Option Response
answer code text = Some (status_response code text)

-- Returns the answer to a frame of this case, if there is one.
abbrev pub case_answer : MessageHeader → Case → Option Response
case_answer h Skipped = None
case_answer h (Oversize n) = answer INVALID_ARGUMENT (oversize_text n)
case_answer h (Unopened why) = answer UNKNOWN (unopened_response_text why)
case_answer h EvenId = answer INVALID_ARGUMENT even_id_text
case_answer h Inactive = answer INVALID_ARGUMENT inactive_text
case_answer h InUse = answer INVALID_ARGUMENT (in_use_text h.stream_id)
case_answer h (NotAbove newest) = answer INVALID_ARGUMENT (not_above_text h.stream_id newest)
case_answer h (Asks plain) = None
case_answer h (PutsIn plain) = None

-- Returns the answer to a request that was read, if there is one.
abbrev pub request_kind_answer : Request → RequestKind → Option Response
request_kind_answer r Call = None
request_kind_answer r Chat = None
request_kind_answer r NoPath = answer INVALID_ARGUMENT (path_text r.service r.method)
request_kind_answer r NoService = answer INVALID_ARGUMENT (service_text r.service)
request_kind_answer r NoMethod = answer UNIMPLEMENTED (method_text r.method)

-- ---- the row of a frame

-- The action of a frame.
pub data Row : Type 0 where
  -- nothing
  Ignore : Row
  -- this response is sent
  SendResponse : (response : Response) → Row
  -- a response of this code is sent, with any text
  SendCode : (code : Code) → Row
  -- a unary job is made of the request
  MakeJob : (request : Request) → Row
  -- a stream's job is made of the request
  MakeStream : (request : Request) → Row
  -- data are put into the mailbox of the stream of their id
  PutIn : (payload : List ℕ) → Row

-- Returns true if the row makes a job.
abbrev pub makes_job : Row → Bool
makes_job Ignore = false
makes_job (SendResponse response) = false
makes_job (SendCode code) = false
makes_job (MakeJob request) = true
makes_job (MakeStream request) = true
makes_job (PutIn payload) = false

-- Returns the row that sends this answer, if there is one.
abbrev pub answer_row : Option Response → Row
answer_row None = Ignore
answer_row (Some r) = SendResponse r

-- Returns the row of a request that was read.
abbrev pub request_kind_row : Request → RequestKind → Row
request_kind_row r Call = MakeJob r
request_kind_row r Chat = MakeStream r
request_kind_row r asked = answer_row (request_kind_answer r asked)

-- Returns the row of a request, or of bytes that can't be read as one.
abbrev pub request_row : Rules → Services → Option Request → Row
request_row rules services None = SendCode INVALID_ARGUMENT
request_row rules services (Some r) = request_kind_row r (request_kind_of rules services r)

-- Returns the row of each case.
abbrev pub case_row : Rules → Services → MessageHeader → Case → Row
case_row rules services h (PutsIn plain) = PutIn plain
case_row rules services h (Asks plain) = request_row rules services (read_from request_step empty_request plain)
case_row rules services h case = answer_row (case_answer h case)

-- Returns the row under sync rules, in which the state of the frame's id has no part.
abbrev pub sync_row : Services → MessageHeader → InboundResult → Row
sync_row services h opening = case_row Sync services h (case_of Sync h opening None Absent)

-- The protocol of a client, from top to bottom: the effect of a frame on the call or stream of its id, the effect of each call, and the
-- reasons for refusals. The calls on streams are in `Streaming`. PROTOCOL.md defines that a response ends the call or stream of its id, the
-- flags of data, and that ids are odd and rise. The document leaves errors and their texts open, which are as in the Rust crate. Deadlines,
-- the effect of dropping and the order of refusals are this project's.
-- Source: PROTOCOL.md of ttrpc, "Request", "Response", "Data" and "Streaming"; the Rust crate; this project's.
use Rattle.std.specs.Prelude.{◌≡◌, ◌⊎◌, ◌<◌, ◌≤◌, ◌-◌, ◌^◌, ℕ, ◌+◌, ◌&&◌, not, List, [], ◌∷◌, ◌++◌, length, min, codes, Option, Some, None, Bool, true, false, Result, Ok, Err, is_some, nat_eq, nat_lt, ℤ, pos, zero, IsPermutation, if◌then◌else◌}
use Rattle.std.specs.BTreeSet.{insert_key}
use Rattle.std.specs.Fmt.{decimal}
use Rattle.std.specs.Ordering.{nat_cmp}
use Rattle.ttrpc_wire.specs.Field.{fields_bytes}
use Rattle.ttrpc_wire.specs.Fold.{read_from}
use Rattle.ttrpc_wire.specs.declared.values.code.Code.TheVariants.{INVALID_ARGUMENT}
use Rattle.ttrpc_client.specs.Types.{Error, Others, RpcStatus, NoMemory, NoRoom, Request, Response, Queued, OutboundTransform, Arrived, Failure, DeadlineDuringWrite, CancelledDuringWrite, Connection, MailboxEntry, Breaking, Closing, Last, CallState, Waiting, Expired, Ended, ClientKind, Sync, Async, StreamState}
use Rattle.ttrpc_proto.specs.declared.messages.Status.{Status}
use Rattle.ttrpc_proto.specs.ErrorText.{status_of}
use Rattle.ttrpc_proto.specs.Messages.{empty_response, request_fields, response_step}
use Rattle.ttrpc_proto.specs.declared.framing.header.MessageHeader.{MessageHeader}
use Rattle.ttrpc_proto.specs.declared.framing.header.TheConstants.{FLAG_REMOTE_CLOSED, MESSAGE_HEADER_LENGTH, MESSAGE_LENGTH_MAX, MESSAGE_TYPE_DATA, MESSAGE_TYPE_REQUEST, MESSAGE_TYPE_RESPONSE}
use Rattle.ttrpc_proto.specs.Framing.Header.Oversize.{oversize_text}
use Rattle.ttrpc_proto.specs.Framing.Queue.{free, has_begun, without}
use Rattle.ttrpc_secure.specs.Hooks.Facts.{Facts}
use Rattle.ttrpc_secure.specs.Context.Texts.{advice_text, unopened_text, unsafe_payload_text, unsealed_text}
use Rattle.ttrpc_secure.specs.Sends.{associated}
use Rattle.ttrpc_connection.specs.declared.arrived.InboundResult.{InboundResult}
use Rattle.ttrpc_connection.specs.declared.arrived.InboundResult.TheVariants.{TooLong, Opened, Refused}
use Rattle.ttrpc_connection.specs.Deadlines.{deadline_of}
use Rattle.ttrpc_connection.specs.Failure.{IsTold, error_of, first_failure}
use Rattle.ttrpc_connection.specs.Feeds.{IsFailed, new_connection}
use Rattle.ttrpc_connection.specs.Frames.{Sent, SendsOne, safe_limit}
use Rattle.ttrpc_connection.specs.Things.{data_thing, has_flag}
use Rattle.ttrpc_client.specs.declared.client.ClientCore.{ClientCore}
use Rattle.ttrpc_client.specs.State.{Client, OthersStay, call_at, call_in, new_client, stream_at, throws, told_left, waits, is_due, due_at, due_ids}
use Rattle.ttrpc_client.specs.Streams.{StreamsStay, hears, is_entered, stream_in, with_delivery}

-- ---- the effect of a frame on the call of its id
-- Source: PROTOCOL.md of ttrpc, "Response" and "Data"; errors and texts: the Rust crate.

-- The effect of a frame on a call that waits.
pub data CallResult : Type 0 where
  -- this outcome
  Gives : (outcome : Result Response Error) → CallResult
  -- an error with a text that begins so and has any end
  GivesBeginning : (text : List ℕ) → CallResult

-- Returns the response, or its status as an error if the code isn't OK.
abbrev pub by_code : ℤ → Status → Response → Result Response Error
by_code (pos zero) s r = Ok r
by_code code s r = Err (RpcStatus s)

-- Returns the outcome that a response gives: the response, or its status as an error if the code isn't OK.
abbrev pub by_status : Option Status → Response → Result Response Error
by_status None r = Ok r
by_status (Some s) r = by_code s.code s r

-- Returns the effect of a response, or of bytes that can't be read as one.
abbrev pub read_result : Option Response → CallResult
read_result None = GivesBeginning (codes "Unpack response error ")
read_result (Some r) = Gives (by_status r.status r)

-- Returns the text of the error for a frame of an unexpected type.
abbrev pub malformed_text : MessageHeader → List ℕ
malformed_text h = codes "Receiver got malformed packet: type " ++ decimal h.type_ ++ codes ", flags " ++ decimal h.flags ++ codes ", stream " ++ decimal h.stream_id

-- Returns the effect of a frame on a call that waits. The first test that fits counts.
abbrev pub call_result_of : MessageHeader → InboundResult → CallResult
call_result_of h TooLong = Gives (Err (RpcStatus (status_of INVALID_ARGUMENT (oversize_text h.length))))
call_result_of h (Refused why) = Gives (Err (Others (unopened_text why)))
call_result_of h (Opened plain) =
    if nat_lt MESSAGE_LENGTH_MAX (length plain) then Gives (Err (Others (oversize_text (length plain)))) else
    if nat_eq h.type_ MESSAGE_TYPE_RESPONSE then read_result (read_from response_step empty_response plain) else
    Gives (Err (Others (malformed_text h)))

-- Holds if the frame gives this outcome.
abbrev pub IsCallResult : CallResult → Result Response Error → Type 0
IsCallResult (Gives given) outcome = outcome ≡ given
IsCallResult (GivesBeginning text) outcome = (rest : List ℕ) × (outcome ≡ Err (Others (text ++ rest)))

-- Holds if a frame has this effect on a call: a call that waits ends with the outcome, and any other stays as it is.
abbrev pub LandsOn : CallResult → Option CallState → Option CallState → Type 0
LandsOn landing (Some (Waiting deadline)) new = (outcome : Result Response Error) × IsCallResult landing outcome × (new ≡ Some (Ended outcome))
LandsOn landing old new = new ≡ old

-- Holds if the frame has its effect on the call of this id, and on no other.
pub record Lands (landing : CallResult) (id : ℕ) (old new : List (ℕ × CallState)) : Type 0 where
  pub own : LandsOn landing (call_in old id) (call_in new id)
  pub others : OthersStay old id new

-- ---- the effect of a frame on a stream
-- Source: PROTOCOL.md of ttrpc, "Response", "Data" and "Streaming"; errors and texts: the Rust crate.

-- The effect of a frame on a stream that no frame has ended.
pub data StreamDelivery : Type 0 where
  -- this thing, which ends the stream if `ends` is true
  Brings : (thing : MailboxEntry) → (ends : Bool) → StreamDelivery
  -- an error that ends the stream, with a text that begins so and has any end
  BringsBeginning : (text : List ℕ) → StreamDelivery

-- Returns the delivery of an error after which nothing is received.
abbrev pub breaks_with : Error → StreamDelivery
breaks_with error = Brings (Breaking error) true

-- Returns the delivery of a response, which closes the stream: with its payload as an item, or with its status as an error.
abbrev pub closing_delivery : Result Response Error → StreamDelivery
closing_delivery (Ok r) = Brings (Last r.payload) true
closing_delivery (Err error) = Brings (Closing error) true

-- Returns the delivery of a response, or of bytes that can't be read as one.
abbrev pub response_delivery : Option Response → StreamDelivery
response_delivery None = BringsBeginning (codes "Decode message failed. ")
response_delivery (Some r) = closing_delivery (by_status r.status r)

-- Returns the delivery of data: an item or an end, or an error if the stream was opened to receive none. Data with the flag that closes end the
-- stream.
abbrev pub data_delivery : Bool → MessageHeader → List ℕ → StreamDelivery
data_delivery true h plain = Brings (data_thing h.stream_id h.flags plain) (has_flag FLAG_REMOTE_CLOSED h.flags)
data_delivery false h plain = Brings (Closing (Others (codes "received data from non-streaming server."))) (has_flag FLAG_REMOTE_CLOSED h.flags)

-- Returns the delivery of a frame, by whether the stream was opened to receive items. The first test that fits counts.
abbrev pub delivery_of : Bool → MessageHeader → InboundResult → StreamDelivery
delivery_of streaming_server h TooLong = breaks_with (RpcStatus (status_of INVALID_ARGUMENT (oversize_text h.length)))
delivery_of streaming_server h (Refused why) = breaks_with (Others (unopened_text why))
delivery_of streaming_server h (Opened plain) =
    if nat_lt MESSAGE_LENGTH_MAX (length plain) then breaks_with (Others (oversize_text (length plain))) else
    if nat_eq h.type_ MESSAGE_TYPE_RESPONSE then response_delivery (read_from response_step empty_response plain) else
    if nat_eq h.type_ MESSAGE_TYPE_DATA then data_delivery streaming_server h plain else
    breaks_with (Others (malformed_text h))

-- Holds if the delivery is this thing, and ends the stream or not.
abbrev pub IsDelivery : StreamDelivery → MailboxEntry → Bool → Type 0
IsDelivery (Brings x end) thing ends = (thing ≡ x) × (ends ≡ end)
IsDelivery (BringsBeginning text) thing ends = ((rest : List ℕ) × (thing ≡ Closing (Others (text ++ rest)))) × (ends ≡ true)

-- Holds if a frame has this effect on a stream: its mailbox has the delivery, unless there is no such stream or a frame has ended it.
abbrev pub Reaches : Bool → MessageHeader → InboundResult → Option StreamState → Option StreamState → Type 0
Reaches false h opening old new = new ≡ old
Reaches true h opening None new = new ≡ None
Reaches true h opening (Some s) new =
    (thing : MailboxEntry) × (ends : Bool) × IsDelivery (delivery_of s.streaming_server h opening) thing ends × (new ≡ Some (with_delivery thing ends s))

-- Holds if a frame has its effect on the stream of its id, and on no other.
pub record ReachesOne (h : MessageHeader) (opening : InboundResult) (old new : List (ℕ × StreamState)) : Type 0 where
  pub own : Reaches (is_entered (stream_in old h.stream_id)) h opening (stream_in old h.stream_id) (stream_in new h.stream_id)
  pub others : StreamsStay old h.stream_id new

-- ---- the effect of a frame on a client
-- Source: PROTOCOL.md of ttrpc, "Response".

-- Returns the id of a call that a frame ends, to be reported, if the call waited.
abbrev pub ended_by : Option CallState → ℕ → List ℕ
ended_by call id = if waits call then id ∷ [] else []

-- Returns the ids of streams for which something came. This id is added if a frame under it brings the stream's receiver something.
abbrev pub heard_with : Option StreamState → ℕ → List ℕ → List ℕ
heard_with stream id heard = if hears stream then insert_key nat_cmp heard id else heard

-- Holds if a frame has its effect on the call or the stream of its id, and nothing is sent.
pub record LandsOnce (old : Client) (a : Arrived) (sent : List Sent) (new : Client) : Type 0 where
  pub lands : Lands (call_result_of a.header a.opening) a.header.stream_id old.calls new.calls
  pub reaches : ReachesOne a.header a.opening old.streams new.streams
  pub same : new ≡ record old {
    calls = new.calls;
    ended = old.ended ++ ended_by (call_at old a.header.stream_id) a.header.stream_id;
    streams = new.streams;
    heard = heard_with (stream_at old a.header.stream_id) a.header.stream_id old.heard;
  }
  pub sent_is : sent ≡ []

-- ---- a request and its frame
-- Source: PROTOCOL.md of ttrpc, "Request" and "Streaming".

-- Returns the written form of a request.
abbrev pub request_bytes : Request → List ℕ
request_bytes r = fields_bytes (request_fields r)

-- Returns the length of a request, at most the greatest number of 32 bits.
abbrev pub request_size : Request → ℕ
request_size r = min (length (request_bytes r)) (2 ^ 32 - 1)

-- Returns the greatest id.
abbrev pub last_id : ℕ
last_id = 2 ^ 32 - 1

-- Holds if this is the frame for the request of a call.
pub record IsRequestFrame (id : ℕ) (f : Queued) : Type 0 where
  pub stream_id : f.message.header.stream_id ≡ id
  pub type_ : f.message.header.type_ ≡ MESSAGE_TYPE_REQUEST
  pub flags : f.message.header.flags ≡ 0
  pub ticket : f.ticket ≡ None
  pub is_unary_request : f.is_unary_request ≡ true
  pub owner : f.owner ≡ id

-- Returns a core that has made no call, with a new connection.
abbrev pub new_core : {O I : Type 0} → ClientKind → ℕ → Facts → O → I → ClientCore O I
new_core kind next known outbound inbound = record { state = new_client kind next; connection = new_connection known outbound inbound }

-- Holds if a request was accepted at a moment: its call waits, and the request is sealed and queued.
pub record Requests {O I : Type 0} (out : OutboundTransform O) (old : ClientCore O I) (request : Request) (now id : ℕ) (new : ClientCore O I) : Type 0 where
  pub alive : old.connection.failure ≡ None
  pub id_is : id ≡ old.state.next
  pub in_range : id ≤ last_id
  pub fits : request_size request ≤ safe_limit out old.connection.outbox.half
  pub own : call_at new.state id ≡ Some (Waiting (deadline_of now request.timeout_nano))
  pub others : OthersStay old.state.calls id new.state.calls
  pub frame : Queued
  pub is_frame : IsRequestFrame id frame
  pub sends : SendsOne out old.connection.outbox frame (request_bytes request) new.connection.outbox
  pub same : new ≡ record old {
    state = record old.state { next = id + 2; calls = new.state.calls };
    connection = record old.connection { outbox = new.connection.outbox };
  }

-- ---- outcomes
-- Source: this project's; the text: the Rust crate.

-- Holds if the outcome is this error, or `NoMemory` if memory for it was refused.
abbrev pub TellsOutcome : Error → Option (Result Response Error) → Type 0
TellsOutcome error given = (told : Error) × IsTold error told × (given ≡ Some (Err told))

-- Returns the error for a call that has expired.
abbrev pub expired_error : Error
expired_error = Others (codes "Request deadline elapsed")

-- Holds if this is the result of asking for the outcome of a call. After a failure of the connection, the failure is the outcome of each
-- call that waits.
abbrev pub GivesOutcome : Option Failure → Option CallState → Option (Result Response Error) → Type 0
GivesOutcome failure None given = given ≡ None
GivesOutcome None (Some (Waiting deadline)) given = given ≡ None
GivesOutcome (Some why) (Some (Waiting deadline)) given = TellsOutcome (error_of why) given
GivesOutcome failure (Some Expired) given = TellsOutcome expired_error given
GivesOutcome failure (Some (Ended outcome)) given = given ≡ Some outcome

-- Returns the call that is left after its outcome was asked for, by whether the connection has failed: none, unless the call goes on to
-- wait.
abbrev pub left_of : Bool → Option CallState → Option CallState
left_of failed call = if waits call && not failed then call else None

-- Returns the core with these calls, and with the ended calls that are still to be reported.
abbrev pub with_calls : {O I : Type 0} → ClientCore O I → List (ℕ × CallState) → ClientCore O I
with_calls c calls = record c { state = record c.state { calls = calls; ended = told_left calls c.state.ended } }

-- Holds if the outcome of a call was asked for, and given if there was one.
pub record TakesOutcome {O I : Type 0} (old : ClientCore O I) (id : ℕ) (given : Option (Result Response Error)) (new : ClientCore O I) : Type 0 where
  pub gives : GivesOutcome old.connection.failure (call_at old.state id) given
  pub own : call_at new.state id ≡ left_of (is_some old.connection.failure) (call_at old.state id)
  pub others : OthersStay old.state.calls id new.state.calls
  pub same : new ≡ with_calls old new.state.calls

-- ---- calls that expire
-- Source: this project's.

-- Returns the call of an id after a moment has come: a call that is due has expired, and any other stays as it is.
abbrev pub expired_at : ℕ → Option CallState → Option CallState
expired_at now None = None
expired_at now (Some call) = Some (if is_due now call then Expired else call)

-- Holds if the calls that are due have expired, in some order.
pub record Expires (old : Client) (now : ℕ) (new : Client) : Type 0 where
  pub due : List ℕ
  pub is_due : IsPermutation due (due_ids now old.calls)
  pub calls : (k : ℕ) → call_at new k ≡ expired_at now (call_at old k)
  pub same : new ≡ record old { calls = new.calls; ended = old.ended ++ due }

-- Returns the connection after the requests of these calls were taken back. The requests that haven't begun to leave are thrown away, and
-- the connection fails for this reason if one has.
abbrev pub taken_back : {O I : Type 0} → Connection O I → (ℕ → Bool) → Failure → Connection O I
taken_back c ids why = record c {
  outbox = record c.outbox { queue = without c.outbox.queue ids };
  failure = if has_begun c.outbox.queue ids then first_failure c.failure why else c.failure;
}

-- Holds if a moment passed. The calls that are due have expired, and if requests may be thrown away, those of these calls are taken back.
pub record Ticks {O I : Type 0} (seals : Bool) (old : ClientCore O I) (now : ℕ) (new : ClientCore O I) : Type 0 where
  pub expires : Expires old.state now new.state
  pub connection : new.connection ≡ (if throws old.state.kind seals
      then taken_back old.connection (λ id. due_at now (call_at old.state id)) DeadlineDuringWrite else old.connection)

-- ---- calls that are dropped
-- Source: this project's.

-- Returns the call that is left after it was dropped: none.
abbrev pub forgotten : Option CallState → Option CallState
forgotten call = None

-- Returns true if dropping the call takes its request back: the connection hasn't failed, requests may be thrown away, and the call still
-- waits.
abbrev pub takes_back : {O I : Type 0} → Bool → ClientCore O I → ℕ → Bool
takes_back seals old id = if is_some old.connection.failure then false else if throws old.state.kind seals then waits (call_at old.state id) else false

-- Holds if a call was forgotten.
pub record Forgets {O I : Type 0} (seals : Bool) (old : ClientCore O I) (id : ℕ) (new : ClientCore O I) : Type 0 where
  pub own : call_at new.state id ≡ forgotten (call_at old.state id)
  pub others : OthersStay old.state.calls id new.state.calls
  pub same : new ≡ record (with_calls old new.state.calls) {
    connection = if takes_back seals old id then taken_back old.connection (λ k. nat_eq k id) CancelledDuringWrite else old.connection;
  }

-- ---- why a request is refused: the failure of the connection, or else the first of these that applies
-- Source: the Rust crate; the order: this project's.

-- Holds if the connection hasn't failed, and the request is longer than a message may be.
pub record IsTooLong {O I : Type 0} (old : ClientCore O I) (r : Request) (told : Error) : Type 0 where
  pub alive : old.connection.failure ≡ None
  pub above : MESSAGE_LENGTH_MAX < request_size r
  pub is_told : IsTold (Others (oversize_text (request_size r))) told

-- Holds if the connection hasn't failed, and the request is no longer than a message may be.
pub record IsSendable {O I : Type 0} (old : ClientCore O I) (r : Request) : Type 0 where
  pub alive : old.connection.failure ≡ None
  pub short : request_size r ≤ MESSAGE_LENGTH_MAX

-- Holds if the request is no longer than a message may be, but no id is left.
pub record HasNoId {O I : Type 0} (old : ClientCore O I) (r : Request) (told : Error) : Type 0 where
  pub sendable : IsSendable old r
  pub used_up : last_id < old.state.next
  pub is_told : IsTold (Others (codes "stream ids are used up")) told

-- Returns the advice that a client of this kind adds to the text about the safe limit.
abbrev pub advice : ClientKind → List ℕ
advice Sync = []
advice Async = advice_text

-- Holds if an id is left, but the request is above the safe limit.
pub record IsAboveLimit {O I : Type 0} (out : OutboundTransform O) (old : ClientCore O I) (r : Request) (told : Error) : Type 0 where
  pub sendable : IsSendable old r
  pub in_range : old.state.next ≤ last_id
  pub above : safe_limit out old.connection.outbox.half < request_size r
  pub is_told : IsTold (Others (unsafe_payload_text (request_size r) (safe_limit out old.connection.outbox.half) (advice old.state.kind))) told

-- Returns how many bytes the frame of a request may need: its header, the request, and the bytes that sealing may add.
abbrev pub request_room : {O : Type 0} → OutboundTransform O → O → Request → ℕ
request_room out o r = MESSAGE_HEADER_LENGTH + request_size r + out.overhead o

-- Holds if the request is within the limit, but the queue lacks room for it.
pub record HasNoRoom {O I : Type 0} (out : OutboundTransform O) (old : ClientCore O I) (r : Request) (told : Error) : Type 0 where
  pub sendable : IsSendable old r
  pub in_range : old.state.next ≤ last_id
  pub fits : request_size r ≤ safe_limit out old.connection.outbox.half
  pub lacks : free old.connection.outbox.queue < request_room out old.connection.outbox.half r
  pub is_told : told ≡ NoRoom

-- Holds if the queue has room, but the half refuses the request in such a frame, for this reason.
pub record IsUnsealed {O I : Type 0} (out : OutboundTransform O) (old : ClientCore O I) (r : Request) (is_such : Queued → Type 0) (told : Error) : Type 0 where
  pub sendable : IsSendable old r
  pub in_range : old.state.next ≤ last_id
  pub fits : request_size r ≤ safe_limit out old.connection.outbox.half
  pub room : request_room out old.connection.outbox.half r ≤ free old.connection.outbox.queue
  pub frame : Queued
  pub is_frame : is_such frame
  pub why : List ℕ
  pub refuses : out.refuses old.connection.outbox.half (request_bytes r) (associated frame.message.header) why
  pub is_told : IsTold (Others (unsealed_text why)) told

-- Holds if a request may be refused with this error, for one of these reasons or because memory was refused.
abbrev pub RefusesRequest : {O I : Type 0} → OutboundTransform O → ClientCore O I → Request → Error → Type 0
RefusesRequest out old r told =
    IsFailed old.connection.failure told ⊎ IsTooLong old r told ⊎ HasNoId old r told ⊎ IsAboveLimit out old r told
    ⊎ HasNoRoom out old r told ⊎ IsUnsealed out old r (IsRequestFrame old.state.next) told ⊎ ((told ≡ NoMemory) × (old.connection.failure ≡ None))

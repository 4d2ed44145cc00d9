-- The streams of a client, from top to bottom: how they are opened, how items are sent and received on them, and why each is refused. The
-- effect of a frame on a stream is in `Protocol`.
-- Source: PROTOCOL.md of ttrpc, "Data" and "Streaming"; the Rust crate; this project's.
use Rattle.std.specs.Prelude.{◌≡◌, ◌≢◌, ◌⊎◌, ◌≤◌, ℕ, ◌+◌, not, List, [], codes, Option, Some, None, Bool, true, false, Result, Err, if◌then◌else◌}
use Rattle.std.specs.BTreeMap.{is_at}
use Rattle.std.specs.Ordering.{nat_cmp}
use Rattle.std.specs.Set.{remove_key}
use Rattle.ttrpc_wire.specs.declared.values.code.Code.TheVariants.{INVALID_ARGUMENT}
use Rattle.ttrpc_client.specs.Types.{Error, LocalClosed, Others, RpcStatus, NoMemory, Request, Queued, OutboundTransform, Failure, StreamState, Sender, Open, Closed, Dropped}
use Rattle.ttrpc_proto.specs.ErrorText.{status_of}
use Rattle.ttrpc_proto.specs.declared.framing.header.TheConstants.{FLAG_NO_DATA, FLAG_REMOTE_CLOSED, FLAG_REMOTE_OPEN, MESSAGE_TYPE_REQUEST}
use Rattle.ttrpc_connection.specs.Failure.{IsTold}
use Rattle.ttrpc_connection.specs.Feeds.{IsFailed}
use Rattle.ttrpc_connection.specs.Frames.{SendsOne, safe_limit}
use Rattle.ttrpc_connection.specs.Items.{RefusesData, SendsData}
use Rattle.ttrpc_connection.specs.Mail.{Mail, Receives}
use Rattle.ttrpc_client.specs.declared.client.ClientCore.{ClientCore}
use Rattle.ttrpc_client.specs.State.{stream_at}
use Rattle.ttrpc_client.specs.Streams.{StreamsStay, new_stream, with_sender, without_reader, without_sender}
use Rattle.ttrpc_client.specs.Protocol.{HasNoId, HasNoRoom, IsAboveLimit, IsSendable, IsTooLong, IsUnsealed, advice, last_id, request_bytes, request_size}

-- ---- streams that are opened
-- Source: PROTOCOL.md of ttrpc, "Streaming"; the order of refusals: this project's.

-- Returns the flags of the request that opens a stream. If the stream is to send items the request has no data, and else the request closes
-- the sending side.
abbrev pub opening_flags : Bool → ℕ
opening_flags true = FLAG_REMOTE_OPEN + FLAG_NO_DATA
opening_flags false = FLAG_REMOTE_CLOSED

-- Holds if this is the frame for the request of a stream.
pub record IsOpeningFrame (streaming_client : Bool) (id : ℕ) (f : Queued) : Type 0 where
  pub stream_id : f.message.header.stream_id ≡ id
  pub type_ : f.message.header.type_ ≡ MESSAGE_TYPE_REQUEST
  pub flags : f.message.header.flags ≡ opening_flags streaming_client
  pub ticket : f.ticket ≡ None
  pub is_unary_request : f.is_unary_request ≡ false
  pub owner : f.owner ≡ id

-- Holds if a stream was opened: its request is sealed and queued.
pub record OpensStream {O I : Type 0} (out : OutboundTransform O) (old : ClientCore O I) (request : Request) (streaming_client streaming_server : Bool) (id : ℕ) (new : ClientCore O I) : Type 0 where
  pub alive : old.connection.failure ≡ None
  pub id_is : id ≡ old.state.next
  pub in_range : id ≤ last_id
  pub empty : streaming_client ≡ true → request.payload ≡ []
  pub fits : request_size request ≤ safe_limit out old.connection.outbox.half
  pub own : stream_at new.state id ≡ Some (new_stream streaming_client streaming_server)
  pub others : StreamsStay old.state.streams id new.state.streams
  pub frame : Queued
  pub is_frame : IsOpeningFrame streaming_client id frame
  pub sends : SendsOne out old.connection.outbox frame (request_bytes request) new.connection.outbox
  pub same : new ≡ record old {
    state = record old.state { next = id + 2; streams = new.state.streams };
    connection = record old.connection { outbox = new.connection.outbox };
  }

-- Holds if a stream is to send items, but its request has a payload.
pub record HasPayload {O I : Type 0} (old : ClientCore O I) (r : Request) (streaming_client : Bool) (told : Error) : Type 0 where
  pub sendable : IsSendable old r
  pub streaming : streaming_client ≡ true
  pub payload : r.payload ≢ []
  pub is_told : IsTold (RpcStatus (status_of INVALID_ARGUMENT (codes "Creating a ClientStream and sending payload at the same time is not allowed"))) told

-- Holds if a stream may be refused with this error. The reasons are those for a request, in their order, with the payload checked after the
-- length.
abbrev pub RefusesStream : {O I : Type 0} → OutboundTransform O → ClientCore O I → Request → Bool → Error → Type 0
RefusesStream out old r streaming_client told =
    IsFailed old.connection.failure told ⊎ IsTooLong old r told ⊎ HasPayload old r streaming_client told
    ⊎ ((streaming_client ≡ true → r.payload ≡ [])
    × (HasNoId old r told ⊎ IsAboveLimit out old r told ⊎ HasNoRoom out old r told ⊎ IsUnsealed out old r (IsOpeningFrame streaming_client old.state.next) told))
    ⊎ ((told ≡ NoMemory) × (old.connection.failure ≡ None))

-- ---- items that are sent, and the close after them
-- Source: PROTOCOL.md of ttrpc, "Data" and "Streaming"; errors and texts: the Rust crate; their order: this project's. How data
-- are sent, and for what they are refused, is said in `Items` of the connection's specs.

-- Returns the error that there is no such stream.
abbrev pub unknown_error : Error
unknown_error = Others (codes "unknown stream")

-- Returns the error that the stream was opened to send no items.
abbrev pub unsendable_error : Error
unsendable_error = Others (codes "stream is not sendable")

-- Returns the error that the sender has closed or was dropped, if this is so.
abbrev pub closed_error : Sender → Option Error
closed_error Open = None
closed_error Closed = Some LocalClosed
closed_error Dropped = Some LocalClosed

-- Returns the error why nothing may be sent on a stream, if there is one. The first test that fits counts.
abbrev pub unsendable : Option StreamState → Option Error
unsendable None = Some unknown_error
unsendable (Some s) = if s.streaming_client then closed_error s.sender else Some unsendable_error

-- Holds if data were sent on a stream in a frame of these flags, with this ticket, and the stream's sender is in this state afterwards.
pub record SendsOn {O I : Type 0} (out : OutboundTransform O) (old : ClientCore O I) (id flags : ℕ) (plain : List ℕ) (sender : Sender) (ticket : ℕ) (new : ClientCore O I) : Type 0 where
  pub alive : old.connection.failure ≡ None
  pub sendable : unsendable (stream_at old.state id) ≡ None
  pub sends : SendsData out old.connection.outbox id flags plain ticket new.connection.outbox
  pub own : stream_at new.state id ≡ with_sender sender (stream_at old.state id)
  pub others : StreamsStay old.state.streams id new.state.streams
  pub same : new ≡ record old {
    state = record old.state { streams = new.state.streams };
    connection = record old.connection { outbox = new.connection.outbox };
  }

-- Holds if the connection hasn't failed, but nothing may be sent on the stream.
pub record IsUnsendable {O I : Type 0} (old : ClientCore O I) (id : ℕ) (told : Error) : Type 0 where
  pub alive : old.connection.failure ≡ None
  pub error : Error
  pub is : unsendable (stream_at old.state id) ≡ Some error
  pub is_told : IsTold error told

-- Holds if items may be sent on the stream, but these data aren't.
pub record IsItemRefused {O I : Type 0} (out : OutboundTransform O) (old : ClientCore O I) (id flags : ℕ) (plain : List ℕ) (told : Error) : Type 0 where
  pub alive : old.connection.failure ≡ None
  pub sendable : unsendable (stream_at old.state id) ≡ None
  pub refuses : RefusesData out (advice old.state.kind) old.connection.outbox id flags plain told

-- Holds if sending may be refused with this error, for the first of these reasons that applies.
abbrev pub RefusesSending : {O I : Type 0} → OutboundTransform O → ClientCore O I → ℕ → ℕ → List ℕ → Error → Type 0
RefusesSending out old id flags plain told =
    IsFailed old.connection.failure told ⊎ IsUnsendable old id told ⊎ IsItemRefused out old id flags plain told

-- ---- items that are received, and halves that are dropped
-- Source: PROTOCOL.md of ttrpc, "Streaming"; the table of a mailbox is `Mail` of the connection's specs.

-- Holds if this is the result of a call to receive from a stream. The connection's failure comes after all things that came.
abbrev pub ReceivesAt : Option Failure → Option StreamState → Option (Result (List ℕ) Error) → Option StreamState → Type 0
ReceivesAt failure None given new = ((told : Error) × IsTold unknown_error told × (given ≡ Some (Err told))) × (new ≡ None)
ReceivesAt failure (Some s) given new = (m : Mail) × Receives failure s.mailbox given m × (new ≡ Some (record s { mailbox = m }))

-- Holds if this is the result of a call to receive, and nothing else changed.
pub record ReceivesOne {O I : Type 0} (old : ClientCore O I) (id : ℕ) (given : Option (Result (List ℕ) Error)) (new : ClientCore O I) : Type 0 where
  pub own : ReceivesAt old.connection.failure (stream_at old.state id) given (stream_at new.state id)
  pub others : StreamsStay old.state.streams id new.state.streams
  pub same : new ≡ record old { state = record old.state { streams = new.state.streams } }

-- Holds if the receiver of a stream was dropped. The stream is no longer one for which something came.
pub record DropsReceiver {O I : Type 0} (old : ClientCore O I) (id : ℕ) (new : ClientCore O I) : Type 0 where
  pub own : stream_at new.state id ≡ without_reader (stream_at old.state id)
  pub others : StreamsStay old.state.streams id new.state.streams
  pub same : new ≡ record old { state = record old.state { streams = new.state.streams; heard = remove_key (is_at (nat_cmp id)) old.state.heard } }

-- Holds if the sender of a stream was dropped.
pub record DropsSender {O I : Type 0} (old : ClientCore O I) (id : ℕ) (new : ClientCore O I) : Type 0 where
  pub own : stream_at new.state id ≡ without_sender (stream_at old.state id)
  pub others : StreamsStay old.state.streams id new.state.streams
  pub same : new ≡ record old { state = record old.state { streams = new.state.streams } }

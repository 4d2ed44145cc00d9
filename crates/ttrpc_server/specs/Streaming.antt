-- The streams of a server: the stream that a job's id names, the effect of each call on it, and the reasons for refusals, from top to
-- bottom.
-- Source: PROTOCOL.md of ttrpc, "Data" and "Streaming"; errors and texts: the Rust crate; their order: this project's. How data
-- are sent, and for what they are refused, is said in `Items` of the connection's specs, the table of a mailbox in `Mail`.
use Rattle.std.specs.Prelude.{◌≡◌, ◌<◌, ◌≤◌, ◌⊎◌, ◌&&◌, ℕ, List, [], codes, nat_le, nat_lt, Bool, true, false, Option, None, Some, Result, Ok, Err, if◌then◌else◌}
use Rattle.std.specs.BTreeMap.{is_at}
use Rattle.std.specs.Ordering.{nat_cmp}
use Rattle.std.specs.Set.{remove_key}
use Rattle.ttrpc_proto.specs.declared.framing.header.TheConstants.{MESSAGE_TYPE_DATA}
use Rattle.ttrpc_proto.specs.Messages.{IsResponse}
use Rattle.ttrpc_proto.specs.declared.error.Error.TheVariants.{LocalClosed}
use Rattle.ttrpc_secure.specs.Context.Texts.{unsealed_text}
use Rattle.ttrpc_proto.specs.Framing.Queue.{free}
use Rattle.ttrpc_secure.specs.Sends.{associated, needed}
use Rattle.ttrpc_connection.specs.Failure.{IsTold}
use Rattle.ttrpc_connection.specs.Feeds.{IsFailed}
use Rattle.ttrpc_connection.specs.Frames.{Sent, SendsAll, SendsOne, safe_limit}
use Rattle.ttrpc_connection.specs.Items.{RefusesData, SendsData, close_flags}
use Rattle.ttrpc_connection.specs.Mail.{past_error, without_receiver}
use Rattle.ttrpc_server.specs.declared.server.ServerCore.{ServerCore}
use Rattle.ttrpc_server.specs.Types.{Error, Failure, NoMemory, NoRoom, Others, Outbox, Queued, OutboundTransform, Response, ActiveJob, Rules, Sync, Async}
use Rattle.ttrpc_server.specs.Protocol.{IsErrorResponse, IsUnsent, Responds, advice}
use Rattle.ttrpc_server.specs.State.{EndsOne, IsTaken, IsUnknown, JobList, Server, is_stream, job_at, on_mail}
use Rattle.ttrpc_server.specs.Mailboxes.{ReceivesFrom}

-- ---- the stream that a job's id names

-- Returns true if a job of this id was made.
abbrev pub was_made : JobList → ℕ → Bool
was_made jobs id = nat_lt 0 id && nat_le id jobs.last

-- Returns the error that there is no such stream.
abbrev pub unknown_stream : Error
unknown_stream = Others (codes "unknown stream")

-- Returns the error for a call on the stream of a job, or none if the job is a stream's. The stream is unknown if the job isn't a stream's
-- or wasn't made. If the job has ended, the error is the given one.
abbrev pub astray : Error → Option ActiveJob → Bool → Option Error
astray ended (Some j) made = if is_stream j.body then None else Some unknown_stream
astray ended None true = Some ended
astray ended None false = Some unknown_stream

-- Returns the error why nothing is sent on the stream of a job, if there is one.
abbrev pub unsendable : JobList → ℕ → Option Error
unsendable jobs id = astray LocalClosed (job_at jobs.list id) (was_made jobs id)

-- Returns the error why nothing is received from the stream of a job, if there is one.
abbrev pub unreceivable : JobList → ℕ → Option Error
unreceivable jobs id = astray past_error (job_at jobs.list id) (was_made jobs id)

-- Holds if the rules have no streams, and this error reports it.
pub record HasNoStreams (s : Server) (told : Error) : Type 0 where
  pub rules : s.rules ≡ Sync
  pub is_told : IsTold (Others (codes "wrong rules for this call")) told

-- ---- items that are sent

-- Holds if an item was sent on the stream of a job, with this ticket.
pub record SendsItem {O I : Type 0} (out : OutboundTransform O) (old : ServerCore O I) (id : ℕ) (item : List ℕ) (ticket : ℕ) (new : ServerCore O I) : Type 0 where
  pub alive : old.connection.failure ≡ None
  pub rules : old.state.rules ≡ Async
  pub job : ActiveJob
  pub at : job_at old.state.jobs.list id ≡ Some job
  pub stream : is_stream job.body ≡ true
  pub sends : SendsData out old.connection.outbox job.header.stream_id 0 item ticket new.connection.outbox
  pub same : new ≡ record old { connection = record old.connection { outbox = new.connection.outbox } }

-- Holds if the connection hasn't failed, and there is no such stream to send on.
pub record IsAstray {O I : Type 0} (old : ServerCore O I) (id : ℕ) (told : Error) : Type 0 where
  pub alive : old.connection.failure ≡ None
  pub rules : old.state.rules ≡ Async
  pub error : Error
  pub is : unsendable old.state.jobs id ≡ Some error
  pub is_told : IsTold error told

-- Holds if there is such a stream, but these data aren't sent.
pub record IsItemRefused {O I : Type 0} (out : OutboundTransform O) (old : ServerCore O I) (id : ℕ) (item : List ℕ) (told : Error) : Type 0 where
  pub alive : old.connection.failure ≡ None
  pub rules : old.state.rules ≡ Async
  pub job : ActiveJob
  pub at : job_at old.state.jobs.list id ≡ Some job
  pub stream : is_stream job.body ≡ true
  pub refuses : RefusesData out (advice Async) old.connection.outbox job.header.stream_id 0 item told

-- Holds if an item may be refused with this error.
abbrev pub RefusesItem : {O I : Type 0} → OutboundTransform O → ServerCore O I → ℕ → List ℕ → Error → Type 0
RefusesItem out old id item told =
    IsFailed old.connection.failure told ⊎ ((old.connection.failure ≡ None) × HasNoStreams old.state told) ⊎ IsAstray old id told ⊎ IsItemRefused out old id item told

-- ---- items that are received

-- Holds if this is the result of a call to receive, by the rules. The connection's failure comes after all things that came.
abbrev pub ReceivesBy : Rules → Option Failure → Server → ℕ → Option (Result (List ℕ) Error) → List ActiveJob → Type 0
ReceivesBy Sync failure s id given new = ((told : Error) × HasNoStreams s told × (given ≡ Some (Err told))) × (new ≡ s.jobs.list)
ReceivesBy Async failure s id given new =
    ReceivesFrom failure s.jobs.list id (Some given) new
    ⊎ (((error : Error) × (told : Error) × (unreceivable s.jobs id ≡ Some error) × IsTold error told × (given ≡ Some (Err told))) × (new ≡ s.jobs.list))

-- Holds if this is the result of a call to receive, and nothing else changed.
pub record ReceivesOne {O I : Type 0} (old : ServerCore O I) (id : ℕ) (given : Option (Result (List ℕ) Error)) (new : ServerCore O I) : Type 0 where
  pub own : ReceivesBy old.state.rules old.connection.failure old.state id given new.state.jobs.list
  pub same : new ≡ record old { state = record old.state { jobs = record old.state.jobs { list = new.state.jobs.list } } }

-- Returns the core after the receiver of a job was dropped. The job is no longer one for which something came.
abbrev pub unheard : {O I : Type 0} → ServerCore O I → ℕ → ServerCore O I
unheard core id = record core {
  state = record core.state {
    jobs = record core.state.jobs { list = on_mail id without_receiver core.state.jobs.list };
    heard = remove_key (is_at (nat_cmp id)) core.state.heard;
  };
}

-- ---- a stream that ends

-- Holds if this is a frame that closes a stream, without an item.
pub record IsCloseFrame (k : ℕ) (f : Queued) : Type 0 where
  pub stream_id : f.message.header.stream_id ≡ k
  pub type_ : f.message.header.type_ ≡ MESSAGE_TYPE_DATA
  pub flags : f.message.header.flags ≡ close_flags
  pub ticket : f.ticket ≡ None
  pub is_unary_request : f.is_unary_request ≡ false
  pub owner : f.owner ≡ k

-- Holds if a stream's end was sent: a frame that closes the stream, or a response.
abbrev pub SendsEndFrame : {O : Type 0} → OutboundTransform O → Outbox O → ℕ → Option Response → Outbox O → Type 0
SendsEndFrame out old k None new = (frame : Queued) × IsCloseFrame k frame × SendsOne out old frame [] new
SendsEndFrame out old k (Some r) new = (sent : List Sent) × Responds Async (safe_limit out old.half) k r sent × SendsAll out old sent new

-- Holds if a stream's end was sent, by its handler's result. An error is answered by its text, in a valid response.
abbrev pub SendsEnd : {O : Type 0} → OutboundTransform O → Outbox O → ℕ → Result (Option Response) Error → Outbox O → Type 0
SendsEnd out old k (Ok end) new = SendsEndFrame out old k end new
SendsEnd out old k (Err error) new = (r : Response) × IsErrorResponse error r × SendsEndFrame out old k (Some r) new × IsResponse r

-- Holds if the stream of a job that was taken ended with this result. The job and its receiver are gone.
pub record EndsStream {O I : Type 0} (out : OutboundTransform O) (old : ServerCore O I) (id : ℕ) (end : Result (Option Response) Error) (new : ServerCore O I) : Type 0 where
  pub alive : old.connection.failure ≡ None
  pub rules : old.state.rules ≡ Async
  pub job : ActiveJob
  pub ends : EndsOne old.state.jobs.list id job new.state.jobs.list
  pub stream : is_stream job.body ≡ true
  pub sends : SendsEnd out old.connection.outbox job.header.stream_id end new.connection.outbox
  pub same : new ≡ record old {
    state = record old.state {
      jobs = record old.state.jobs { list = new.state.jobs.list };
      heard = remove_key (is_at (nat_cmp id)) old.state.heard;
    };
    connection = record old.connection { outbox = new.connection.outbox };
  }

-- Returns the error that there is no such job.
abbrev pub unknown_job : Error
unknown_job = Others (codes "unknown job")

-- Holds if no stream's job of this id was taken.
abbrev pub IsNoStream : List ActiveJob → ℕ → Type 0
IsNoStream jobs id = IsUnknown jobs id ⊎ ((job : ActiveJob) × IsTaken jobs id job × (is_stream job.body ≡ false))

-- Holds if the connection hasn't failed and the rules have streams, but no stream's job of this id was taken.
pub record HasNoStream {O I : Type 0} (old : ServerCore O I) (id : ℕ) (told : Error) : Type 0 where
  pub alive : old.connection.failure ≡ None
  pub rules : old.state.rules ≡ Async
  pub unknown : IsNoStream old.state.jobs.list id
  pub is_told : IsTold unknown_job told

-- Holds if an end can't be sent, with this error. For a frame that closes the stream there is no room, the half refuses it, or memory is
-- refused. A response can't be sent for its own reasons.
abbrev pub IsUnconcluded : {O : Type 0} → OutboundTransform O → Outbox O → ℕ → Result (Option Response) Error → Error → Type 0
IsUnconcluded out outbox k (Ok None) told =
    ((free outbox.queue < needed out outbox.half []) × (told ≡ NoRoom))
    ⊎ ((needed out outbox.half [] ≤ free outbox.queue)
    × ((frame : Queued) × (why : List ℕ) × IsCloseFrame k frame × out.refuses outbox.half [] (associated frame.message.header) why × IsTold (Others (unsealed_text why)) told))
    ⊎ (told ≡ NoMemory)
IsUnconcluded out outbox k (Ok (Some r)) told = IsUnsent Async out outbox k r told
IsUnconcluded out outbox k (Err error) told = ((r : Response) × IsErrorResponse error r × IsUnsent Async out outbox k r told) ⊎ (told ≡ NoMemory)

-- Holds if the connection hasn't failed and a stream's job was taken, but its end can't be sent.
pub record HasUnconcluded {O I : Type 0} (out : OutboundTransform O) (old : ServerCore O I) (id : ℕ) (end : Result (Option Response) Error) (told : Error) : Type 0 where
  pub alive : old.connection.failure ≡ None
  pub rules : old.state.rules ≡ Async
  pub job : ActiveJob
  pub at : IsTaken old.state.jobs.list id job
  pub stream : is_stream job.body ≡ true
  pub unconcluded : IsUnconcluded out old.connection.outbox job.header.stream_id end told

-- Holds if the end of a stream may be refused with this error.
abbrev pub RefusesEnd : {O I : Type 0} → OutboundTransform O → ServerCore O I → ℕ → Result (Option Response) Error → Error → Type 0
RefusesEnd out old id end told =
    IsFailed old.connection.failure told ⊎ ((old.connection.failure ≡ None) × HasNoStreams old.state told) ⊎ HasNoStream old id told ⊎ HasUnconcluded out old id end told

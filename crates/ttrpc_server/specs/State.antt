-- The state of a server core, without its connection: the methods and streams that it has, its jobs that weren't answered, and those that
-- expired.
-- Source: PROTOCOL.md of ttrpc, "RPC", "Request" and "Response".
use Rattle.std.specs.Prelude.{◌≡◌, ◌⊎◌, ◌≢◌, ◌<◌, ◌≤◌, ℕ, ◌+◌, ◌&&◌, ◌||◌, List, [], ◌∷◌, ◌++◌, filter, map, if◌then◌else◌, nat_eq, Option, None, Some, is_some, Bool, true, false, not}
use Rattle.std.specs.List.{list_any, AllByRecursion}
use Rattle.std.specs.Map.{lookup}
use Rattle.std.specs.Option.{option_map_or}
use Rattle.std.specs.Str.{bytes_eq}
use Rattle.ttrpc_server.specs.Types.{MessageHeader, Request, ActiveJob, Body, Unary, Stream, Mail, Job, Rules, Sync, Async}
use Rattle.std.specs.BTreeSet.{insert_key}
use Rattle.std.specs.Ordering.{nat_cmp}
use Rattle.ttrpc_proto.specs.declared.framing.header.TheConstants.{FLAG_REMOTE_CLOSED}
use Rattle.ttrpc_connection.specs.Deadlines.{deadline_of}
use Rattle.ttrpc_connection.specs.Mail.{opened_with, with_thing}
use Rattle.ttrpc_connection.specs.Things.{data_thing, has_flag, opening_thing}

-- ---- methods and streams

-- The names under the names of services.
abbrev pub Names : Type 0
Names = List (List ℕ × List (List ℕ))

-- Returns true if the service of the first name has the second name.
abbrev pub has_name : Names → List ℕ → List ℕ → Bool
has_name services service name = option_map_or (λ names. list_any (bytes_eq name) names) (lookup (bytes_eq service) services) false

-- Holds if there is one more name, if it wasn't there, and nothing else changed.
abbrev pub AddsName : Names → List ℕ → List ℕ → Names → Type 0
AddsName old service name new = (s n : List ℕ) → has_name new s n ≡ ((bytes_eq s service && bytes_eq n name) || has_name old s n)

-- Returns true if a service of this name is there, with names or without.
abbrev pub knows : Names → List ℕ → Bool
knows services service = is_some (lookup (bytes_eq service) services)

-- Holds if there is one more service, if it wasn't there, and the others are as before.
abbrev pub AddsService : Names → List ℕ → Names → Type 0
AddsService old service new = (s : List ℕ) → knows new s ≡ (bytes_eq s service || knows old s)

-- The methods and streams that a server has.
pub record Services : Type 0 where
  pub methods : Names
  pub streams : Names
  -- true if a request that opens a stream brings no item if it is bare, as `is_bare` of the connection's specs defines it; peers written in
  -- Go send such requests
  pub bare_openings : Bool

-- Returns no methods and no streams.
abbrev pub no_services : Services
no_services = record { methods = []; streams = []; bare_openings = false }

-- Returns true if a service has this method.
abbrev pub has_method : Services → List ℕ → List ℕ → Bool
has_method services service method = has_name services.methods service method

-- Returns true if a service has this stream.
abbrev pub has_stream : Services → List ℕ → List ℕ → Bool
has_stream services service stream = has_name services.streams service stream

-- Returns true if a server has this service.
abbrev pub has_service : Services → List ℕ → Bool
has_service services service = knows services.methods service || knows services.streams service

-- ---- jobs

-- Returns the deadline of a job, if there is one.
abbrev pub deadline_in : Body → Option ℕ
deadline_in (Unary deadline) = deadline
deadline_in (Stream mail) = None

-- Returns true if a job is a stream's.
abbrev pub is_stream : Body → Bool
is_stream (Unary deadline) = false
is_stream (Stream mail) = true

-- Returns the body of a unary job that is made at this moment. Under sync rules it has no deadline.
abbrev pub unary_body : Rules → ℕ → Request → Body
unary_body Sync now request = Unary None
unary_body Async now request = Unary (deadline_of now request.timeout_nano)

-- The jobs of a server.
pub record JobList : Type 0 where
  -- the id of the last job that was made, 0 before the first
  pub last : ℕ
  -- the jobs that weren't answered, by rising id; a job that was taken no longer has its request
  pub list : List ActiveJob
  -- the stream id of the newest request, the last that was above all before it; none before the first, and under sync rules
  pub newest : Option ℕ

-- Returns an empty list of jobs.
abbrev pub no_jobs : JobList
no_jobs = record { last = 0; list = []; newest = None }

-- Holds if the ids rise, from above the lower number to at most the upper one.
abbrev pub Rising : ℕ → List ActiveJob → ℕ → Type 0
Rising low [] high = low ≤ high
Rising low (j ∷ js) high = (low < j.id) × Rising j.id js high

-- Returns the state of one stream id: its jobs that weren't answered.
abbrev pub jobs_at : List ActiveJob → ℕ → List ActiveJob
jobs_at jobs k = filter (λ j. nat_eq j.header.stream_id k) jobs

-- Returns true if a job waits to be handed out.
abbrev pub waits : ActiveJob → Bool
waits j = is_some j.request

-- Holds if no job waits.
abbrev pub NoneWaits : List ActiveJob → Type 0
NoneWaits jobs = AllByRecursion (λ (j : ActiveJob). j.request ≡ None) jobs

-- Returns a job as it is made.
abbrev pub new_job : ℕ → MessageHeader → Request → Body → ActiveJob
new_job id header request body = record { id = id; header = header; request = Some request; body = body }

-- Returns the jobs after a job was made, which waits.
abbrev pub with_job : JobList → MessageHeader → Request → Body → JobList
with_job s header request body = record s { last = s.last + 1; list = s.list ++ new_job (s.last + 1) header request body ∷ [] }

-- Returns the job of this id, waiting or taken, if there is one.
abbrev pub job_at : List ActiveJob → ℕ → Option ActiveJob
job_at [] id = None
job_at (j ∷ js) id = if nat_eq j.id id then Some j else job_at js id

-- Returns the body of a job after this change of its mailbox, if the job is a stream's.
abbrev pub with_mail : (Mail → Mail) → Body → Body
with_mail change (Unary deadline) = Unary deadline
with_mail change (Stream mail) = Stream (change mail)

-- Returns the job, with its mailbox changed if it has this id.
abbrev pub changed_at : ℕ → (Mail → Mail) → ActiveJob → ActiveJob
changed_at id change j = if nat_eq j.id id then record j { body = with_mail change j.body } else j

-- Returns the jobs, with the mailbox of the one of this id changed.
abbrev pub on_mail : ℕ → (Mail → Mail) → List ActiveJob → List ActiveJob
on_mail id change jobs = map (changed_at id change) jobs

-- Returns the job, with its mailbox changed if it has this stream id.
abbrev pub changed_under : ℕ → (Mail → Mail) → ActiveJob → ActiveJob
changed_under k change j = if nat_eq j.header.stream_id k then record j { body = with_mail change j.body } else j

-- Returns the jobs, with the mailboxes of those of a stream id changed.
abbrev pub on_stream : ℕ → (Mail → Mail) → List ActiveJob → List ActiveJob
on_stream k change jobs = map (changed_under k change) jobs

-- Holds if the first of the jobs that wait was handed out.
pub record HandsOne (old : List ActiveJob) (handed : Job) (new : List ActiveJob) : Type 0 where
  pub job : ActiveJob
  pub front : List ActiveJob
  pub back : List ActiveJob
  pub was : old ≡ front ++ job ∷ back
  pub id : handed.id ≡ job.id
  pub header : handed.header ≡ job.header
  pub stream : handed.stream ≡ is_stream job.body
  pub request : job.request ≡ Some handed.request
  pub first : NoneWaits front
  pub jobs : new ≡ front ++ record job { request = None } ∷ back

-- Holds if the job has this id.
pub record IsJob (jobs : List ActiveJob) (id : ℕ) (job : ActiveJob) : Type 0 where
  pub front : List ActiveJob
  pub back : List ActiveJob
  pub is : jobs ≡ front ++ job ∷ back
  pub is_job : job.id ≡ id

-- Holds if the job has this id and was taken.
pub record IsTaken (jobs : List ActiveJob) (id : ℕ) (job : ActiveJob) : Type 0 where
  pub front : List ActiveJob
  pub back : List ActiveJob
  pub is : jobs ≡ front ++ job ∷ back
  pub is_job : job.id ≡ id
  pub taken : job.request ≡ None

-- Holds if no job of this id was taken and is still to be answered.
abbrev pub IsUnknown : List ActiveJob → ℕ → Type 0
IsUnknown jobs id = AllByRecursion (λ (j : ActiveJob). j.id ≡ id → j.request ≢ None) jobs

-- Holds if no unary job of this id was taken: no job of this id was, or under async rules a stream's.
abbrev pub IsNoUnary : Rules → List ActiveJob → ℕ → Type 0
IsNoUnary Sync jobs id = IsUnknown jobs id
IsNoUnary Async jobs id = IsUnknown jobs id ⊎ ((job : ActiveJob) × IsTaken jobs id job × (is_stream job.body ≡ true))

-- Holds if a job that was taken is gone.
pub record EndsOne (old : List ActiveJob) (id : ℕ) (job : ActiveJob) (new : List ActiveJob) : Type 0 where
  pub at : IsTaken old id job
  pub jobs : new ≡ at.front ++ at.back

-- ---- the whole state

-- The state of a server without its connection.
pub record Server : Type 0 where
  pub rules : Rules
  pub services : Services
  pub jobs : JobList
  -- the streams' jobs for which something came, and that weren't reported since, by rising id
  pub heard : List ℕ
  -- the ids of jobs that were taken and expired, and that weren't reported yet, in the order in which they expired
  pub expired : List ℕ
  -- true if the server takes no more input
  pub draining : Bool

-- Returns a server that has made no job.
abbrev pub new_server : Rules → Services → Server
new_server rules services = record { rules = rules; services = services; jobs = no_jobs; heard = []; expired = []; draining = false }

-- Returns a server that has seen this newest request.
abbrev pub with_newest : Server → Option ℕ → Server
with_newest s newest = record s { jobs = record s.jobs { newest = newest } }

-- Returns the expired jobs that are still to be reported after a job was made: none if there was no other job.
abbrev pub told_left : List ActiveJob → List ℕ → List ℕ
told_left [] expired = []
told_left (j ∷ js) expired = expired

-- Returns a server that made a job, which waits.
abbrev pub with_made : Server → MessageHeader → Request → Body → Server
with_made s header request body = record s { jobs = with_job s.jobs header request body; expired = told_left s.jobs.list s.expired }

-- Returns the jobs for which something came, with the first of these added.
abbrev pub heard_with : List ActiveJob → List ℕ → List ℕ
heard_with [] heard = heard
heard_with (j ∷ js) heard = insert_key nat_cmp heard j.id

-- Returns the mailbox after data under this header were put in.
abbrev pub brought_by : MessageHeader → List ℕ → Mail → Mail
brought_by h payload m = with_thing m (data_thing h.stream_id h.flags payload) (has_flag FLAG_REMOTE_CLOSED h.flags)

-- Returns the server after data came for the stream of their id. The stream's mailbox has them, and its job is one for which something
-- came.
abbrev pub put_in : Server → MessageHeader → List ℕ → Server
put_in s h payload = record s {
  jobs = record s.jobs { list = on_stream h.stream_id (brought_by h payload) s.jobs.list };
  heard = heard_with (jobs_at s.jobs.list h.stream_id) s.heard;
}

-- Returns a request without its payload.
abbrev pub without_payload : Request → Request
without_payload r = record r { payload = [] }

-- Returns the body of a stream's job that is made of a request of these flags and this payload, which bring the first thing.
abbrev pub stream_body : Bool → ℕ → List ℕ → Body
stream_body bare flags payload = Stream (opened_with (opening_thing bare flags payload) (has_flag FLAG_REMOTE_CLOSED flags))

-- Returns true if a server still takes input.
abbrev pub takes_on : Server → Bool
takes_on s = not s.draining

-- Returns the server with this list of jobs.
abbrev pub with_list : Server → List ActiveJob → Server
with_list s list = record s { jobs = record s.jobs { list = list } }

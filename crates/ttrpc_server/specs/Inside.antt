-- The effects of the parts of a call, which its users need not read.
-- Source: this project's.
use Rattle.std.specs.Prelude.{◌≡◌, ◌⊎◌, ◌<◌, ◌≤◌, ◌+◌, ◌-◌, ◌^◌, ℕ, List, [], ◌∷◌, ◌++◌, Option, None, Some, if◌then◌else◌}
use Rattle.ttrpc_server.specs.Types.{Error, Others, MemoryRefused, NoRoom as RoomWanted, Response, OutboundTransform, Failure, JobIdsUsedUp, NoMemoryLeft, Outbox, ActiveJob, Rules, Async}
use Rattle.ttrpc_connection.specs.Failure.{IsTold}
use Rattle.ttrpc_connection.specs.Frames.{Sent, SendsAll, safe_limit}
use Rattle.ttrpc_secure.specs.Context.Texts.{unsafe_payload_text, unsealed_text}
use Rattle.ttrpc_server.specs.declared.replies.Unsent.{Unsent}
use Rattle.ttrpc_server.specs.declared.replies.Unsent.TheVariants.{AboveLimit, NoRoom, Unsealed, NoMemory}
use Rattle.ttrpc_server.specs.Protocol.{ExpireAll, IsUsedUp, IsAboveLimit, IsUnsealed, LacksRoom, SendsOwnAnswer, advice, due_jobs, fitted, response_room, response_size, timeout_response, timeout_room, told_with}
use Rattle.ttrpc_server.specs.declared.expiry.StopReason.{StopReason}
use Rattle.ttrpc_server.specs.declared.expiry.StopReason.TheVariants.{NoRoom as Full, NoMemory as Starved}
use Rattle.ttrpc_proto.specs.Framing.Queue.{free}
use Rattle.ttrpc_server.specs.Kept.{Expiring, Indexed, Loses}
use Rattle.ttrpc_server.specs.State.{IsJob, JobList, Rising, Server, deadline_in, waits}
use Rattle.ttrpc_server.specs.Table.{Row}

-- ---- jobs in their map

-- Returns each job under its id.
abbrev pub keyed : List ActiveJob → List (ℕ × ActiveJob)
keyed [] = []
keyed (j ∷ js) = (j.id, j) ∷ keyed js

-- Returns the ids of the jobs that wait.
abbrev pub ids_waiting : List ActiveJob → List ℕ
ids_waiting [] = []
ids_waiting (j ∷ js) = if waits j then j.id ∷ ids_waiting js else ids_waiting js

-- Holds if these are the jobs under their ids, which rise up to the last that was given, and the ids of those that wait.
pub record AreJobs (last : ℕ) (entries : List (ℕ × ActiveJob)) (waiting : List ℕ) : Type 0 where
  pub list : List ActiveJob
  pub are : entries ≡ keyed list
  pub rising : Rising 0 list last
  pub wait : waiting ≡ ids_waiting list

-- Holds if no job is made for this reason: memory was refused, or no id is left.
abbrev pub FailsToMake : JobList → Failure → Type 0
FailsToMake old failure = (failure ≡ NoMemoryLeft) ⊎ ((failure ≡ JobIdsUsedUp) × (old.last ≡ 2 ^ 64 - 1))

-- ---- the frames that are sent

-- Holds if frames with this property were sent.
abbrev pub SendsSome : {O : Type 0} → OutboundTransform O → Outbox O → (List Sent → Type 0) → Outbox O → Type 0
SendsSome out old P new = (sent : List Sent) × P sent × SendsAll out old sent new

-- Holds if the answer that is sent is the core's own, if there is one, or else nothing.
abbrev pub SendsAnswer : {O : Type 0} → Rules → OutboundTransform O → O → ℕ → Option Response → List Sent → Type 0
SendsAnswer rules out o k None sent = sent ≡ []
SendsAnswer rules out o k (Some r) sent = SendsOwnAnswer rules out o k r sent

-- Holds if this is the reason why a response isn't sent.
abbrev pub IsUnsentFor : {O : Type 0} → Rules → OutboundTransform O → Outbox O → ℕ → Response → Unsent → Type 0
IsUnsentFor rules out outbox k r (AboveLimit n) = (n ≡ response_size (fitted rules (safe_limit out outbox.half) r)) × IsAboveLimit rules (safe_limit out outbox.half) r
IsUnsentFor rules out outbox k r NoRoom = LacksRoom rules out outbox r
IsUnsentFor rules out outbox k r (Unsealed why) = (response_room rules out outbox.half r ≤ free outbox.queue) × IsUnsealed rules out outbox.half k r why
IsUnsentFor rules out outbox k r NoMemory = Unit {0}

-- Holds if there is room for the response, if it fits into a message.
abbrev pub HasRoom : {O : Type 0} → Rules → OutboundTransform O → Outbox O → Response → Type 0
HasRoom rules out outbox r = response_size (fitted rules (safe_limit out outbox.half) r) ≤ safe_limit out outbox.half → response_room rules out outbox.half r ≤ free outbox.queue

-- Holds if this is the reason why a response isn't written.
abbrev pub IsUnfit : Rules → ℕ → Response → Unsent → Type 0
IsUnfit rules limit r (AboveLimit n) = (n ≡ response_size (fitted rules limit r)) × IsAboveLimit rules limit r
IsUnfit rules limit r NoRoom = ⊥
IsUnfit rules limit r (Unsealed why) = ⊥
IsUnfit rules limit r NoMemory = Unit {0}

-- Holds if this error reports why a response isn't sent.
abbrev pub TellsUnsent : Rules → ℕ → Unsent → Error → Type 0
TellsUnsent rules limit (AboveLimit n) told = IsTold (Others (unsafe_payload_text n limit (advice rules))) told
TellsUnsent rules limit NoRoom told = told ≡ RoomWanted
TellsUnsent rules limit (Unsealed why) told = IsTold (Others (unsealed_text why)) told
TellsUnsent rules limit NoMemory told = told ≡ MemoryRefused

-- Holds if the connection may have to fail at a row for this reason.
abbrev pub FailsOn : Row → Server → Failure → Type 0
FailsOn row old failure = (failure ≡ NoMemoryLeft) ⊎ IsUsedUp row old failure

-- ---- jobs that expire

-- Holds if a job expires at its place. The job is gone and no longer found, is answered, and is to be reported if it was taken. The jobs
-- that are due stay listed.
pub record ExpiresAt {O : Type 0} {id : ℕ} (out : OutboundTransform O) (jobs : JobList) (index : Indexed) (expiring : Expiring) (from : Outbox O)
    (job : ActiveJob) (at : IsJob jobs.list id job) (left : JobList) (less : Indexed) (told : Expiring) (to : Outbox O) : Type 0 where
  pub enough : timeout_room out from.half ≤ free from.queue
  pub left_are : left ≡ record jobs { list = at.front ++ at.back }
  pub loses : Loses index job.header.stream_id id (deadline_in job.body) less
  pub expired : told.expired ≡ told_with job expiring.expired
  pub due : told.due ≡ expiring.due
  pub room : expiring.room ≤ told.room + 1
  pub answers : SendsSome out from (SendsOwnAnswer Async out from.half job.header.stream_id timeout_response) to

-- Holds if no more jobs expire for this reason.
abbrev pub IsStop : {O : Type 0} → OutboundTransform O → Outbox O → StopReason → Type 0
IsStop out outbox Full = free outbox.queue < timeout_room out outbox.half
IsStop out outbox Starved = timeout_room out outbox.half ≤ free outbox.queue

-- Holds if some of the due jobs have expired, and others are left, for this reason.
pub record StopsExpiring {O : Type 0} (out : OutboundTransform O) (old : Server) (from : Outbox O) (now : ℕ) (stop : StopReason) (new : Server) (to : Outbox O) : Type 0 where
  pub expired : List ActiveJob
  pub first : ActiveJob
  pub others : List ActiveJob
  pub due : due_jobs now old.jobs.list ≡ expired ++ first ∷ others
  pub expire : ExpireAll out old from expired new to
  pub why : IsStop out to stop

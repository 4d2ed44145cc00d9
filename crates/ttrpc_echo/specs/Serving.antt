-- How the echo goes on, one front of the input at a time.
-- Source: this project's.
use Rattle.std.specs.Prelude.{false, ◌≡◌, ◌⊎◌, ℕ, ◌+◌, ◌≤◌, ◌^◌, List, [], ◌++◌, length, take, codes, Option, None}
use Rattle.std.specs.Io.KnownBytes.{Appends}
use Rattle.ttrpc_proto.specs.declared.error.Error.{Error}
use Rattle.ttrpc_proto.specs.declared.error.Error.TheVariants.{Others, NoMemory}
use Rattle.ttrpc_proto.specs.declared.framing.frame.Incoming.{Incoming}
use Rattle.ttrpc_proto.specs.Framing.Frames.{Held, Holds, Fed, nothing}
use Rattle.ttrpc_proto.specs.Framing.Queue.{IsQueue, free, unsent}
use Rattle.ttrpc_proto.specs.declared.framing.header.TheConstants.{MESSAGE_HEADER_LENGTH, MESSAGE_LENGTH_MAX}
use Rattle.ttrpc_secure.specs.declared.plain.Plain.{Plain}
use Rattle.ttrpc_secure.specs.Halves.{RefusesNothing}
use Rattle.ttrpc_secure.specs.Plain.{Keeps}
use Rattle.ttrpc_secure.specs.declared.transform.OutboundTransform.{Ghosts as OutboundTransform}
use Rattle.ttrpc_secure.specs.declared.transform.InboundTransform.{Ghosts as InboundTransform}
use Rattle.ttrpc_server.specs.declared.job.Job.{Job}
use Rattle.ttrpc_server.specs.declared.rules.Rules.TheVariants.{Sync}
use Rattle.ttrpc_server.specs.declared.server.ServerCore.{ServerCore}
use Rattle.ttrpc_server.specs.Protocol.{Answers, Hands}
use Rattle.ttrpc_server.specs.State.{NoneWaits}
use Rattle.ttrpc_echo.specs.Answered.{IsCausePast}
use Rattle.ttrpc_echo.specs.Echo.{AreAnswers, HasEcho, echo_of}

-- the outbound half that leaves data as it is
abbrev pub plain_out : OutboundTransform Plain
plain_out = record { SEALS = false; overhead = λ _. 0; seals = Keeps; refuses = RefusesNothing }

-- the inbound half that leaves data as it is
abbrev pub plain_in : InboundTransform Plain
plain_in = record { opens = Keeps; refuses = RefusesNothing }

-- between two fronts: it takes frames, no job waits or runs, and the connection lives
pub record IsReady (s : ServerCore Plain Plain) : Type 0 where
  pub rules : s.state.rules ≡ Sync
  pub takes : s.state.draining ≡ false
  pub services : HasEcho s.state.services
  pub jobs : s.state.jobs.list ≡ []
  pub alive : s.connection.failure ≡ None
  pub queue : IsQueue s.connection.outbox.queue

-- no job waits, or there is room for the longest answer
abbrev pub MayAnswer : ServerCore Plain Plain → Type 0
MayAnswer s = (s.state.jobs.list ≡ []) ⊎ (MESSAGE_HEADER_LENGTH + MESSAGE_LENGTH_MAX ≤ free s.connection.outbox.queue)

-- a new core: it is ready, it holds no bytes and made no jobs, and nothing is to be written
pub record IsFresh (s : ServerCore Plain Plain) : Type 0 where
  pub ready : IsReady s
  pub held : s.connection.decoder ≡ nothing
  pub last_job : s.state.jobs.last ≡ 0
  pub queue : unsent s.connection.outbox.queue ≡ []

-- the job that waits longest is handed out and echoed
pub record EchoesOne (old new : ServerCore Plain Plain) : Type 0 where
  pub job : Job
  pub mid : ServerCore Plain Plain
  pub hands : Hands old job mid
  pub answers : Answers plain_out mid job.id (echo_of job.request) new

-- the job that waits is echoed, or none waits and nothing changed
abbrev pub Echoes : ServerCore Plain Plain → ServerCore Plain Plain → Type 0
Echoes old new = ((new ≡ old) × NoneWaits old.state.jobs.list) ⊎ EchoesOne old new

-- a front was fed, and its frames are answered after the unsent bytes
pub record Serves (old : ServerCore Plain Plain) (front : List ℕ) (new : ServerCore Plain Plain) : Type 0 where
  pub frames : List Incoming
  pub answers : List ℕ
  pub fed : Fed old.connection.decoder front frames new.connection.decoder
  pub are_answers : AreAnswers frames answers
  pub more : unsent new.connection.outbox.queue ≡ unsent old.connection.outbox.queue ++ answers
  pub jobs : new.state.jobs.last ≤ old.state.jobs.last + length frames

-- the piece has enough frames that job ids are used up
abbrev pub UsesUp : ServerCore Plain Plain → List ℕ → Type 0
UsesUp old piece = (before : List ℕ) → Holds old.connection.decoder before → (frames : List Incoming) × (new : Held) × Fed old.connection.decoder piece frames new × (2 ^ 64 ≤ old.state.jobs.last + length frames)

-- why a piece isn't served to its end
abbrev pub IsStop : ServerCore Plain Plain → List ℕ → Error → Type 0
IsStop old piece e = (e ≡ NoMemory) ⊎ ((e ≡ Others (codes "job ids are used up")) × UsesUp old piece)

-- The bytes that the writer took are no longer unsent.
pub record WritesOut (old : ServerCore Plain Plain) (holding : Option (List ℕ)) (new : ServerCore Plain Plain) (holds : Option (List ℕ)) : Type 0 where
  pub bytes : List ℕ
  pub sent : unsent old.connection.outbox.queue ≡ bytes ++ unsent new.connection.outbox.queue
  pub wrote : Appends holding holds bytes
  pub held : new.connection.decoder ≡ old.connection.decoder
  pub last_job : new.state.jobs.last ≡ old.state.jobs.last

-- A piece was served, and all of its answers were written.
pub record PassesOn (old : ServerCore Plain Plain) (held : Option (List ℕ)) (piece : List ℕ) (new : ServerCore Plain Plain) (holds : Option (List ℕ)) : Type 0 where
  pub frames : List Incoming
  pub answers : List ℕ
  pub fed : Fed old.connection.decoder piece frames new.connection.decoder
  pub are_answers : AreAnswers frames answers
  pub wrote : Appends held holds answers
  pub jobs : new.state.jobs.last ≤ old.state.jobs.last + length frames

-- A piece wasn't passed on to its end, for this reason: a beginning of the answers to its frames was written.
pub record PassesPart (old : ServerCore Plain Plain) (held : Option (List ℕ)) (piece : List ℕ) (e : Error) (holds : Option (List ℕ)) : Type 0 where
  pub frames : List Incoming
  pub after : Held
  pub answers : List ℕ
  pub count : ℕ
  pub fed : Fed old.connection.decoder piece frames after
  pub are_answers : AreAnswers frames answers
  pub wrote : Appends held holds (take count answers)
  pub cause : IsCausePast old.state.jobs.last e frames

-- Why a call on the stream of a job isn't for it, and why its end isn't sent.
use Rattle.ttrpc_server.proofs.Words.{◌≡◌, ◌≤◌, inl, inr, ℕ, [], Bool, true, Option, Some, None, refl, ActiveJob, Error, JobList, Outbox, OutboundTransform, Queued}
use Rattle.std.specs.Option.{option_map}
use Rattle.ttrpc_server.specs.State.{is_stream, job_at}
use Rattle.std.proofs.Common.{Ok}
use Rattle.ttrpc_secure.specs.Halves.{MayFail}
use Rattle.ttrpc_proto.specs.Framing.Queue.{free}
use Rattle.ttrpc_secure.specs.Sends.{associated, needed}
use Rattle.ttrpc_secure.specs.declared.transform.TransformError.{TransformError}
use Rattle.ttrpc_secure.specs.declared.transform.TransformError.TheVariants.{NoMemory, Refused}
use Rattle.ttrpc_connection.specs.Inside.{IsUnsentBy}
use Rattle.ttrpc_server.specs.Streaming.{IsCloseFrame, IsUnconcluded, astray, was_made}

-- the stream's id of a job, and whether it is a stream's
abbrev pub place_in : ActiveJob → ℕ × Bool
place_in j = (j.header.stream_id, is_stream j.body)

none_of_none : (o : Option ActiveJob) → None ≡ option_map place_in o → o ≡ None
none_of_none None e = refl
none_of_none (Some j) e = cc

-- its job was made, and has ended
pub has_ended : (ended : Error) (jobs : JobList) (id : ℕ) → None ≡ option_map place_in (job_at jobs.list id) → was_made jobs id ≡ true → astray ended (job_at jobs.list id) (was_made jobs id) ≡ Some ended
has_ended ended jobs id none made = rw (none_of_none (job_at jobs.list id) none, made) refl

-- ---- a close that the half doesn't seal

pub close_refused : {O : Type 0} (out : OutboundTransform O) (o : Outbox O) (k : ℕ) (frame : Queued) (error : TransformError) (told : Error) → IsCloseFrame k frame → needed out o.half [] ≤ free o.queue
    → MayFail out.refuses o.half [] (associated frame.message.header) error → IsUnsentBy error told → IsUnconcluded out o k (Ok None) told
close_refused out o k frame (Refused why) told is room refuses unsent = inr (inl (room, (frame, why, is, refuses, unsent)))
close_refused out o k frame NoMemory told is room refuses unsent = inr (inr unsent)

-- When there was room for data, and how data that the half doesn't seal are refused.
use Rattle.ttrpc_connection.proofs.Words.{◌≡◌, ◌<◌, ◌≤◌, ◌+◌, ℕ, List, length, inl, inr, Error, Outbox, OutboundTransform, Queued, safe_limit}
use Rattle.ttrpc_secure.specs.Halves.{MayFail}
use Rattle.std.proofs.Common.{Result, Err}
use Rattle.std.proofs.lemmas.Bool.{cases_lt}
use Rattle.ttrpc_proto.specs.Framing.Queue.{free}
use Rattle.ttrpc_secure.specs.Sends.{associated, needed}
use Rattle.ttrpc_secure.specs.declared.sending.SendError.{SendError}
use Rattle.ttrpc_secure.specs.declared.sending.SendError.TheVariants.{Failed, NoRoom}
use Rattle.ttrpc_secure.specs.declared.transform.TransformError.{TransformError}
use Rattle.ttrpc_secure.specs.declared.transform.TransformError.TheVariants.{NoMemory, Refused}
use Rattle.ttrpc_connection.specs.Inside.{IsUnsentBy}
use Rattle.ttrpc_connection.specs.Items.{IsDataFrame, RefusesData, last_ticket}

-- there was room for data that the half was asked to seal
pub room_there : {A O : Type 0} (out : OutboundTransform O) (old : Outbox O) (plain : List ℕ) (r : Result A SendError) (error : TransformError) → r ≡ Err (Failed error) → length plain ≤ safe_limit out old.half
    → ((length plain ≤ safe_limit out old.half) × (free old.queue < needed out old.half plain) → r ≡ Err NoRoom) → needed out old.half plain ≤ free old.queue
room_there out old plain r error is fits full = elim (cases_lt (free old.queue) (needed out old.half plain)) [ inl lacks ↦ absurd (let e = full (fits, lacks) in cc) | inr le ↦ le ]

pub data_refused : {O : Type 0} (out : OutboundTransform O) (advice : List ℕ) (old : Outbox O) (id flags : ℕ) (plain : List ℕ) (frame : Queued) (error : TransformError) (told : Error)
    → old.tickets < last_ticket → length plain ≤ safe_limit out old.half → needed out old.half plain ≤ free old.queue → IsDataFrame id flags (old.tickets + 1) frame
    → MayFail out.refuses old.half plain (associated frame.message.header) error → IsUnsentBy error told → RefusesData out advice old id flags plain told
data_refused out advice old id flags plain frame (Refused why) told left fits room is refuses unsent =
    inr (inr (inr (inr (inl (record { has_ticket = left; fits = fits; room = room; frame = frame; is_frame = is; why = why; refuses = refuses; is_told = unsent })))))
data_refused out advice old id flags plain frame NoMemory told left fits room is refuses unsent = inr (inr (inr (inr (inr unsent))))

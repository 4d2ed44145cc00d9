-- The errors of a connection's context that doesn't open or seal, and the frames that it queues.
-- Source: upstream's documentation of `ConnectionContext`, but for the order of refusals, which is this project's.
use Rattle.std.specs.Prelude.{◌≡◌, ◌⊎◌, ◌≤◌, ◌<◌, ℕ, Bool, List, [], length, if◌then◌else◌, nat_eq, None, false}
use Rattle.ttrpc_proto.specs.declared.framing.header.MessageHeader.{MessageHeader}
use Rattle.ttrpc_proto.specs.declared.framing.header.TheConstants.{MESSAGE_LENGTH_MAX}
use Rattle.ttrpc_proto.specs.Framing.Header.Oversize.{oversize_error}
use Rattle.ttrpc_proto.specs.declared.error.Error.{Error}
use Rattle.ttrpc_proto.specs.declared.error.Error.TheVariants.{Others, NoMemory, NoRoom}
use Rattle.ttrpc_proto.specs.declared.framing.gen_message.GenMessage.{GenMessage}
use Rattle.ttrpc_proto.specs.declared.framing.outgoing.Queued.{Queued}
use Rattle.ttrpc_proto.specs.Framing.Queue.{Queue, free}
use Rattle.ttrpc_secure.specs.declared.transform.InboundTransform.{Ghosts as InboundTransform}
use Rattle.ttrpc_secure.specs.declared.transform.OutboundTransform.{Ghosts as OutboundTransform}
use Rattle.ttrpc_secure.specs.declared.sending.SendError.{SendError}
use Rattle.ttrpc_secure.specs.declared.sending.SendError.TheVariants.{TooLong, Failed}
use Rattle.ttrpc_secure.specs.declared.sending.SendError.TheVariants.{NoRoom as Full}
use Rattle.ttrpc_secure.specs.declared.transform.TransformError.TheVariants.{Refused, NoMemory as Starved}
use Rattle.ttrpc_secure.specs.Halves.{Refusals}
use Rattle.ttrpc_secure.specs.Sends.{needed, safe_limit}
use Rattle.ttrpc_secure.specs.Context.Texts.{unsafe_payload_text, unsealed_text, unopened_text}
use Rattle.ttrpc_secure.specs.Context.Told.{IsTold}

-- Holds if the half may refuse the bytes for some reason, and the error has this text with the reason, or is NoMemory.
abbrev pub TellsRefusal : {S : Type 0} → Refusals S → S → List ℕ → List ℕ → (List ℕ → List ℕ) → Error → Type 0
TellsRefusal refuses s bytes aad text e = (why : List ℕ) × refuses s bytes aad why × IsTold (Others (text why)) e

-- Holds if opening the bytes may fail with this error, and leave the half in the state t. Either memory is refused or the half refuses
-- the bytes, and the half is unchanged. Or the half opened the bytes to more than a message may have, and has changed.
abbrev pub FailsToOpen : {I : Type 0} → InboundTransform I → Bool → I → List ℕ → List ℕ → I → Error → Type 0
FailsToOpen half rpc_error s bytes aad t e =
    ((t ≡ s) × ((e ≡ NoMemory) ⊎ TellsRefusal half.refuses s bytes aad unopened_text e))
    ⊎ ((opened : List ℕ) × half.opens s bytes aad opened t × (MESSAGE_LENGTH_MAX < length opened) × IsTold (oversize_error rpc_error (length opened)) e)

-- Returns the error for n bytes above the safe limit. If sealing adds nothing, it is the error for a message that is too long.
abbrev pub limit_error : Bool → ℕ → ℕ → ℕ → List ℕ → Error
limit_error rpc_error overhead limit n advice = if nat_eq overhead 0 then oversize_error rpc_error n else Others (unsafe_payload_text n limit advice)

-- Holds if sealing the bytes may fail with this error: memory is refused, the bytes are above the safe limit, or they aren't and the
-- half refuses them.
abbrev pub FailsToSeal : {O : Type 0} → OutboundTransform O → Bool → List ℕ → O → List ℕ → List ℕ → Error → Type 0
FailsToSeal half rpc_error advice s bytes aad e =
    (e ≡ NoMemory)
    ⊎ ((safe_limit half s < length bytes) × IsTold (limit_error rpc_error (half.overhead s) (safe_limit half s) (length bytes) advice) e)
    ⊎ ((length bytes ≤ safe_limit half s) × TellsRefusal half.refuses s bytes aad unsealed_text e)

-- Holds if sealing and queuing the bytes may fail with this error. Memory is refused, or the bytes are above the safe limit. Otherwise
-- the queue lacks room for them, or it has room and the half refuses them.
abbrev pub FailsToSend : {O : Type 0} → OutboundTransform O → Bool → List ℕ → O → Queue → List ℕ → List ℕ → Error → Type 0
FailsToSend half rpc_error advice s q bytes aad e =
    (e ≡ NoMemory)
    ⊎ ((safe_limit half s < length bytes) × IsTold (limit_error rpc_error (half.overhead s) (safe_limit half s) (length bytes) advice) e)
    ⊎ ((length bytes ≤ safe_limit half s) × (free q < needed half s bytes) × (e ≡ NoRoom))
    ⊎ ((length bytes ≤ safe_limit half s) × (needed half s bytes ≤ free q) × TellsRefusal half.refuses s bytes aad unsealed_text e)

-- Holds if the half sealed bytes that are within the safe limit, and the sealed bytes are no longer than a message may be.
abbrev pub Seals : {O : Type 0} → OutboundTransform O → O → List ℕ → List ℕ → List ℕ → O → Type 0
Seals half s bytes aad sealed t = (length bytes ≤ safe_limit half s) × half.seals s bytes aad sealed t × (length sealed ≤ MESSAGE_LENGTH_MAX)

-- Returns the message with another payload, and with the payload's length in the header.
abbrev pub carrying : GenMessage → List ℕ → GenMessage
carrying m payload = record { header = record m.header { length = length payload }; payload = payload }

-- Returns a frame with this header and no payload. The frame has no ticket, and isn't a unary request's.
abbrev pub ownerless_frame : MessageHeader → Queued
ownerless_frame h = record { message = record { header = h; payload = [] }; ticket = None; is_unary_request = false; owner = 0 }

-- The empty message: its header has only zeros, and its payload has no bytes.
abbrev pub no_message : GenMessage
no_message = record { header = record { length = 0; stream_id = 0; type_ = 0; flags = 0 }; payload = [] }

-- ---- not needed by users

-- Holds if this is the error for n bytes that weren't sent, for this reason.
abbrev pub TellsUnsent : {O : Type 0} → OutboundTransform O → Bool → List ℕ → O → ℕ → SendError → Error → Type 0
TellsUnsent half rpc_error advice s n TooLong e = IsTold (limit_error rpc_error (half.overhead s) (safe_limit half s) n advice) e
TellsUnsent half rpc_error advice s n Full e = e ≡ NoRoom
TellsUnsent half rpc_error advice s n (Failed (Refused why)) e = IsTold (Others (unsealed_text why)) e
TellsUnsent half rpc_error advice s n (Failed Starved) e = e ≡ NoMemory

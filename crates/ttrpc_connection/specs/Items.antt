-- Data of a stream, which are an item or the close after all items: how they are sent, and why they are refused.
-- Source: PROTOCOL.md of ttrpc, "Data" and "Streaming"; errors and texts: the Rust crate; their order: this project's.
use Rattle.std.specs.Prelude.{◌≡◌, ◌⊎◌, ◌<◌, ◌≤◌, ◌+◌, ◌-◌, ◌^◌, ℕ, List, length, codes, Some, false}
use Rattle.ttrpc_proto.specs.declared.framing.header.TheConstants.{FLAG_NO_DATA, FLAG_REMOTE_CLOSED, MESSAGE_TYPE_DATA}
use Rattle.ttrpc_proto.specs.Framing.Header.Oversize.{oversize_text}
use Rattle.ttrpc_proto.specs.declared.error.Error.TheVariants.{NoMemory, NoRoom, Others}
use Rattle.ttrpc_secure.specs.Context.Texts.{unsafe_payload_text, unsealed_text}
use Rattle.ttrpc_proto.specs.Framing.Queue.{free}
use Rattle.ttrpc_secure.specs.Sends.{associated, needed}
use Rattle.ttrpc_connection.specs.Types.{Error, MESSAGE_LENGTH_MAX, Outbox, OutboundTransform, Queued}
use Rattle.ttrpc_connection.specs.Failure.{IsTold}
use Rattle.ttrpc_connection.specs.Frames.{SendsOne, safe_limit}

-- Returns the flags of a frame that states that no more items come.
abbrev pub close_flags : ℕ
close_flags = FLAG_REMOTE_CLOSED + FLAG_NO_DATA

-- Holds if this is a data frame of a stream.
pub record IsDataFrame (id flags ticket : ℕ) (f : Queued) : Type 0 where
  pub stream_id : f.message.header.stream_id ≡ id
  pub type_ : f.message.header.type_ ≡ MESSAGE_TYPE_DATA
  pub flags_are : f.message.header.flags ≡ flags
  pub ticket_is : f.ticket ≡ Some ticket
  pub is_unary_request : f.is_unary_request ≡ false
  pub owner : f.owner ≡ id

-- Returns the greatest ticket.
abbrev pub last_ticket : ℕ
last_ticket = 2 ^ 64 - 1

-- Holds if data were sent in a frame of these flags, with this ticket.
pub record SendsData {O : Type 0} (out : OutboundTransform O) (old : Outbox O) (id flags : ℕ) (plain : List ℕ) (ticket : ℕ) (new : Outbox O) : Type 0 where
  pub ticket_is : ticket ≡ old.tickets + 1
  pub in_range : ticket ≤ last_ticket
  pub fits : length plain ≤ safe_limit out old.half
  pub frame : Queued
  pub is_frame : IsDataFrame id flags ticket frame
  pub sends : SendsOne out old frame plain new

-- ---- why data are refused: the first of these that applies

-- Holds if the data are longer than a message may be.
pub record AreTooLong (plain : List ℕ) (told : Error) : Type 0 where
  pub above : MESSAGE_LENGTH_MAX < length plain
  pub is_told : IsTold (Others (oversize_text (length plain))) told

-- Holds if the data aren't too long, but no ticket is left.
pub record HaveNoTicket {O : Type 0} (old : Outbox O) (plain : List ℕ) (told : Error) : Type 0 where
  pub short : length plain ≤ MESSAGE_LENGTH_MAX
  pub used_up : old.tickets ≡ last_ticket
  pub is_told : IsTold (Others (codes "tickets are used up")) told

-- Holds if a ticket is left, but the data are above the safe limit.
pub record AreAboveLimit {O : Type 0} (out : OutboundTransform O) (advice : List ℕ) (old : Outbox O) (plain : List ℕ) (told : Error) : Type 0 where
  pub short : length plain ≤ MESSAGE_LENGTH_MAX
  pub has_ticket : old.tickets < last_ticket
  pub above : safe_limit out old.half < length plain
  pub is_told : IsTold (Others (unsafe_payload_text (length plain) (safe_limit out old.half) advice)) told

-- Holds if the data are within the limit, but the queue lacks room for them.
pub record HaveNoRoom {O : Type 0} (out : OutboundTransform O) (old : Outbox O) (plain : List ℕ) (told : Error) : Type 0 where
  pub has_ticket : old.tickets < last_ticket
  pub fits : length plain ≤ safe_limit out old.half
  pub lacks : free old.queue < needed out old.half plain
  pub is_told : told ≡ NoRoom

-- Holds if the queue has room, but the half refuses the data for this reason.
pub record AreUnsealed {O : Type 0} (out : OutboundTransform O) (old : Outbox O) (id flags : ℕ) (plain : List ℕ) (told : Error) : Type 0 where
  pub has_ticket : old.tickets < last_ticket
  pub fits : length plain ≤ safe_limit out old.half
  pub room : needed out old.half plain ≤ free old.queue
  pub frame : Queued
  pub is_frame : IsDataFrame id flags (old.tickets + 1) frame
  pub why : List ℕ
  pub refuses : out.refuses old.half plain (associated frame.message.header) why
  pub is_told : IsTold (Others (unsealed_text why)) told

-- Holds if the data are refused with this error, for one of these reasons or because memory was refused.
abbrev pub RefusesData : {O : Type 0} → OutboundTransform O → List ℕ → Outbox O → ℕ → ℕ → List ℕ → Error → Type 0
RefusesData out advice old id flags plain told =
    AreTooLong plain told ⊎ HaveNoTicket old plain told ⊎ AreAboveLimit out advice old plain told ⊎ HaveNoRoom out old plain told ⊎ AreUnsealed out old id flags plain told
    ⊎ (told ≡ NoMemory)

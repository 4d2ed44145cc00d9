-- The effect of a whole frame.
-- Source: this project's.
use Rattle.std.specs.Prelude.{◌≡◌, ◌≤◌, ℕ, List, [], ◌∷◌, length}
use Rattle.ttrpc_connection.specs.Types.{MESSAGE_LENGTH_MAX, MessageHeader, Incoming, Queued, OutboundTransform, InboundTransform, InboundResult, TooLong, Opened, Refused, Outbox}
use Rattle.ttrpc_proto.specs.declared.framing.frame.Incoming.TheVariants.{Frame, Oversize}
use Rattle.ttrpc_proto.specs.Framing.Queue.{free, ticket_after, with_frame, with_payload}
use Rattle.ttrpc_secure.specs.Sends.{associated, needed}
pub use Rattle.ttrpc_secure.specs.Sends.{safe_limit}

-- Returns the header of a frame, also of one that is too long.
abbrev pub header_of_frame : Incoming → MessageHeader
header_of_frame (Frame m) = m.header
header_of_frame (Oversize h) = h

-- Holds if this is the result of the inbound half for a frame. A frame that is too long doesn't pass the half.
abbrev pub Opens : {I : Type 0} → InboundTransform I → I → Incoming → InboundResult → I → Type 0
Opens half before (Oversize _) opening after = (opening ≡ TooLong) × (after ≡ before)
Opens half before (Frame m) TooLong after = ⊥
Opens half before (Frame m) (Opened plain) after = half.opens before m.payload (associated m.header) plain after
Opens half before (Frame m) (Refused why) after = half.refuses before m.payload (associated m.header) why × (after ≡ before)

-- A frame that was sent, without its payload, and the data that were sealed for it.
pub record Sent : Type 0 where
  pub frame : Queued
  pub plain : List ℕ

-- Holds if this frame was sent. The half sealed the data, and the queue ends with the frame and the sealed data. If the frame has a ticket,
-- it is the last that was given. There was room for as many bytes as sealing may need.
pub record SendsOne {O : Type 0} (half : OutboundTransform O) (old : Outbox O) (frame : Queued) (plain : List ℕ) (new : Outbox O) : Type 0 where
  pub sealed : List ℕ
  pub seal : half.seals old.half plain (associated frame.message.header) sealed new.half
  pub fits : length sealed ≤ MESSAGE_LENGTH_MAX
  pub room : needed half old.half plain ≤ free old.queue
  pub queue : new.queue ≡ with_frame old.queue (with_payload frame sealed)
  pub tickets : new.tickets ≡ ticket_after frame.ticket old.tickets

-- Holds if these frames were sent, in order.
abbrev pub SendsAll : {O : Type 0} → OutboundTransform O → Outbox O → List Sent → Outbox O → Type 0
SendsAll half old [] new = new ≡ old
SendsAll half old (s ∷ sent) new = (mid : Outbox _) × SendsOne half old s.frame s.plain mid × SendsAll half mid sent new

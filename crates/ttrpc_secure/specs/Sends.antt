-- Sealing data and queuing them.
-- Source: PROTOCOL.md of ttrpc, "Message Frame".
use Rattle.std.specs.Prelude.{◌≡◌, ◌≤◌, ◌+◌, ◌-◌, ◌∷◌, ◌++◌, [], ℕ, List, length}
use Rattle.ttrpc_proto.specs.declared.framing.header.MessageHeader.{MessageHeader}
use Rattle.ttrpc_proto.specs.declared.framing.header.TheConstants.{MESSAGE_HEADER_LENGTH, MESSAGE_LENGTH_MAX}
use Rattle.ttrpc_proto.specs.declared.framing.outgoing.Queued.{Queued}
use Rattle.ttrpc_proto.specs.Framing.Header.{digits_of}
use Rattle.ttrpc_proto.specs.Framing.Queue.{Queue, free, with_frame, with_payload}
use Rattle.ttrpc_secure.specs.declared.sending.DataParts.{DataParts}
use Rattle.ttrpc_secure.specs.declared.transform.OutboundTransform.{Ghosts as OutboundTransform}

-- Returns the data in the three parts, one after the other.
abbrev pub joined : DataParts → List ℕ
joined parts = parts.before.now ++ (parts.payload.now ++ parts.after.now)

-- Returns the bytes of a header that a payload is bound to: the stream id, the type and the flags.
abbrev pub associated : MessageHeader → List ℕ
associated h = digits_of h.stream_id ++ h.type_ ∷ h.flags ∷ []

-- Returns the length of the longest data that are sure to fit into a message after sealing.
abbrev pub safe_limit : {O : Type 0} → OutboundTransform O → O → ℕ
safe_limit half s = MESSAGE_LENGTH_MAX - half.overhead s

-- Returns the number of bytes that a frame with the data may need: its header, the data, and the bound on what sealing adds.
abbrev pub needed : {O : Type 0} → OutboundTransform O → O → List ℕ → ℕ
needed half s plain = MESSAGE_HEADER_LENGTH + length plain + half.overhead s

-- Returns the frame without its payload.
abbrev pub emptied : Queued → Queued
emptied f = record f { message = record f.message { payload = [] } }

-- Holds if the half sealed the data under these associated bytes, and the frame with the sealed data follows the others in the queue.
-- There was room for all bytes that the frame might have needed.
pub record SendsUnder {O : Type 0} (half : OutboundTransform O) (s : O) (q : Queue) (frame : Queued) (plain aad : List ℕ) (t : O) (r : Queue) : Type 0 where
  pub sealed : List ℕ
  pub seal : half.seals s plain aad sealed t
  pub fits : length sealed ≤ MESSAGE_LENGTH_MAX
  pub room : needed half s plain ≤ free q
  pub queue : r ≡ with_frame q (with_payload frame sealed)

-- Holds if the half sealed the data under the associated bytes of the frame's header, and the frame was queued as in `SendsUnder`.
abbrev pub Sends : {O : Type 0} → OutboundTransform O → O → Queue → Queued → List ℕ → O → Queue → Type 0
Sends half s q frame plain t r = SendsUnder half s q frame plain (associated frame.message.header) t r

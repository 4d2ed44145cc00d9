-- The sources at which calls on streams wait.
-- Source: this project's.
use Rattle.std.specs.Prelude.{◌≡◌, ℕ, Option, Some, None}
use Rattle.std.specs.Arc.{arc_value}
use Rattle.ttrpc_polled.specs.declared.streams.inner.StreamInner.{StreamInner}
use Rattle.ttrpc_polled.specs.declared.streams.sender.StreamSender.{StreamSender}
use Rattle.ttrpc_polled.specs.declared.streams.receiver.StreamReceiver.{StreamReceiver}

-- a stream's sender waits at the source of its line
abbrev pub sender_source : {L I : Type 0} → (L → ℕ) → StreamSender L I → ℕ
sender_source came s = came (arc_value (arc_value s.seat).line)

-- a stream's receiver waits at the source of its line, too
abbrev pub receiver_source : {L I : Type 0} → (L → ℕ) → StreamReceiver L I → ℕ
receiver_source came r = came (arc_value r.line)

-- a stream that begins with a request waits at this source for the request
abbrev pub opening_needs : {L I : Type 0} → (L → ℕ) → Option (StreamInner L I) → ℕ → Type 0
opening_needs came (Some stream) s = s ≡ receiver_source came stream.receiver
opening_needs came None s = ⊥

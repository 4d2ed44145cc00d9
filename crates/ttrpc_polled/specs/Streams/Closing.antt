-- A call that closes a stream and then receives: the source at which it waits, and the effect of its step on the core that it is lent.
-- Source: this project's.
use Rattle.std.specs.Prelude.{◌≡◌, ℕ, Option, Some, None, Result, Ok, Err}
use Rattle.ttrpc_proto.specs.declared.error.Error.{Error}
use Rattle.ttrpc_polled.specs.declared.streams.sending.Sending.{Sending}
use Rattle.ttrpc_polled.specs.declared.streams.typed.ClientStreamSender.{ClientStreamSender}
use Rattle.ttrpc_polled.specs.declared.streams.typed.Closing.{Closing}
use Rattle.ttrpc_polled.specs.declared.streams.typed.Closing.TheVariants.{Closes, Receives}
use Rattle.ttrpc_polled.specs.Streams.Needs.{receiver_source, sender_source}

-- the source of the half that the call uses now
abbrev pub closing_source : {Q P L I : Type 0} → (L → ℕ) → ClientStreamSender Q P L I → Closing → ℕ
closing_source came stream (Closes sending) = sender_source came stream.tx.tx
closing_source came stream Receives = receiver_source came stream.rx.rx

-- the answer of the call, and its state then, after this answer of its closing
abbrev pub IsBehindClosing : {T : Type 0} → Option (Result (Unit {0}) Error) → Sending → Option (Result T Error) → Closing → Type 0
IsBehindClosing None sending told at = (told ≡ None) × (at ≡ Closes sending)
IsBehindClosing (Some (Ok _)) sending told at = (told ≡ None) × (at ≡ Receives)
IsBehindClosing (Some (Err e)) sending told at = (told ≡ Some (Err e)) × (at ≡ Receives)

-- The effect of a step: that of its closing, or the call receives.
abbrev pub IsClosingStep : {C T : Type 0} → (C → Sending → Option (Result (Unit {0}) Error) → Sending → C → Type 0) → (C → Option (Result T Error) → C → Type 0)
    → C → Closing → Option (Result T Error) → Closing → C → Type 0
IsClosingStep steps receives old (Closes sending) told at new = (closed : Option (Result (Unit {0}) Error)) × (left : Sending) × steps old sending closed left new × IsBehindClosing closed left told at
IsClosingStep steps receives old Receives told at new = receives old told new × (at ≡ Receives)

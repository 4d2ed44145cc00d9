-- The messages of typed streams: the bytes that are sent for a message, and the result for one that is received.
-- Source: the Rust crate, for the texts.
use Rattle.std.specs.Prelude.{◌≡◌, ◌≢◌, ℕ, List, [], codes, Option, Some, None, Result, Ok, Err, IfOk}
use Rattle.ttrpc_proto.specs.declared.error.Error.{Error}
use Rattle.ttrpc_proto.specs.declared.error.Error.TheVariants.{LocalClosed, NoMemory}
use Rattle.ttrpc_message.specs.Calls.{IsUnwritten, TellsCause, TellsItem, TellsItemOrEnd}
use Rattle.ttrpc_polled.specs.declared.streams.inner.StreamInner.{StreamInner}
use Rattle.ttrpc_polled.specs.declared.streams.items.SSSender.{SSSender}
use Rattle.ttrpc_polled.specs.declared.streams.sending.Sending.{Sending}
use Rattle.ttrpc_polled.specs.declared.streams.sending.Sending.TheVariants.{Sends, Closes, Stalls, Waits, Refused, Done}

-- the call sends the written form of this message, from which it is read again; or it was refused, since the message can't be encoded
abbrev pub IsItemSent : {M E : Type 0} → (M → List ℕ) → (List ℕ → Option M) → (E → Type 0) → (E → Option (List ℕ)) → M → Sending → Type 0
IsItemSent written meaning is_no_memory output m (Sends bytes) = (bytes ≡ written m) × (meaning bytes ≡ Some m)
IsItemSent written meaning is_no_memory output m (Refused e) = IsUnwritten (codes "Encode message failed. ") is_no_memory output (written m) e
IsItemSent written meaning is_no_memory output m Closes = ⊥
IsItemSent written meaning is_no_memory output m (Stalls place item) = ⊥
IsItemSent written meaning is_no_memory output m (Waits ticket) = ⊥
IsItemSent written meaning is_no_memory output m Done = ⊥

-- this is the result for something that the stream gave
abbrev pub GivesItem : {M E : Type 0} → (List ℕ → Option M) → (E → Type 0) → (E → Option (List ℕ)) → Result M Error → Type 0
GivesItem meaning is_no_memory output told = (given : Result (List ℕ) Error) × TellsItem meaning is_no_memory output given told

-- the same, with the end returned as no item
abbrev pub GivesItemOrEnd : {M E : Type 0} → (List ℕ → Option M) → (E → Type 0) → (E → Option (List ℕ)) → Result (Option M) Error → Type 0
GivesItemOrEnd meaning is_no_memory output told = (given : Result (List ℕ) Error) × TellsItemOrEnd meaning is_no_memory output given told

-- the value of the request with which a stream begins, or the error if its bytes mean none
abbrev pub TellsRequest : {M E : Type 0} → (List ℕ → Option M) → (E → Type 0) → (E → Option (List ℕ)) → List ℕ → Result M Error → Type 0
TellsRequest meaning is_no_memory output bytes (Ok m) = meaning bytes ≡ Some m
TellsRequest meaning is_no_memory output bytes (Err e) = (e ≢ NoMemory → meaning bytes ≡ None) × TellsCause [] is_no_memory output e

-- a stream that begins with a request gives the request's value and the half by which to send; after that it is closed
abbrev pub OpeningGives : {L I Q P : Type 0} → (List ℕ → Option Q) → Option (StreamInner L I) → Result (Q × SSSender P L I) Error → Type 0
OpeningGives meaning (Some stream) r = IfOk r (λ opened. ((bytes : List ℕ) × (meaning bytes ≡ Some opened.0)) × (opened.1.tx ≡ stream.sender))
OpeningGives meaning None r = r ≡ Err LocalClosed

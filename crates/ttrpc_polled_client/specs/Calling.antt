-- Calls and streams of a service: the requests with which they begin, and the results of calls.
-- Source: this project's.
use Rattle.std.specs.Prelude.{◌≡◌, ◌⊎◌, ⊤, ℕ, List, [], ◌++◌, codes, Bool, Option, Some, None, Result, Err, IfOk, IsSomeAnd}
use Rattle.std.specs.Arc.{arc_value}
use Rattle.ttrpc_proto.specs.declared.error.Error.{Error}
use Rattle.ttrpc_proto.specs.declared.error.Error.TheVariants.{LocalClosed}
use Rattle.ttrpc_proto.specs.declared.messages.Request.{Request}
use Rattle.ttrpc_message.specs.Calls.{IsUnwritten}
use Rattle.ttrpc_message.specs.Metadata.{Carried, pairs_of}
use Rattle.ttrpc_polled.specs.Sockets.{IsNotMade}
use Rattle.ttrpc_polled.specs.declared.streams.inner.StreamInner.{StreamInner}
use Rattle.ttrpc_polled_client.specs.declared.asked.Asked.TheVariants.{Asks}
use Rattle.ttrpc_polled_client.specs.declared.calls.Calling.{Calling}
use Rattle.ttrpc_polled_client.specs.declared.calls.Calling.TheVariants.{Done, Refused, Waits}
use Rattle.ttrpc_polled_client.specs.declared.calls.OpeningAt.{OpeningAt}
use Rattle.ttrpc_polled_client.specs.declared.calls.OpeningAt.TheVariants as opening
use Rattle.ttrpc_polled_client.specs.declared.line.ClientLine.{ClientLine}
use Rattle.ttrpc_polled_client.specs.declared.opening.Opening.{Opening}
use Rattle.ttrpc_polled_client.specs.declared.opening.Prepared.{Prepared}

-- the request that calls a service's method with this payload, and with the context's metadata and time limit
abbrev pub asks_for : List ℕ → List ℕ → Carried → List ℕ → Request
asks_for service method context payload = record { service = service; method = method; payload = payload; timeout_nano = context.timeout_nano; metadata = pairs_of context.metadata }

-- why a call isn't made: its value can't be encoded, or memory was refused, or the system refused
abbrev pub IsNotCalled : {E : Type 0} → (E → Type 0) → (E → Option (List ℕ)) → List ℕ → Error → Type 0
IsNotCalled is_no_memory output written e = IsUnwritten (codes "Encoding request ") is_no_memory output written e ⊎ IsNotMade e

-- The call is to be made with this request on this line, and its answer goes into this value; or the call was refused for this error.
abbrev pub IsCalling : {O I P : Type 0} → ClientLine O I → Request → P → (Error → Type 0) → Calling O I P → Type 0
IsCalling line request reply refuses (Waits call into) = (arc_value call.line ≡ line) × ((now : ℕ) × (call.asked ≡ Asks request now)) × (into ≡ reply)
IsCalling line request reply refuses (Refused e) = refuses e
IsCalling line request reply refuses Done = ⊥

-- The result of the call. It is the refusal if the call was refused. Otherwise, without an error, it is the value that the written reply,
-- followed by the payload of a response, means.
abbrev pub CallGives : {O I P : Type 0} → (P → List ℕ) → (List ℕ → Option P) → Calling O I P → Result P Error → Type 0
CallGives written meaning (Waits call reply) r = IfOk r (λ value. (payload : List ℕ) × (meaning (written reply ++ payload) ≡ Some value))
CallGives written meaning (Refused e) r = r ≡ Err e
CallGives written meaning Done r = r ≡ Err LocalClosed

-- the parts with which a stream is opened: this opening, and this line for each half
abbrev pub IsPrepared : {O I : Type 0} → ClientLine O I → Opening → Prepared O I → Type 0
IsPrepared line opens p = (p.opening ≡ opens) × (arc_value p.sends ≡ line) × (arc_value p.receives ≡ line)

-- The stream is to be opened by this opening on this line, or it was refused for this error.
abbrev pub IsOpening : {R O I : Type 0} → ClientLine O I → Opening → (Error → Type 0) → OpeningAt R O I → Type 0
IsOpening line opens refuses (opening.Opens stream client) = IsSomeAnd stream.prepared (IsPrepared line opens)
IsOpening line opens refuses (opening.Refused e) = refuses e
IsOpening line opens refuses opening.Done = ⊥

-- a stream that was opened has both its halves, each on its share of the line and both under one id; after its result the future is closed
abbrev pub StreamGives : {O I : Type 0} → Option (Prepared O I) → Result (StreamInner (ClientLine O I) ℕ) Error → Type 0
StreamGives (Some p) r = IfOk r (λ stream. ((arc_value stream.sender.seat).line ≡ p.sends) × (stream.receiver.line ≡ p.receives) × ((arc_value stream.sender.seat).id ≡ stream.receiver.id))
StreamGives None r = r ≡ Err LocalClosed

-- the result of a service's stream that was refused is the refusal; after its result the future is closed
abbrev pub ServiceStreamGives : {R O I K : Type 0} → OpeningAt R O I → Result K Error → Type 0
ServiceStreamGives (opening.Opens stream client) r = ⊤
ServiceStreamGives (opening.Refused e) r = r ≡ Err e
ServiceStreamGives opening.Done r = r ≡ Err LocalClosed

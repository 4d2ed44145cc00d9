-- The result of the value of a stream that is opened, when it is stepped on a core that is lent.
-- Source: this project's.
use Rattle.std.specs.Prelude.{◌≡◌, ℕ, Option, Some, None, Result, Ok, Err}
use Rattle.std.specs.Arc.{arc_value}
use Rattle.ttrpc_proto.specs.declared.error.Error.{Error}
use Rattle.ttrpc_proto.specs.declared.error.Error.TheVariants.{LocalClosed, NoMemory}
use Rattle.ttrpc_secure.specs.declared.transform.OutboundTransform.{Ghosts as OutboundTransform}
use Rattle.ttrpc_client.specs.declared.client.ClientCore.{ClientCore}
use Rattle.ttrpc_polled.specs.declared.streams.inner.StreamInner.{StreamInner}
use Rattle.ttrpc_polled_client.specs.Steps.{Opens}
use Rattle.ttrpc_polled_client.specs.declared.line.ClientLine.{ClientLine}
use Rattle.ttrpc_polled_client.specs.declared.opening.Prepared.{Prepared}

-- the stream of this id, each half with its share of the line
abbrev pub IsStreamOf : {O I : Type 0} → Prepared O I → ℕ → StreamInner (ClientLine O I) ℕ → Type 0
IsStreamOf p id stream = ((arc_value stream.sender.seat).line ≡ p.sends) × ((arc_value stream.sender.seat).id ≡ id)
    × (stream.receiver.line ≡ p.receives) × (stream.receiver.id ≡ id)

-- The result for this answer of the core: the stream, unless memory for its halves was refused; or the refusal.
abbrev pub GivesStream : {O I : Type 0} → Prepared O I → Result ℕ Error → Result (StreamInner (ClientLine O I) ℕ) Error → Type 0
GivesStream p (Ok id) (Ok stream) = IsStreamOf p id stream
GivesStream p (Ok id) (Err e) = e ≡ NoMemory
GivesStream p (Err e) given = given ≡ Err e

-- The one core call was made. A stream that was opened before is over, and the core wasn't asked.
abbrev pub IsNewStream : {O I : Type 0} → OutboundTransform O → ClientCore O I → Option (Prepared O I) → Result (StreamInner (ClientLine O I) ℕ) Error → ClientCore O I → Type 0
IsNewStream out old None given new = (given ≡ Err LocalClosed) × (new ≡ old)
IsNewStream out old (Some p) given new = (told : Result ℕ Error)
    × Opens out old p.opening.request p.opening.streaming_client p.opening.streaming_server told new × GivesStream p told given

-- The next actions after the request of a client's call was queued.
-- Source: this project's.
use Rattle.std.specs.Prelude.{◌≡◌, ℕ, true, false, if◌then◌else◌}
use Rattle.ttrpc_proto.specs.declared.messages.Request.{Request}
use Rattle.ttrpc_secure.specs.declared.transform.OutboundTransform.{Ghosts as OutboundTransform}
use Rattle.ttrpc_connection.specs.Deadlines.{deadline_of}
use Rattle.ttrpc_client.specs.Protocol.{Requests}
use Rattle.ttrpc_sync.specs.Queuing.{queuing_of, turn_after_queuing}
use Rattle.ttrpc_sync_client.specs.Held.{shape_of}
use Rattle.ttrpc_sync_client.specs.ReadTurns.{begun, is_alone, may_write, turn_waking, wakes_thread}
use Rattle.ttrpc_sync_client.specs.declared.connection.QueuedCall.{QueuedCall}
use Rattle.ttrpc_sync_client.specs.declared.ports.client.ClientHeld.{ClientHeld}

-- The request of a call was queued at a moment. Its caller waits until the call's deadline, writes for itself if it may, and also reads for
-- itself if it is alone; otherwise the threads that write and read are woken, if needed.
pub record Asks {O I : Type 0} (seals : OutboundTransform O) (old : ClientHeld O I) (request : Request) (now : ℕ) (asked : QueuedCall) (new : ClientHeld O I) : Type 0 where
  pub requests : Requests seals old.core request now asked.waiting.id new.core
  pub deadline : asked.waiting.deadline ≡ deadline_of now request.timeout_nano
  pub alone : asked.waiting.is_alone ≡ is_alone old.reading (shape_of old.core request now new.core)
  pub queued : asked.queued ≡ queuing_of old.turn (may_write (shape_of old.core request now new.core))
  pub turn : new.turn ≡ turn_after_queuing old.turn (may_write (shape_of old.core request now new.core))
  pub wakes : asked.wakes ≡ (if asked.waiting.is_alone then false else wakes_thread (begun old.reading asked.waiting.id false))
  pub reading : new.reading ≡ (if asked.waiting.is_alone then begun old.reading asked.waiting.id true else turn_waking (begun old.reading asked.waiting.id false))

-- Properties of a client, a server and their pipes: neither side has failed, all is open, and nothing is left to be moved.
-- Source: this project's.
use Rattle.std.specs.Prelude.{◌≡◌, [], None, true, false, not}
use Rattle.ttrpc_pair.specs.Net.{Net}

-- Holds if neither side has failed.
pub record Lives {CO CI SO SI : Type 0} (w : Net CO CI SO SI) : Type 0 where
  pub client : w.client.connection.failure ≡ None
  pub server : w.server.connection.failure ≡ None

-- Holds if no pipe is cut, and the server isn't draining.
pub record IsOpen {CO CI SO SI : Type 0} (w : Net CO CI SO SI) : Type 0 where
  pub up : w.up.cut ≡ false
  pub down : w.down.cut ≡ false
  pub takes : not w.server.state.draining ≡ true

-- Holds if no frame is queued, and no byte is in a pipe.
pub record IsEmpty {CO CI SO SI : Type 0} (w : Net CO CI SO SI) : Type 0 where
  pub up_queue : w.client.connection.outbox.queue.frames ≡ []
  pub down_queue : w.server.connection.outbox.queue.frames ≡ []
  pub up : w.up.bytes ≡ []
  pub down : w.down.bytes ≡ []

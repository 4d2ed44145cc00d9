-- The ids of the requests that are in flight to a server.
-- Source: this project's.
use Rattle.std.specs.Prelude.{◌≡◌, ◌++◌, ℕ, List, [], ◌∷◌, Bool, true, false, nat_eq, Option, Some}
use Rattle.ttrpc_pair.specs.Types.{IsAbove, MESSAGE_TYPE_REQUEST}
use Rattle.ttrpc_pair.specs.Net.{Halves, Net}
use Rattle.ttrpc_world_trace.specs.Flight.{AreInFlight, AreLinked, Flying}

-- Returns true if a frame in flight is a request.
abbrev pub is_request : Flying → Bool
is_request x = nat_eq x.frame.message.header.type_ MESSAGE_TYPE_REQUEST

-- Returns the id of the newest request after a frame of this id. The first argument is true if the frame is a request.
abbrev pub newest_behind : Bool → ℕ → Option ℕ → Option ℕ
newest_behind true k newest = Some k
newest_behind false k newest = newest

-- Holds if the ids of the requests among these frames rise, from above the id of the newest request to below the id `next`.
abbrev pub RequestsRise : Option ℕ → List Flying → ℕ → Type 0
RequestsRise newest [] next = IsAbove next newest
RequestsRise newest (x ∷ xs) next =
    let k = x.frame.message.header.stream_id in
    (is_request x ≡ true → IsAbove k newest) × RequestsRise (newest_behind (is_request x) k newest) xs next

-- Holds if the frames `transit` and `queued` are in flight to the server, as bytes and as seals, and the ids of their requests rise.
-- The ids are above that of the newest request that the server has seen, and below the client's next id.
pub record RequestsInFlight {CO CI SO SI : Type 0} (c : Halves CO CI) (s : Halves SO SI) (w : Net CO CI SO SI) : Type 0 where
  pub transit : List Flying
  pub queued : List Flying
  pub bytes : AreInFlight w.server.connection.decoder w.up.bytes w.up.cut w.client.connection.outbox.queue transit queued
  pub seals : AreLinked c.out.seals s.in_.opens s.in_.refuses (transit ++ queued) w.client.connection.outbox.half w.server.connection.inbound
  pub rise : RequestsRise w.server.state.jobs.newest (transit ++ queued) w.client.state.next

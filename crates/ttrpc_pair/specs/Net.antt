-- One client, one server, and the bytes in flight between them.
-- Source: this project's.
use Rattle.std.specs.Prelude.{◌≡◌, ℕ, List, [], Bool, nat_eq}
use Rattle.std.specs.List.{list_any}
use Rattle.ttrpc_secure.specs.declared.transform.OutboundTransform.{Ghosts as OutboundTransform}
use Rattle.ttrpc_secure.specs.declared.transform.InboundTransform.{Ghosts as InboundTransform}
use Rattle.ttrpc_secure.specs.Halves.{IsPaired}
use Rattle.ttrpc_server.specs.declared.rules.Rules.{Rules}
use Rattle.ttrpc_server.specs.declared.server.ServerCore.{ServerCore}
use Rattle.ttrpc_server.specs.Protocol as server
use Rattle.ttrpc_server.specs.State.{Services}
use Rattle.ttrpc_client.specs.declared.client.ClientCore.{ClientCore}
use Rattle.ttrpc_client.specs.declared.kind.ClientKind.{ClientKind}
use Rattle.ttrpc_client.specs.Protocol as client
use Rattle.ttrpc_pair.specs.Pipes.{Pipe, empty_pipe}

-- the ghost functions of a side's outbound and inbound half, by which clauses speak of them
pub record Halves (O I : Type 0) : Type 1 where
  pub out : OutboundTransform O
  pub in_ : InboundTransform I

-- Returns the ghost functions of these two halves in one record.
abbrev pub halves : {O I : Type 0} → OutboundTransform O → InboundTransform I → Halves O I
halves out in_ = record { out = out; in_ = in_ }

-- a client, a server, and the bytes in flight between them
pub record Net (CO CI SO SI : Type 0) : Type 0 where
  pub client : ClientCore CO CI
  pub server : ServerCore SO SI
  -- the bytes in flight to the server
  pub up : Pipe
  -- the bytes in flight to the client
  pub down : Pipe
  -- the moment of the last tick, in nanoseconds, or 0 if there was none
  pub moment : ℕ
  -- the ids of the jobs for which a response was queued by `Respond`; such a job goes on after its response
  pub responded : List ℕ

-- Returns the same pair with this client.
abbrev pub with_client : {CO CI SO SI : Type 0} → Net CO CI SO SI → ClientCore CO CI → Net CO CI SO SI
with_client w c = record w { client = c }

-- Returns the same pair with this server.
abbrev pub with_server : {CO CI SO SI : Type 0} → Net CO CI SO SI → ServerCore SO SI → Net CO CI SO SI
with_server w s = record w { server = s }

-- Returns true if a response was queued for this job by `Respond`.
abbrev pub has_response : {CO CI SO SI : Type 0} → Net CO CI SO SI → ℕ → Bool
has_response w job = list_any (λ j. nat_eq j job) w.responded

-- Holds if nothing has happened yet, and each outbound half is paired with the other side's inbound half.
pub record IsFresh {CO CI SO SI : Type 0} (c : Halves CO CI) (s : Halves SO SI) (w : Net CO CI SO SI) : Type 0 where
  pub kind : ClientKind
  pub first : ℕ
  pub client : w.client ≡ client.new_core kind first w.client.connection.known w.client.connection.outbox.half w.client.connection.inbound
  pub rules : Rules
  pub services : Services
  pub server : w.server ≡ server.new_core rules services w.server.connection.known w.server.connection.outbox.half w.server.connection.inbound
  pub up : w.up ≡ empty_pipe
  pub down : w.down ≡ empty_pipe
  pub moment : w.moment ≡ 0
  pub responded : w.responded ≡ []
  pub up_paired : IsPaired c.out.seals s.in_.opens s.in_.refuses w.client.connection.outbox.half w.server.connection.inbound
  pub down_paired : IsPaired s.out.seals c.in_.opens c.in_.refuses w.server.connection.outbox.half w.client.connection.inbound

-- The sources at which a connection waits that was begun, and its result.
-- Source: this project's.
use Rattle.std.specs.Prelude.{◌≡◌, ℕ, List, Result, Err, IfErr}
use Rattle.std.specs.declared.net.SocketAddr.{SocketAddr}
use Rattle.ttrpc_proto.specs.declared.error.Error.{Error}
use Rattle.ttrpc_proto.specs.declared.error.Error.TheVariants.{LocalClosed}
use Rattle.ttrpc_transport.specs.Sockets.{IsFault}
use Rattle.tokio.specs.Net.{ConnectNeeds, connect_state}
use Rattle.ttrpc_polled.specs.declared.socket.Connecting.{Connecting}
use Rattle.ttrpc_polled.specs.declared.socket.Socket.{Socket}
use Rattle.ttrpc_polled.specs.declared.socket.Connecting.TheVariants.{Connects, Refused, Done}
use Rattle.ttrpc_polled.specs.Sockets.{IsNoTcp, IsTcp}

-- a connection that is under way waits for the system's answer
abbrev pub ConnectingNeeds : Connecting → ℕ → Type 0
ConnectingNeeds (Connects connects) s = ConnectNeeds (connect_state connects) s
ConnectingNeeds (Refused e) s = ⊥
ConnectingNeeds Done s = ⊥

-- the result is a socket, or the system's refusal; an address that was refused has its refusal as the result; after its result a connection
-- is closed
abbrev pub ConnectingGives : Connecting → Result Socket Error → Type 0
ConnectingGives (Connects connects) r = IfErr r IsFault
ConnectingGives (Refused e) r = r ≡ Err e
ConnectingGives Done r = r ≡ Err LocalClosed

-- the connection was begun, and is neither refused nor over
abbrev pub IsUnderWay : Connecting → Type 0
IsUnderWay (Connects connects) = Unit {0}
IsUnderWay (Refused e) = ⊥
IsUnderWay Done = ⊥

-- the connection is begun if the address names an IP address and port; otherwise it is refused
abbrev pub RefusesAddress : List ℕ → Connecting → Type 0
RefusesAddress addr (Connects connects) = (socket : SocketAddr) × IsTcp addr socket
RefusesAddress addr (Refused e) = IsNoTcp addr e
RefusesAddress addr Done = ⊥

-- A client that was made, and the future of its connection.
-- Source: this project's.
use Rattle.std.specs.Prelude.{◌≡◌, [], true, None, Result, Ok, Err, IfErr, codes}
use Rattle.std.specs.Arc.{arc_value}
use Rattle.ttrpc_proto.specs.ErrorText.{IsOthers}
use Rattle.ttrpc_proto.specs.declared.error.Error.{Error}
use Rattle.ttrpc_secure.specs.Hooks.{hook_error_text}
use Rattle.ttrpc_secure.specs.Hooks.Facts.{Facts, facts_of}
use Rattle.ttrpc_secure.specs.declared.hooks.hook_error.HookError.{HookError}
use Rattle.ttrpc_polled.specs.Connecting.{ConnectingGives}
use Rattle.ttrpc_polled.specs.Sockets.{IsNotMade}
use Rattle.ttrpc_polled.specs.declared.link.ConnectionDriver.{ConnectionDriver}
use Rattle.ttrpc_polled.specs.declared.socket.Connecting.{Connecting}
use Rattle.ttrpc_polled.specs.declared.socket.Socket.{Socket}
use Rattle.ttrpc_polled_client.specs.declared.line.ClientLine.{ClientLine}
use Rattle.ttrpc_polled_client.specs.declared.shared.ClientShared.{ClientShared}

-- The client's line and the link share one state. The link is over this reader and writer and has moved nothing, and these are the
-- connection's data.
pub record IsMadeOver {R S W O I : Type 0} (reader : S) (writer : W) (known : Facts) (line : ClientLine O I) (link : ConnectionDriver R S W (ClientShared O I)) : Type 0 where
  pub shared : arc_value link.shared ≡ arc_value line.shared
  pub facts : facts_of line.connection_data.entries ≡ known
  pub reads : (link.read_buffer.reader ≡ reader) × (link.read_buffer.piece ≡ []) × (link.is_reading ≡ true)
  pub writes : (link.write_buffer.writer ≡ writer) × (link.write_buffer.kept ≡ []) × (link.alarm.set_for ≡ None)

-- the hook refused the connection, for a reason that the hook gives
abbrev pub IsRefusedByHook : (HookError → Type 0) → Error → Type 0
IsRefusedByHook gives e = (why : HookError) × gives why × IsOthers (codes "client connect hook failed: ") (hook_error_text why) e

-- a client is made of a socket, if memory and the system allow it; an error in place of the socket is passed on
abbrev pub MakesOf : {A : Type 0} → Result Socket Error → Result A Error → Type 0
MakesOf (Ok socket) r = IfErr r IsNotMade
MakesOf (Err e) r = r ≡ Err e

-- a client that connects has the result for its socket
abbrev pub ConnectGives : {A : Type 0} → Connecting → Result A Error → Type 0
ConnectGives state r = (given : Result Socket Error) × ConnectingGives state given × MakesOf given r

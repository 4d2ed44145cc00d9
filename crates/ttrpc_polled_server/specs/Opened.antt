-- A connection that was opened.
-- Source: this project's.
use Rattle.std.specs.Prelude.{◌≡◌, ◌⊎◌, [], true, false, None, Result, Ok}
use Rattle.std.specs.Arc.{arc_value}
use Rattle.std.specs.declared.io.ErrorKind.TheVariants.{ConnectionAborted, ConnectionReset, HostUnreachable, Interrupted, NetworkDown, NetworkUnreachable}
use Rattle.ttrpc_proto.specs.declared.error.Error.{Error}
use Rattle.ttrpc_proto.specs.declared.error.Error.TheVariants.{LocalClosed, Nix}
use Rattle.ttrpc_secure.specs.Hooks.Facts.{Facts, facts_of}
use Rattle.ttrpc_secure.specs.declared.hooks.HookOutput.{HookOutput}
use Rattle.ttrpc_secure.specs.declared.hooks.hook_error.HookError.{HookError}
use Rattle.ttrpc_polled.specs.Sockets.{IsNotMade}
use Rattle.ttrpc_polled_server.specs.Served.{Served}
use Rattle.ttrpc_polled_server.specs.declared.connection.ServerConnection.{ServerConnection}
use Rattle.ttrpc_polled_server.specs.declared.settings.Settings.{Settings}
use Rattle.ttrpc_polled_server.specs.declared.stop.StopState.{StopState}

-- The connection is over this reader and writer and has moved nothing. It serves these services, with the limits of these settings. It has
-- this data, and stops by this state.
pub record IsOpened {R M T S W O I F G : Type 0} (reader : S) (writer : W) (known : Facts) (services : Served M T) (settings : Settings) (stop : StopState) (c : ServerConnection R M T S W O I F G) : Type 0 where
  pub shared : arc_value c.link.shared ≡ arc_value c.shared
  pub reads : (c.link.read_buffer.reader ≡ reader) × (c.link.read_buffer.piece ≡ []) × (c.link.is_reading ≡ true)
  pub writes : (c.link.write_buffer.writer ≡ writer) × (c.link.write_buffer.kept ≡ []) × (c.link.alarm.set_for ≡ None)
  pub serves : arc_value c.services ≡ services
  pub knows : facts_of (arc_value c.connection_data).entries ≡ known
  pub limit : (c.limit ≡ settings.connection_limit) × (c.half_close ≡ settings.half_close_limit)
  pub stops : arc_value c.connection_slot.stop ≡ stop
  pub goes_on : (c.is_over ≡ false) × (c.is_ending ≡ false) × (c.is_leaving ≡ false)

-- A hook accepted the connection with some output. The connection was opened over two ends, with this output, these services, these
-- settings and this state to stop by.
abbrev pub IsAccepted : {R M T S W O I F G : Type 0} → (Result (HookOutput O I) HookError → Type 0) → Served M T → Settings → StopState → ServerConnection R M T S W O I F G → Type 0
IsAccepted {R} {M} {T} {S} {W} {O} {I} {F} {G} gives services settings stop c =
    (output : HookOutput O I) × gives (Ok output) × ((reader : S) × (writer : W) × IsOpened reader writer (facts_of output.connection_data.entries) services settings stop c)

-- A fault that passes: a signal came, the other side went away, or the network was out of reach.
abbrev pub IsPassing : Error → Type 0
IsPassing e = (e ≡ Nix Interrupted) ⊎ (e ≡ Nix ConnectionAborted) ⊎ (e ≡ Nix ConnectionReset)
    ⊎ (e ≡ Nix NetworkDown) ⊎ (e ≡ Nix NetworkUnreachable) ⊎ (e ≡ Nix HostUnreachable)

-- a connection isn't opened: memory or the system refused, or all connections have ended
abbrev pub IsNotOpened : Error → Type 0
IsNotOpened e = IsNotMade e ⊎ (e ≡ LocalClosed)

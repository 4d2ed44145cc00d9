-- A server as it was built: its settings, its listener, its handlers, its hook and its watch.
-- Source: this project's.
use Rattle.std.specs.Prelude.{◌≡◌, ◌⊎◌, ℕ, List, [], Option, Some, None, option_map, String, if◌then◌else◌}
use Rattle.ttrpc_server.specs.Methods.{AddsAll, Handlers, IsNotAllAdded}
use Rattle.ttrpc_proto.specs.declared.error.Error.{Error}
use Rattle.ttrpc_proto.specs.declared.error.Error.TheVariants.{NoMemory}
use Rattle.ttrpc_sync_server.specs.Settings.{IsNew, started_settings, bound_settings, stopped_settings}
use Rattle.ttrpc_sync_server.specs.declared.settings.Settings.{Settings}
use Rattle.ttrpc_transport.specs.Listeners.{Listens}
use Rattle.ttrpc_transport.specs.Opened.{IsNotOpened}
use Rattle.ttrpc_transport.specs.Sockets.{IsFault}
use Rattle.ttrpc_transport.specs.declared.address.domain.Domain.{Domain}

-- a server: its settings, its listener, the handlers of its methods, its hook, and the watch that learns of its faults
pub record Built (H A W : Type 0) : Type 0 where
  pub settings : Settings
  pub listener : Option Listens
  pub handlers : Handlers H
  pub hook : A
  pub watch : W

-- the settings are those of a new server, and there is no listener and no handler
pub record IsNewServer {H A W : Type 0} (server : Built H A W) : Type 0 where
  pub settings : IsNew server.settings
  pub listener : server.listener ≡ None
  pub handlers : server.handlers ≡ []

-- ---- the results of calls

-- the domain at which the server listens
abbrev pub domain_of : {H A W : Type 0} → Built H A W → Option Domain
domain_of server = option_map (λ listens. listens.domain) server.listener

-- the server with this listener
abbrev pub bound : {H A W : Type 0} → Built H A W → Listens → Built H A W
bound server listener = record server { settings = bound_settings server.settings; listener = Some listener }

-- the server with these handlers added one after the other, each under its path; the rest is unchanged
abbrev pub Registers : {Z H A W : Type 0} → Built H A W → List (String Z × H) → Built H A W → Type 0
Registers server handlers new = AddsAll server.handlers handlers new.handlers × (new ≡ record server { handlers = new.handlers })

-- the server, listening
abbrev pub started : {H A W : Type 0} → Built H A W → Built H A W
started server = record server { settings = started_settings server.settings }

-- the server after it has stopped listening, without a listener; a server that doesn't listen stays as it is
abbrev pub stopped : {H A W : Type 0} → Built H A W → Built H A W
stopped server = if server.settings.is_listening then record server { settings = stopped_settings server.settings; listener = None } else server

-- ---- why a call fails that the settings don't refuse

-- the address names no place, the system refused it, or memory was refused
abbrev pub IsNotBound : List ℕ → Error → Type 0
IsNotBound addr e = IsNotOpened addr e ⊎ (e ≡ NoMemory)

-- one of the handlers isn't added: its text is no path, or memory was refused
abbrev pub IsNotRegistered : {Z H : Type 0} → List (String Z × H) → Error → Type 0
IsNotRegistered handlers e = IsNotAllAdded handlers e ⊎ (e ≡ NoMemory)

-- the system refused a thread, or memory was refused
abbrev pub IsNotStarted : Error → Type 0
IsNotStarted e = IsFault e ⊎ (e ≡ NoMemory)

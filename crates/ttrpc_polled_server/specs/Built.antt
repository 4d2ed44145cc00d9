-- A server as it was built, the results of calls on it, and its refusals.
-- Source: the Rust crate, for the limits and for the text of a server without a listener; this project's, for the rest.
use Rattle.std.specs.Prelude.{◌≡◌, ◌⊎◌, ◌&&◌, ◌+◌, ◌-◌, ◌^◌, min, ℕ, List, [], String, codes, Bool, Option, Some, None, IfSome, IsSome, nat_le, true, false}
use Rattle.std.specs.Duration.{as_nanos}
use Rattle.std.specs.declared.time.Duration.{Duration}
use Rattle.ttrpc_polled.specs.declared.listener.Listener.{Listener}
use Rattle.ttrpc_proto.specs.declared.error.Error.{Error}
use Rattle.ttrpc_proto.specs.declared.error.Error.TheVariants.{NoMemory, Others}
use Rattle.ttrpc_transport.specs.Sockets.{IsFault}
use Rattle.ttrpc_polled_server.specs.Served.{Served, ServesAll}
use Rattle.ttrpc_polled_server.specs.declared.services.Service.{Service}
use Rattle.ttrpc_polled_server.specs.declared.settings.Settings.{Settings}
use Rattle.ttrpc_polled_server.specs.declared.stop.StopState.{StopState}

-- a server: its settings, its listener, its services, its hook, its watch, and the state by which its connections stop
pub record Built (M T A V : Type 0) : Type 0 where
  pub settings : Settings
  pub listener : Option Listener
  pub services : Served M T
  pub hook : A
  pub watch : V
  pub stop : StopState

-- the settings of a new server
pub record IsNewSettings (s : Settings) : Type 0 where
  pub connection : as_nanos s.connection_limit ≡ 5000000000
  pub disconnect : as_nanos s.disconnect_limit ≡ 10000000000
  pub retry : as_nanos s.accept_retry_interval ≡ 10000000000
  pub bare : s.bare_openings ≡ false
  pub half_close : IfSome s.half_close_limit (λ limit. as_nanos limit ≡ 5000000000) × IsSome s.half_close_limit
  pub frame : s.frame_limit ≡ None
  pub jobs : s.waiting_jobs ≡ Some 4096
  pub bytes : s.waiting_bytes ≡ Some 8388608
  pub listening : s.is_listening ≡ false
  pub fixed : s.is_fixed ≡ false

-- the end of a pause that begins at this moment, if it has a limit
abbrev pub pause_end : Option Duration → ℕ → Option ℕ
pause_end (Some limit) now = Some (min (now + min (as_nanos limit) (2 ^ 64 - 1)) (2 ^ 64 - 1))
pause_end None now = None

-- the count is within the limit, if there is one
abbrev pub within : Option ℕ → ℕ → Bool
within (Some most) count = nat_le count most
within None count = true

-- a connection is read if this many jobs and this many bytes wait
abbrev pub has_room : Settings → ℕ → ℕ → Bool
has_room s jobs bytes = within s.waiting_jobs jobs && within s.waiting_bytes bytes

-- a new server
pub record IsNewServer {M T A V : Type 0} (server : Built M T A V) : Type 0 where
  pub settings : IsNewSettings server.settings
  pub listener : server.listener ≡ None
  pub services : server.services ≡ record { methods = []; streams = [] }

module _ {M T A V : Type 0} where
  -- the server with this listener
  abbrev pub with_listener : Built M T A V → Listener → Built M T A V
  with_listener server listener = record server { listener = Some listener }

  -- the server after it has started: its listener is with its connections
  abbrev pub listening : Built M T A V → Built M T A V
  listening server = record server { settings = record server.settings { is_listening = true; is_fixed = true }; listener = None }

  -- the server after it has stopped accepting
  abbrev pub silent : Built M T A V → Built M T A V
  silent server = record server { settings = record server.settings { is_listening = false } }

  -- services were added to the server, and nothing else changed
  pub record Adds {S : Type 0} (old : Built M T A V) (services : List (String S × Service M T)) (new : Built M T A V) : Type 0 where
    pub adds : ServesAll old.services services new.services
    pub same : new ≡ record old { services = new.services }

-- ---- refusals

-- the error of this text, or `NoMemory` if memory for it was refused
abbrev pub IsToldBy : List ℕ → Error → Type 0
IsToldBy text e = (e ≡ Others text) ⊎ (e ≡ NoMemory)

-- the error that refuses more services
abbrev pub IsFixed : Error → Type 0
IsFixed = IsToldBy (codes "services are fixed after start")

-- the error of a server without a listener
abbrev pub IsUnbound : Error → Type 0
IsUnbound = IsToldBy (codes "ttrpc-rust server started with no bound listener")

-- a fault of the system, or memory was refused
abbrev pub IsLack : Error → Type 0
IsLack e = IsFault e ⊎ (e ≡ NoMemory)

-- services aren't added: they are fixed, or memory was refused
abbrev pub IsNotAdded : Settings → Error → Type 0
IsNotAdded s e = ((s.is_fixed ≡ true) × IsFixed e) ⊎ (e ≡ NoMemory)

-- a server doesn't start: it has no listener, or the system or memory failed
abbrev pub IsNotStarted : Option Listener → Error → Type 0
IsNotStarted listener e = ((listener ≡ None) × IsUnbound e) ⊎ IsLack e

-- How a server handles a connection that comes, or a failure to accept one.
-- Source: this project's.
use Rattle.std.specs.Prelude.{◌≡◌, ◌⊎◌, ℕ, List, [], is_some}
use Rattle.std.specs.declared.io.ErrorKind.{ErrorKind}
use Rattle.std.specs.declared.io.ErrorKind.TheVariants.{ConnectionAborted, ConnectionReset, Interrupted}
use Rattle.ttrpc_server.specs.Methods.{Handlers, handler_of}
use Rattle.ttrpc_server.specs.Protocol.{new_core}
use Rattle.ttrpc_server.specs.State.{Services, has_method}
use Rattle.ttrpc_server.specs.declared.rules.Rules.TheVariants.{Sync}
use Rattle.ttrpc_server.specs.declared.server.ServerCore.{ServerCore}

-- a failure to accept after which the server tries again at once: only a signal came, or the other side went away
abbrev pub IsRetriedAtOnce : ErrorKind → Type 0
IsRetriedAtOnce kind = (kind ≡ Interrupted) ⊎ (kind ≡ ConnectionAborted) ⊎ (kind ≡ ConnectionReset)

-- The core of a connection that is served by these handlers. It is a new core under sync rules, with these halves for its bytes. Its
-- services have the handlers' methods and no streams.
pub record IsCoreFor {H O I : Type 0} (handlers : Handlers H) (outbound : O) (inbound : I) (core : ServerCore O I) : Type 0 where
  pub services : Services
  pub methods : (s m : List ℕ) → has_method services s m ≡ is_some (handler_of handlers s m)
  pub streams : services.streams ≡ []
  pub new : core ≡ new_core Sync services [] outbound inbound

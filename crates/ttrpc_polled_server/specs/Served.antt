-- The handlers that a server serves, and how services are added to them.
-- Source: the Rust crate, for what a service has; this project's, for what becomes of a name that stands already.
use Rattle.std.specs.Prelude.{◌≡◌, ℕ, List, [], ◌∷◌, String, string_bytes}
use Rattle.ttrpc_server.specs.Methods.{Handlers, PutsAll}
use Rattle.ttrpc_polled_server.specs.declared.services.Service.{Service}

-- the handlers of methods and of streams
pub record Served (M T : Type 0) : Type 0 where
  pub methods : Handlers M
  pub streams : Handlers T

-- a service's methods and streams are added
pub record ServesOne {M T : Type 0} (old : Served M T) (name : List ℕ) (service : Service M T) (new : Served M T) : Type 0 where
  pub methods : PutsAll old.methods name service.methods.entries new.methods
  pub streams : PutsAll old.streams name service.streams.entries new.streams

-- services are added one after the other
abbrev pub ServesAll : {A M T : Type 0} → Served M T → List (String A × Service M T) → Served M T → Type 0
ServesAll {A} {M} {T} old [] new = new ≡ old
ServesAll {A} {M} {T} old (more ∷ rest) new = (mid : Served M T) × ServesOne old (string_bytes more.0) more.1 mid × ServesAll mid rest new

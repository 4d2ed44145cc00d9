-- The handlers of a server's methods, and their paths.
-- Source: this project's.
use Rattle.std.specs.Prelude.{◌≡◌, ◌≢◌, ◌⊎◌, ◌&&◌, ℕ, List, [], ◌∷◌, ◌++◌, All, Option, Some, String, string_bytes, codes, if◌then◌else◌}
use Rattle.std.specs.Map.{lookup}
use Rattle.std.specs.Option.{option_and_then}
use Rattle.std.specs.Str.{bytes_eq}
use Rattle.ttrpc_server.specs.State.{Names, Services}
use Rattle.ttrpc_server.specs.declared.methods.NameKind.{NameKind}
use Rattle.ttrpc_server.specs.declared.methods.NameKind.TheVariants.{Methods, Streams}
use Rattle.ttrpc_proto.specs.declared.error.Error.{Error}
use Rattle.ttrpc_proto.specs.declared.error.Error.TheVariants.{Others, NoMemory}

-- The handlers under the names of methods, and these under the names of services.
abbrev pub Handlers : Type 0 → Type 0
Handlers H = List (List ℕ × List (List ℕ × H))

-- Returns the handler under a service and a method, if there is one.
abbrev pub handler_of : {H : Type 0} → Handlers H → List ℕ → List ℕ → Option H
handler_of handlers service method = option_and_then (lookup (bytes_eq method)) (lookup (bytes_eq service) handlers)

-- Holds if a handler was put under a service and a method, and the handlers of all other methods are as before.
abbrev pub Puts : {H : Type 0} → Handlers H → List ℕ → List ℕ → H → Handlers H → Type 0
Puts old service method handler new = (s m : List ℕ) → handler_of new s m ≡ (if bytes_eq s service && bytes_eq m method then Some handler else handler_of old s m)

-- Holds if handlers were put one after the other, each under a service and its name.
abbrev pub PutsAll : {A H : Type 0} → Handlers H → List ℕ → List (String A × H) → Handlers H → Type 0
PutsAll {A} {H} old service [] new = new ≡ old
PutsAll {A} {H} old service (more ∷ rest) new = (mid : Handlers H) × Puts old service (string_bytes more.0) more.1 mid × PutsAll mid service rest new

-- Holds if some first elements of the list have this property.
abbrev pub SomeFront : {X : Type 0} → List X → (List X → Type 0) → Type 0
SomeFront {X} xs P = (front : List X) × (rest : List X) × (xs ≡ front ++ rest) × P front

-- ---- the names that a core knows

-- Returns the names of methods, or those of streams.
abbrev pub names_in : NameKind → Services → Names
names_in Methods services = services.methods
names_in Streams services = services.streams

-- Returns the names of the other kind.
abbrev pub others_in : NameKind → Services → Names
others_in Methods services = services.streams
others_in Streams services = services.methods

-- ---- paths

-- Holds if a path is `/SERVICE/METHOD`. The method has no slash, so the last slash divides the two. Either may be empty.
pub record IsPath (path service method : List ℕ) : Type 0 where
  pub whole : path ≡ codes "/" ++ service ++ codes "/" ++ method
  pub plain : All (λ c. c ≢ 47) method

-- Holds if the text is no path.
abbrev pub IsNoPath : List ℕ → Type 0
IsNoPath text = (service method : List ℕ) → ¬ (IsPath text service method)

-- Returns the text that refuses such a text, with the text in it as it is.
abbrev pub no_path_text : List ℕ → List ℕ
no_path_text text = codes "method path " ++ text ++ codes " is not /SERVICE/METHOD"

-- Holds if a handler was put under the service and the method of this path.
abbrev pub Adds : {H : Type 0} → Handlers H → List ℕ → H → Handlers H → Type 0
Adds old path handler new = (service : List ℕ) × (method : List ℕ) × IsPath path service method × Puts old service method handler new

-- Holds if nothing is put under a text, with this error: the text is no path, or memory was refused.
abbrev pub IsNotAdded : List ℕ → Error → Type 0
IsNotAdded text e = (IsNoPath text × (e ≡ Others (no_path_text text))) ⊎ (e ≡ NoMemory)

-- Holds if one of the handlers isn't added, with this error.
pub record IsNotAllAdded {A H : Type 0} (handlers : List (String A × H)) (e : Error) : Type 0 where
  pub before : List (String A × H)
  pub path : String A
  pub handler : H
  pub after : List (String A × H)
  pub all : handlers ≡ before ++ (path, handler) ∷ after
  pub refused : IsNotAdded (string_bytes path) e

-- Holds if handlers were added one after the other, each under its path.
abbrev pub AddsAll : {A H : Type 0} → Handlers H → List (String A × H) → Handlers H → Type 0
AddsAll {A} {H} old [] new = new ≡ old
AddsAll {A} {H} old (more ∷ rest) new = (mid : Handlers H) × Adds old (string_bytes more.0) more.1 mid × AddsAll mid rest new

-- Why a client isn't made.
-- Source: this project's, with the text of the Rust crate `ttrpc`.
use Rattle.std.specs.Prelude.{◌≡◌, ◌⊎◌, ℕ, List, codes}
use Rattle.ttrpc_proto.specs.ErrorText.{IsOthers}
use Rattle.ttrpc_proto.specs.declared.error.Error.{Error}
use Rattle.ttrpc_proto.specs.declared.error.Error.TheVariants.{NoMemory}
use Rattle.ttrpc_secure.specs.Hooks.{hook_error_text}
use Rattle.ttrpc_secure.specs.declared.hooks.hook_error.HookError.{HookError}
use Rattle.ttrpc_transport.specs.Address.Places.{IsNoPlace, IsPlace}
use Rattle.ttrpc_transport.specs.Sockets.{IsFault}
use Rattle.ttrpc_transport.specs.declared.address.place.Place.{Place}

-- the system refused a thread, or memory was refused
abbrev pub IsNotMade : Error → Type 0
IsNotMade e = IsFault e ⊎ (e ≡ NoMemory)

-- the address names a place to connect to
abbrev pub NamesPlace : List ℕ → Type 0
NamesPlace addr = (place : Place) × IsPlace addr place

-- the address names no place, or it names one, but the connection to it or its client couldn't be
-- made
abbrev pub IsNotConnected : List ℕ → Error → Type 0
IsNotConnected addr e = IsNoPlace addr e ⊎ (NamesPlace addr × IsNotMade e)

-- the hook refused the connection, for a reason that the hook gives
abbrev pub IsRefusedByHook : (HookError → Type 0) → Error → Type 0
IsRefusedByHook gives e = (why : HookError) × gives why × IsOthers (codes "client connect hook failed: ") (hook_error_text why) e

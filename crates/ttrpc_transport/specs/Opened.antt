-- The results of binding or connecting a socket by its address.
-- Source: this project's.
use Rattle.std.specs.Prelude.{◌≡◌, ◌⊎◌, ℕ, List}
use Rattle.ttrpc_transport.specs.declared.address.domain.Domain.{Domain}
use Rattle.ttrpc_transport.specs.declared.address.domain.Domain.TheVariants.{Tcp as TcpDomain, Unix as UnixDomain}
use Rattle.ttrpc_transport.specs.declared.address.place.Place.{Place}
use Rattle.ttrpc_transport.specs.declared.address.place.Place.TheVariants.{Tcp, Unix}
use Rattle.ttrpc_transport.specs.Address.Places.{IsPlace, IsNoPlace}
use Rattle.ttrpc_proto.specs.declared.error.Error.{Error}
use Rattle.ttrpc_transport.specs.Sockets.{IsFault}

-- the domain of a socket at this place
abbrev pub place_domain : Place → Domain
place_domain (Tcp _) = TcpDomain
place_domain (Unix _) = UnixDomain

-- the address names a place, and the socket is of the place's domain
abbrev pub IsOpenedAt : List ℕ → Domain → Type 0
IsOpenedAt addr domain = (place : Place) × IsPlace addr place × (domain ≡ place_domain place)

-- the address names no place, or it names one and the system refused
abbrev pub IsNotOpened : List ℕ → Error → Type 0
IsNotOpened addr e = IsNoPlace addr e ⊎ (((place : Place) × IsPlace addr place) × IsFault e)

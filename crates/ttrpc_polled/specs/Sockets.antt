-- The addresses to which a polled socket connects: those of TCP.
-- Source: this project's.
use Rattle.std.specs.Prelude.{◌≡◌, ◌⊎◌, ℕ, List, codes}
use Rattle.std.specs.declared.net.SocketAddr.{SocketAddr}
use Rattle.ttrpc_proto.specs.declared.error.Error.{Error}
use Rattle.ttrpc_proto.specs.declared.error.Error.TheVariants.{NoMemory, Others}
use Rattle.ttrpc_transport.specs.Address.Addresses.{IsAddress}
use Rattle.ttrpc_transport.specs.declared.address.domain.Domain.TheVariants.{Unix as UnixDomain}
use Rattle.ttrpc_transport.specs.Address.Places.{IsNoPlace, IsPlace}
use Rattle.ttrpc_transport.specs.declared.address.place.Place.TheVariants.{Tcp}
use Rattle.ttrpc_transport.specs.Sockets.{IsFault}

-- the address names this IP address and port
abbrev pub IsTcp : List ℕ → SocketAddr → Type 0
IsTcp addr socket = IsPlace addr (Tcp socket)

-- the text for the path of a Unix socket, or `NoMemory` if memory for the text was refused
abbrev pub IsUnsupported : Error → Type 0
IsUnsupported e = (e ≡ Others (codes "async unix sockets are not supported")) ⊎ (e ≡ NoMemory)

-- the address names no place, or the path of a Unix socket
abbrev pub IsNoTcp : List ℕ → Error → Type 0
IsNoTcp addr e = IsNoPlace addr e ⊎ (((name : List ℕ) × IsAddress addr UnixDomain name) × IsUnsupported e)

-- nothing is made over a socket, since memory was refused, or the system refused
abbrev pub IsNotMade : Error → Type 0
IsNotMade e = (e ≡ NoMemory) ⊎ IsFault e

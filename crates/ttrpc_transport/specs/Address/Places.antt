-- The place at which a socket is bound or connected, by its address, and why an address names none.
-- Source: this project's; which texts are an IP address and a port is std's, by `SocketAddr`'s `parse`.
use Rattle.std.specs.Prelude.{◌≡◌, ◌⊎◌, ℕ, List, [], ◌∷◌, ◌++◌, codes, None}
use Rattle.std.specs.Net.Grammar.{IsSocketText}
use Rattle.std.specs.declared.net.SocketAddr.{SocketAddr}
use Rattle.ttrpc_proto.specs.declared.error.Error.{Error}
use Rattle.ttrpc_proto.specs.ErrorText.{IsOthers}
use Rattle.ttrpc_transport.specs.declared.address.domain.Domain.TheVariants.{Unix as UnixDomain, Tcp as TcpDomain, Vsock as VsockDomain}
use Rattle.ttrpc_transport.specs.declared.address.place.Place.{Place}
use Rattle.ttrpc_transport.specs.declared.address.place.Place.TheVariants.{Unix, Tcp}
use Rattle.ttrpc_transport.specs.Address.Addresses.{IsAddress, IsRefusal, IsUnknown, unknown_text}

-- the name is abstract: it is empty, for which the system picks an abstract one, or it begins with `@`
abbrev pub IsAbstract : List ℕ → Type 0
IsAbstract name = (name ≡ []) ⊎ ((rest : List ℕ) × (name ≡ 64 ∷ rest))

-- the address names this place
abbrev pub IsPlace : List ℕ → Place → Type 0
IsPlace addr (Tcp socket) = (part : List ℕ) × IsAddress addr TcpDomain part × IsSocketText part socket
IsPlace addr (Unix name) = IsAddress addr UnixDomain name.now × ¬ (IsAbstract name.now)

-- the part is no IP address and port, and the error begins with this text, or memory for it was refused
abbrev pub IsNoSocketAddr : List ℕ → Error → Type 0
IsNoSocketAddr part e =
    ((socket : SocketAddr) → ¬ (IsSocketText part socket)) × IsOthers (codes "Failed to parse TCP address '" ++ part ++ codes "': ") None e

-- the address names no place, and this is the error
abbrev pub IsNoPlace : List ℕ → Error → Type 0
IsNoPlace addr e =
    (IsUnknown addr × IsRefusal (unknown_text addr) e)
    ⊎ ((part : List ℕ) × IsAddress addr VsockDomain part × IsRefusal (codes "vsock is not supported") e)
    ⊎ ((name : List ℕ) × IsAddress addr UnixDomain name × IsAbstract name × IsRefusal (codes "abstract unix names are not supported") e)
    ⊎ ((part : List ℕ) × IsAddress addr TcpDomain part × IsNoSocketAddr part e)

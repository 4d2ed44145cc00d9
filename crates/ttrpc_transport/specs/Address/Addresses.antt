-- The meaning of an address, and the errors that refuse one.
-- Source: the Rust crate ttrpc, its prefixes and its variable `TTRPC_TCP_NODELAY_ENABLED`; the texts are this project's.
use Rattle.std.specs.Prelude.{◌≡◌, ◌≢◌, ◌⊎◌, ℕ, List, ◌++◌, map, codes}
use Rattle.std.specs.Char.{to_ascii_lowercase}
use Rattle.ttrpc_proto.specs.declared.error.Error.{Error}
use Rattle.ttrpc_proto.specs.declared.error.Error.TheVariants.{Others, NoMemory}
use Rattle.ttrpc_transport.specs.declared.address.domain.Domain.{Domain}
use Rattle.ttrpc_transport.specs.declared.address.domain.Domain.TheVariants.{Unix, Tcp, Vsock}

-- the prefix of an address of this domain
abbrev pub prefix_of : Domain → List ℕ
prefix_of Unix = codes "unix://"
prefix_of Tcp = codes "tcp://"
prefix_of Vsock = codes "vsock://"

-- the address is of this domain, with this part
abbrev pub IsAddress : List ℕ → Domain → List ℕ → Type 0
IsAddress addr domain part = addr ≡ prefix_of domain ++ part

-- the address is of no domain
abbrev pub IsUnknown : List ℕ → Type 0
IsUnknown addr = (domain : Domain) (part : List ℕ) → addr ≢ prefix_of domain ++ part

-- the text that refuses such an address, with the address in it as it is
abbrev pub unknown_text : List ℕ → List ℕ
unknown_text addr = codes "Scheme \"" ++ addr ++ codes "\" is not supported"

-- the error of this text, or `NoMemory` if memory for the text was refused
abbrev pub IsRefusal : List ℕ → Error → Type 0
IsRefusal text e = (e ≡ Others text) ⊎ (e ≡ NoMemory)

-- `1`, or `true` in letters of either case
abbrev pub SaysYes : List ℕ → Type 0
SaysYes text = (text ≡ codes "1") ⊎ (map to_ascii_lowercase text ≡ codes "true")

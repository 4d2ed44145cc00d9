-- Sockets that listen.
-- Source: this project's.
use Rattle.std.specs.Prelude.{Bool}
use Rattle.ttrpc_transport.specs.declared.address.domain.Domain.{Domain}
use Rattle.ttrpc_transport.specs.declared.address.domain.Domain.TheVariants.{Tcp as TcpDomain, Unix as UnixDomain}
use Rattle.ttrpc_transport.specs.declared.listener.Listening.{Listening}
use Rattle.ttrpc_transport.specs.declared.listener.Listening.TheVariants.{Tcp, Unix}

-- the domain of a socket that listens
abbrev pub listening_domain : Listening → Domain
listening_domain (Tcp _) = TcpDomain
listening_domain (Unix _) = UnixDomain

-- a listener as contracts see it: its domain, and whether each write of its connections by TCP is to go out at once
pub record Listens : Type 0 where
  pub domain : Domain
  pub nodelay : Bool

-- a listener of this domain with this setting for the writes of its connections
abbrev pub listens : Domain → Bool → Listens
listens domain nodelay = record { domain = domain; nodelay = nodelay }

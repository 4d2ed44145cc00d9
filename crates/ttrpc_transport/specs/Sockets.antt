-- Streams, and the errors that a call on a socket may return.
-- Source: this project's.
use Rattle.std.specs.Prelude.{◌≡◌}
use Rattle.std.specs.declared.io.ErrorKind.{ErrorKind}
use Rattle.ttrpc_proto.specs.Framing.Streams.{IsPassing}
use Rattle.ttrpc_proto.specs.declared.framing.streams.again.Passing.TheVariants.{InterruptedOrBlocked}
use Rattle.ttrpc_transport.specs.declared.address.domain.Domain.{Domain}
use Rattle.ttrpc_transport.specs.declared.address.domain.Domain.TheVariants.{Tcp as TcpDomain, Unix as UnixDomain}
use Rattle.ttrpc_proto.specs.declared.error.Error.{Error}
use Rattle.ttrpc_proto.specs.declared.error.Error.TheVariants.{Nix}
use Rattle.ttrpc_transport.specs.declared.stream.Stream.{Stream}
use Rattle.ttrpc_transport.specs.declared.stream.Stream.TheVariants.{Tcp, Unix}

-- the domain of a stream
abbrev pub domain_of : Stream → Domain
domain_of (Tcp _) = TcpDomain
domain_of (Unix _) = UnixDomain

-- the system refused
abbrev pub IsFault : Error → Type 0
IsFault e = (kind : ErrorKind) × (e ≡ Nix kind)

-- the system refused, not only for this try
abbrev pub IsLastingFault : Error → Type 0
IsLastingFault e = (kind : ErrorKind) × (e ≡ Nix kind) × ¬ (IsPassing InterruptedOrBlocked kind)

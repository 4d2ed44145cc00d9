-- What a text doesn't begin with.
use Rattle.std.proofs.Common.{ℕ, List, None}
use Rattle.std.specs.Str.Pattern.{FindsTextPrefix}
use Rattle.ttrpc_transport.specs.Address.Addresses.{prefix_of, IsUnknown}
use Rattle.ttrpc_transport.specs.declared.address.domain.Domain.TheVariants.{Unix, Tcp, Vsock}

-- an address with none of the three prefixes
pub unknown : (addr : List ℕ)
    → FindsTextPrefix (prefix_of Unix) addr None → FindsTextPrefix (prefix_of Vsock) addr None → FindsTextPrefix (prefix_of Tcp) addr None → IsUnknown addr
unknown addr unix vsock tcp Unix part e = unix part e
unknown addr unix vsock tcp Vsock part e = vsock part e
unknown addr unix vsock tcp Tcp part e = tcp part e

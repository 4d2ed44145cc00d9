use Rattle.ttrpc_transport.proofs.Colons.{more_colons, no_colon, one_colon}
use Rattle.ttrpc_transport.proofs.address.vsock.two_parts.Goals as goal

pub returns-in_err-first : goal.returns-in_err-first
returns-in_err-first c = rw c.from_residual.ensures (no_colon c.args.text.now c.in_err-first.ensures.cases)

pub returns-then-contains : goal.returns-then-contains
returns-then-contains c = more_colons c.args.text.now (c.in_ok-first.first, c.in_ok-first.second) c.in_ok-first.ensures.cases c.if-contains.ensures.cases

pub returns : goal.returns
returns c = one_colon c.args.text.now (c.in_ok-first.first, c.in_ok-first.second) c.in_ok-first.ensures.cases c.if-contains.ensures.cases

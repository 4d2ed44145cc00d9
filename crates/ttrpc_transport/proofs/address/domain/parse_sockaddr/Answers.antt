use Rattle.ttrpc_transport.proofs.Prefixes.{unknown}
use Rattle.ttrpc_transport.proofs.Refused.{refused}
use Rattle.ttrpc_transport.proofs.address.domain.parse_sockaddr.Goals as goal

pub returns-clause-err : goal.returns-clause-err
returns-clause-err c =
    (unknown c.args.addr.now c.in_default.ensures.cases c.in_default-strip_prefix.ensures.cases c.in_default-strip_prefix-2.ensures.cases, refused _ _ _ c.format.ensures.ok c.refusal.ensures)

use Rattle.std.proofs.Common.{inl, inr, refl}
use Rattle.ttrpc_transport.proofs.Refused.{refused}
use Rattle.ttrpc_transport.proofs.address.vsock.parse_vsock.Goals as goal

pub returns-in_default-clause-err : goal.returns-in_default-clause-err
returns-in_default-clause-err c = (_, inl (c.in_default.ensures, refl), refused _ _ _ c.format.ensures.ok c.refusal.ensures)

pub returns-in_default-cid_of-clause-err : goal.returns-in_default-cid_of-clause-err
returns-in_default-cid_of-clause-err c =
    (_, inr (inl (_, _, c.in-Some.ensures, c.in_default-cid_of.ensures, refl)), refused _ _ _ c.format-in_default-cid_of.ensures.ok c.refusal-in_default-cid_of.ensures)

pub returns-in_default-number_of-clause-err : goal.returns-in_default-number_of-clause-err
returns-in_default-number_of-clause-err c =
    (_, inr (inr (_, _, c.in-Some.ensures, (_, c.in-Some-cid_of.ensures), c.in_default-number_of.ensures, refl)), refused _ _ _ c.format-in_default-number_of.ensures.ok c.refusal-in_default-number_of.ensures)

use Rattle.std.proofs.Common.{List, None, subst, ℕ, ◌∙◌}
use Rattle.ttrpc_proto.specs.ErrorText.{IsOthers}
use Rattle.ttrpc_transport.proofs.address.place.socket_addr_of.Goals as goal

pub returns-in_ok-prefix-in-Err-clause-err : goal.returns-in_ok-prefix-in-Err-clause-err
returns-in_ok-prefix-in-Err-clause-err c =
    (c.in-Err.ensures.value, subst (λ (prefix : List ℕ). IsOthers prefix None c.others_of.result) (c.as_str.ensures.value ∙ c.in_ok-prefix-in-Err.ensures.ok) c.others_of.ensures)

use Rattle.ttrpc_server.proofs.Words.{rules, ◌≡◌, ◌≤◌, nat_lt, true, refl, subst, fit_to_limit, response_size}
use Rattle.ttrpc_proto.specs.declared.messages.Response.{Response}
use Rattle.ttrpc_server.proofs.replies.limited.Goals as goal

pub returns-clause-ok : goal.returns-clause-ok
returns-clause-ok c =
    let long : nat_lt c.args.limit (response_size c.args.response.now) ≡ true = search rules in
    let is : c.in_ok-instead.instead ≡ fit_to_limit c.args.limit c.args.response.now = rw (long, c.in_ok-instead.ensures, c.size-size.ensures) refl in
    let small : response_size c.in_ok-instead.instead ≤ c.args.limit = search rules in
    (is, subst (λ (r : Response). response_size r ≤ c.args.limit) is small)

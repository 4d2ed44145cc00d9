use Rattle.ttrpc_server.proofs.Words.{rules, ◌≡◌, ◌≤◌, ◌∙◌, ap, subst, nat_lt, true, false, refl, IfErr-weaker, Async, MESSAGE_LENGTH_MAX, fit_to_limit, response_size}
use Rattle.ttrpc_proto.specs.declared.messages.Response.{Response}
use Rattle.ttrpc_server.specs.Protocol.{fit_to_message}
use Rattle.ttrpc_server.proofs.Sending.{unfit_as}
use Rattle.ttrpc_server.proofs.replies.shortened.Goals as goal

pub returns-clause-ok : goal.returns-clause-ok
returns-clause-ok c =
    let long : nat_lt MESSAGE_LENGTH_MAX (response_size c.args.response.now) ≡ true = search rules in
    let is : c.in_ok-instead.instead ≡ fit_to_message Async c.args.response.now = rw (long, c.in_ok-instead.ensures, c.size-size.ensures) refl in
    let limit = c.args.limit in
    (c.unwrap_or.ensures ∙ c.in_ok-other.ensures.ok.0 ∙ ap (fit_to_limit limit) is, subst (λ (r : Response). response_size (fit_to_limit limit r) ≤ limit) is c.in_ok-other.ensures.ok.1)

pub returns-in_err-other-clause-err : goal.returns-in_err-other-clause-err
returns-in_err-other-clause-err c =
    let long : nat_lt MESSAGE_LENGTH_MAX (response_size c.args.response.now) ≡ true = search rules in
    let is : c.in_ok-instead.instead ≡ fit_to_message Async c.args.response.now = rw (long, c.in_ok-instead.ensures, c.size-size.ensures) refl in
    let unfit = unfit_as c.args.limit c.args.response.now c.in_ok-instead.instead c.in_err-other.field-0.0 is c.in_err-other.ensures.err in
    search (rules, unfit)

pub returns-then-size-le-MESSAGE_LENGTH_MAX-clause-ok : goal.returns-then-size-le-MESSAGE_LENGTH_MAX-clause-ok
returns-then-size-le-MESSAGE_LENGTH_MAX-clause-ok c =
    let short : nat_lt MESSAGE_LENGTH_MAX (response_size c.args.response.now) ≡ false = search rules in
    let is : c.args.response.now ≡ fit_to_message Async c.args.response.now = rw short refl in
    rw (← is) c.limited.ensures.ok

pub returns-then-size-le-MESSAGE_LENGTH_MAX-clause-err : goal.returns-then-size-le-MESSAGE_LENGTH_MAX-clause-err
returns-then-size-le-MESSAGE_LENGTH_MAX-clause-err c =
    let short : nat_lt MESSAGE_LENGTH_MAX (response_size c.args.response.now) ≡ false = search rules in
    let is : c.args.response.now ≡ fit_to_message Async c.args.response.now = rw short refl in
    IfErr-weaker c.limited.result _ _ (λ u h. unfit_as c.args.limit c.args.response.now c.args.response.now u is h) c.limited.ensures.err

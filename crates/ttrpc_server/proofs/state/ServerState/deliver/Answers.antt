use Rattle.ttrpc_server.proofs.Words.{rules, ◌≡◌, ◌∙◌, ℕ, List, ap, false, is_at, list_any, nat_cmp, refl, JobList, Server}
use Rattle.std.proofs.lemmas.Result.{on_err_weaker}
use Rattle.std.specs.Set.{remove_key}
use Rattle.ttrpc_connection.proofs.Listed.{unlisted}
use Rattle.ttrpc_connection.specs.Mail.{with_thing}
use Rattle.ttrpc_server.specs.Types.{Mail}
use Rattle.ttrpc_server.proofs.Bringing.{kept_put}
use Rattle.ttrpc_server.proofs.state.ServerState.deliver.Goals as goal

pub invariant_of-self-else-is_err : goal.invariant_of-self-else-is_err
invariant_of-self-else-is_err c =
    let s = c.self.inside in
    kept_put c.put-put.result s.rules s.index s.expiry.room c.args.id (λ (m : Mail). with_thing m c.args.thing c.args.ends) s.jobs c.put-put.new.self c.put-put.ensures.ok c.put-put.ensures.err c.self.invariant.0 c.self.invariant.1

back : (old : Server) (jobs : JobList) (heard : List ℕ) → jobs ≡ old.jobs → heard ≡ old.heard → record old { jobs = jobs; heard = heard } ≡ old
back old jobs heard p q = rw (p, q) refl

pub returns-then-is_new-clause-err : goal.returns-then-is_new-clause-err
returns-then-is_new-clause-err c =
    let heard = c.self.inside.heard.keys in
    let absent : list_any (is_at (nat_cmp c.args.id)) heard ≡ false = let added = c.in_ok-is_new.ensures.added in let new = c.if-is_new.true in search (rules, added, new) in
    let kept = c.remove.ensures.keys ∙ ap (remove_key (is_at (nat_cmp c.args.id))) c.in_ok-is_new.ensures.keys ∙ unlisted c.args.id heard absent in
    on_err_weaker c.put-put.result (λ same. back _ _ _ same kept ∙ c.self.view_is) c.put-put.ensures.err

use Rattle.ttrpc_client.proofs.Words.{◌≡◌, ◌∙◌, ap, false, is_at, list_any, nat_cmp}
use Rattle.std.specs.Set.{remove_key}
use Rattle.ttrpc_client.proofs.Words.{rules}
use Rattle.ttrpc_client.proofs.Entered.{on_err, view_back}
use Rattle.ttrpc_connection.proofs.Listed.{unlisted}
use Rattle.ttrpc_client.proofs.state.ClientState.deliver.Goals as goal

pub returns-then-is_new-clause-err : goal.returns-then-is_new-clause-err
returns-then-is_new-clause-err c =
    let heard = c.self.inside.heard.keys in
    let absent : list_any (is_at (nat_cmp c.args.id)) heard ≡ false = let added = c.in_ok-is_new.ensures.added in let new = c.if-is_new.true in search (rules, added, new) in
    let back = c.remove.ensures.keys ∙ ap (remove_key (is_at (nat_cmp c.args.id))) c.in_ok-is_new.ensures.keys ∙ unlisted c.args.id heard absent in
    on_err c.put-put.result c.put-put.ensures.err (λ same. view_back _ _ _ same back ∙ c.self.view_is)

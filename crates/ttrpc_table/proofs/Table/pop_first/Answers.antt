use Rattle.std.proofs.Common.{rules, ◌≡◌, ◌∙◌, ◌∷◌, Some, sym, ap}
use Rattle.ttrpc_table.proofs.Users.{first_leaves}
use Rattle.ttrpc_table.specs.Table.{at, first}
use Rattle.ttrpc_table.proofs.Table.pop_first.Goals as goal

pub returns-clause-some : goal.returns-clause-some
returns-clause-some g c =
    let is : first c.args.self.now ≡ Some c.in_ok-key.key = search rules in
    let there : at c.args.self.now c.in_ok-key.key ≡ Some c.in_ok-value.value = search rules in
    first_leaves c.args.self.now c.in_ok-key.key c.in_ok-value.value is there ∙ ap (λ es. (c.in_ok-key.key, c.in_ok-value.value) ∷ es) (sym c.remove.ensures.entries)

use Rattle.std.proofs.Common.{rules, length, ◌≡◌, [], Some, None, string_bytes}
use Rattle.ttrpc_message.proofs.Maps.{none_put, sets, vec_put}
use Rattle.ttrpc_message.proofs.context.Context.set.Goals as goal

pub returns-then-is_empty-clause-ok : goal.returns-then-is_empty-clause-ok
returns-then-is_empty-clause-ok c =
    let none : length c.args.values.items ≡ 0 = search rules in
    let put = sets c.self.inside.metadata c.remove.new.self (string_bytes c.lowered-key.result) None (rw (← c.as_str.ensures.value) c.remove.ensures.updates) in
    rw (none_put c.args.values none, ← c.lowered-key.ensures, ← c.self.view_is) put

pub returns-clause-ok : goal.returns-clause-ok
returns-clause-ok c =
    let some : c.args.values.items ≡ [] → ⊥ = search rules in
    let put = sets c.self.inside.metadata c.insert.new.self (string_bytes c.lowered-key.result) (Some c.args.values) c.in_ok-insert.ensures.updates in
    rw (vec_put c.args.values some, ← c.lowered-key.ensures, ← c.self.view_is) put

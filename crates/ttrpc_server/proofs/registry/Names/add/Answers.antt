use Rattle.ttrpc_server.proofs.Words.{rules, ◌≡◌, Some, None, string_bytes, true, get_by_text, btree_set_updates_text}
use Rattle.ttrpc_server.proofs.Names.{as_before, one_more, one_service}
use Rattle.ttrpc_server.proofs.registry.Names.add.Goals as goal

pub returns-in_err-insert-clause-err : goal.returns-in_err-insert-clause-err
returns-in_err-insert-clause-err c =
    let at : get_by_text c.self.inside.services c.as_str.result.now ≡ Some c.in-Some.names.now = rw (← c.get_mut.ensures.value, c.in-Some.is) in
    let same = as_before c.self.inside.services (c.get_mut.follows.lender c.insert.new.self) c.as_str.result.now c.in-Some.names.now c.insert.new.self at (search rules) (c.get_mut.follows.holds c.insert.new.self).0 in
    search (rules, same, c.self.view_is)

pub returns-in-Some-clause-ok : goal.returns-in-Some-clause-ok
returns-in-Some-clause-ok c =
    let at : get_by_text c.self.inside.services c.as_str.result.now ≡ Some c.in-Some.names.now = rw (← c.get_mut.ensures.value, c.in-Some.is) in
    rw (← c.as_str.ensures.value, ← c.self.view_is) (one_more c.self.inside.services (c.get_mut.follows.lender c.insert.new.self) c.as_str.result.now (string_bytes c.args.name) c.insert.new.self
    ((c.get_mut.follows.holds c.insert.new.self).3 (search rules)) (λ n. rw at (btree_set_updates_text (string_bytes c.args.name) c.in-Some.names.now c.insert.new.self true c.in_ok-insert.ensures.updates n)))

pub returns-clause-ok : goal.returns-clause-ok
returns-clause-ok c =
    let none : get_by_text c.get_mut.follows.lender-at-none c.as_str.result.now ≡ None = rw (c.get_mut.follows.holds-at-none, ← c.get_mut.ensures.value, c.in_default.is) in
    let value : c.as_str.result.now ≡ string_bytes c.args.service = c.as_str.ensures.value in
    rw (← c.self.view_is, ← c.get_mut.follows.holds-at-none) (one_more c.get_mut.follows.lender-at-none c.insert-3.new.self (string_bytes c.args.service) (string_bytes c.args.name) c.insert-2.new.self
    c.in_ok-insert-3.ensures.updates
    (λ n. let h = btree_set_updates_text (string_bytes c.args.name) c.new-names.result c.insert-2.new.self true c.in_ok-insert-2.ensures.updates n in rw (← value, none) (rw c.new-names.ensures.empty at h)))

pub returns-in-Some-clause-service : goal.returns-in-Some-clause-service
returns-in-Some-clause-service c =
    rw (← c.as_str.ensures.value, ← c.self.view_is) (one_service c.self.inside.services (c.get_mut.follows.lender c.insert.new.self) c.as_str.result.now c.insert.new.self ((c.get_mut.follows.holds c.insert.new.self).3 (search rules)))

pub returns-clause-service : goal.returns-clause-service
returns-clause-service c =
    rw (← c.self.view_is, ← c.get_mut.follows.holds-at-none) (one_service c.get_mut.follows.lender-at-none c.insert-3.new.self (string_bytes c.args.service) c.insert-2.new.self c.in_ok-insert-3.ensures.updates)

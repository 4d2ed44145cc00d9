use Rattle.std.proofs.Common.{rules, ◌≡◌, Some, None, string_bytes}
use Rattle.std.specs.BTreeMap.{get_by_text}
use Rattle.std.proofs.lemmas.Map.Text.{btree_map_updates_text}
use Rattle.ttrpc_server.proofs.Handlers.{as_before, one_more}
use Rattle.ttrpc_server.proofs.methods.Methods.put.Goals as goal

pub returns-in_err-insert-clause-err : goal.returns-in_err-insert-clause-err
returns-in_err-insert-clause-err g c =
    let at : get_by_text c.self.inside.services c.args.service.now ≡ Some c.in-Some.methods.now = rw (← c.get_mut.ensures.value, c.in-Some.is) in
    let same = as_before c.self.inside.services (c.get_mut.follows.lender c.insert.new.self) c.args.service.now c.in-Some.methods.now c.insert.new.self at (search rules) (c.get_mut.follows.holds c.insert.new.self).0 in
    search (rules, same, c.self.view_is)

pub returns-in-Some-clause-ok : goal.returns-in-Some-clause-ok
returns-in-Some-clause-ok g c =
    let at : get_by_text c.self.inside.services c.args.service.now ≡ Some c.in-Some.methods.now = rw (← c.get_mut.ensures.value, c.in-Some.is) in
    let name : string_bytes c.in_ok-method.method ≡ c.args.method.now = c.in_ok-method.ensures.ok in
    rw (← c.self.view_is) (one_more c.self.inside.services (c.get_mut.follows.lender c.insert.new.self) c.args.service.now c.args.method.now c.args.handler c.insert.new.self
    ((c.get_mut.follows.holds c.insert.new.self).3 (search rules))
    (λ m. rw (at, ← name) (btree_map_updates_text (string_bytes c.in_ok-method.method) c.in-Some.methods.now c.insert.new.self (Some c.args.handler) c.in_ok-insert.ensures.updates m)))

pub returns-clause-ok : goal.returns-clause-ok
returns-clause-ok g c =
    let none : get_by_text c.get_mut.follows.lender-at-none c.args.service.now ≡ None = rw (c.get_mut.follows.holds-at-none, ← c.get_mut.ensures.value, c.in_default.is) in
    let name : string_bytes c.in_ok-method.method ≡ c.args.method.now = c.in_ok-method.ensures.ok in
    let key : string_bytes c.in_ok-from_str.field-0 ≡ c.args.service.now = c.in_ok-from_str.ensures.ok in
    rw (← c.self.view_is, ← c.get_mut.follows.holds-at-none, ← key) (one_more c.get_mut.follows.lender-at-none c.insert-3.new.self (string_bytes c.in_ok-from_str.field-0) c.args.method.now c.args.handler c.insert-2.new.self
    c.in_ok-insert-3.ensures.updates
    (λ m. let h = btree_map_updates_text (string_bytes c.in_ok-method.method) c.new-methods.result c.insert-2.new.self (Some c.args.handler) c.in_ok-insert-2.ensures.updates m in rw (key, none, ← name) (rw c.new-methods.ensures.empty at h)))

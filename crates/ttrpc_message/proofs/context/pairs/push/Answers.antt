use Rattle.std.proofs.Common.{rules, ◌≡◌, ◌++◌, ◌∷◌, [], Some, None, map, string_bytes, ap}
use Rattle.std.specs.BTreeMap.{get_by_text}
use Rattle.ttrpc_message.proofs.Maps.{adds, one_more, same_set}
use Rattle.ttrpc_message.proofs.context.pairs.push.Goals as goal

pub returns-in_err-push-clause-err : goal.returns-in_err-push-clause-err
returns-in_err-push-clause-err c =
    let at : get_by_text c.args.metadata.now c.as_str.result.now ≡ Some c.in-Some.texts.now = rw (← c.get_mut.ensures.value, c.in-Some.is) in
    let items : c.push.new.self.items ≡ c.in-Some.texts.now.items = search rules in
    let same = same_set c.as_str.result.now c.args.metadata.now.entries c.in-Some.texts.now c.push.new.self at (ap (map string_bytes) items) in
    let set = (c.get_mut.follows.holds c.push.new.self).0 in
    search (rules, same, set)

pub returns-in-Some-clause-ok : goal.returns-in-Some-clause-ok
returns-in-Some-clause-ok c =
    let at : get_by_text c.args.metadata.now c.as_str.result.now ≡ Some c.in-Some.texts.now = rw (← c.get_mut.ensures.value, c.in-Some.is) in
    let items : c.push.new.self.items ≡ c.in-Some.texts.now.items ++ c.args.value ∷ [] = search rules in
    let more = one_more c.in-Some.texts.now.items c.push.new.self.items c.args.value items in
    rw (← c.as_str.ensures.value) (adds c.args.metadata.now (c.get_mut.follows.lender c.push.new.self) c.as_str.result.now (string_bytes c.args.value) (Some c.in-Some.texts.now) c.push.new.self at more
    ((c.get_mut.follows.holds c.push.new.self).3 (search rules)))

pub returns-clause-ok : goal.returns-clause-ok
returns-clause-ok c =
    let none : get_by_text c.get_mut.follows.lender-at-none c.as_str.result.now ≡ None = rw (c.get_mut.follows.holds-at-none, ← c.get_mut.ensures.value, c.in_default.is) in
    let value : c.as_str.result.now ≡ string_bytes c.args.key = c.as_str.ensures.value in
    let items : c.push-2.new.self.items ≡ c.args.value ∷ [] = search rules in
    rw (← c.get_mut.follows.holds-at-none) (adds c.get_mut.follows.lender-at-none c.insert.new.self (string_bytes c.args.key) (string_bytes c.args.value) None c.push-2.new.self (rw (← value) none)
    (ap (map string_bytes) items) c.in_ok-insert.ensures.updates)

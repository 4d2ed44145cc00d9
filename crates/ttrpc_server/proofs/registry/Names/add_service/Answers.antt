use Rattle.ttrpc_server.proofs.Words.{rules, ◌≡◌, ◌∙◌, ℕ, List, is_some, Option, Some, None, string_bytes, true, false, sym, subst, refl, get_by_text}
use Rattle.ttrpc_server.proofs.Names.{no_names, one_service, same_service}
use Rattle.ttrpc_server.proofs.registry.Names.add_service.Goals as goal

none_of : {X : Type 0} (o : Option X) → is_some o ≡ false → o ≡ None
none_of None none = refl
none_of (Some x) none = cc

pub returns-clause-ok : goal.returns-clause-ok
returns-clause-ok c =
    rw (← c.self.view_is) (one_service c.self.inside.services c.insert.new.self (string_bytes c.args.service) c.new.result c.in_ok-insert.ensures.updates)

pub returns-clause-names : goal.returns-clause-names
returns-clause-names c =
    let no : c.contains_key.result ≡ false = search rules in
    let none = subst (λ (s : List ℕ). get_by_text c.self.inside.services s ≡ None) c.as_str.ensures.value (none_of (get_by_text c.self.inside.services c.as_str.result.now) (sym c.contains_key.ensures ∙ no)) in
    rw (← c.self.view_is) (no_names c.self.inside.services c.insert.new.self (string_bytes c.args.service) c.new.result c.in_ok-insert.ensures.updates c.new.ensures.empty none)

pub returns-then-contains_key-clause-ok : goal.returns-then-contains_key-clause-ok
returns-then-contains_key-clause-ok c =
    let yes : c.contains_key.result ≡ true = search rules in
    let there = subst (λ (s : List ℕ). is_some (get_by_text c.self.inside.services s) ≡ true) c.as_str.ensures.value (sym c.contains_key.ensures ∙ yes) in
    rw (← c.self.view_is) (same_service c.self.inside.services (string_bytes c.args.service) there)

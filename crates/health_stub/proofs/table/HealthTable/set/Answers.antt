use Rattle.std.proofs.Common.{◌≡◌, ◌∙◌, Bool, Option, Some, ap, false, if◌then◌else◌, refl, string_bytes, true}
use Rattle.std.proofs.lemmas.Map.Text.{btree_map_updates_text}
use Rattle.std.specs.Option.{option_map}
use Rattle.std.specs.Str.{bytes_eq}
use Rattle.health_stub.proofs.table.HealthTable.set.Goals as goal

either_map : {X Y : Type 0} (f : X → Y) (b : Bool) (x y : Option X) → option_map f (if b then x else y) ≡ (if b then option_map f x else option_map f y)
either_map f true x y = refl
either_map f false x y = refl

pub returns-clause-ok : goal.returns-clause-ok
returns-clause-ok c = λ other.
    let after = btree_map_updates_text (string_bytes c.in_ok-name.name) c.args.self.now.names c.insert.new.self (Some c.in_ok-list.list) c.in_ok-insert.ensures.updates other in
    rw (← c.in_ok-name.ensures.ok, ← c.in_ok-list.ensures.items) (ap (option_map (λ list. list.items)) after ∙ either_map (λ list. list.items) (bytes_eq (string_bytes c.in_ok-name.name) other) _ _)

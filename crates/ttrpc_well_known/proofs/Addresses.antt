-- Addresses that name a message.
use Rattle.std.proofs.Common.{◌≡◌, ◌≢◌, ℕ, List, [], ◌∷◌, ◌++◌, Bool, true, false, refl, sym, ap, ◌∙◌, append_assoc}
use Rattle.std.proofs.lemmas.List.{append_cancel_right}
use Rattle.std.specs.Prelude.{codes}
use Rattle.ttrpc_well_known.specs.Any.{Names}

-- the name isn't at the end
pub no_name : (url name : List ℕ) → ((front : List ℕ) → url ≢ front ++ name) → Names url name → ⊥
no_name url name away (before, e) = away (before ++ codes "/") (e ∙ sym (append_assoc before (codes "/") name))

-- the name is at the end, and a slash before it
pub names_it : (url name rest before : List ℕ) → url ≡ rest ++ name → rest ≡ before ++ codes "/" → Names url name
names_it url name rest before e s = (before, e ∙ ap (λ w. w ++ name) s ∙ append_assoc before (codes "/") name)

-- the name is at the end, so what names it has a slash before it
pub slash_before : (url name rest : List ℕ) → url ≡ rest ++ name → (named : Names url name) → rest ≡ named.0 ++ codes "/"
slash_before url name rest e (before, n) =
    append_cancel_right rest (before ++ codes "/") name (sym e ∙ n ∙ sym (append_assoc before (codes "/") name))

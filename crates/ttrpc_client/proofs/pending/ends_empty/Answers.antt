use Rattle.std.proofs.Common.{arith, ◌≡◌, ◌∙◌, ◌-◌, ℕ, List, Option, Some, Bool, true, false, is_some, not, refl, length, subst, sym}
use Rattle.std.proofs.lemmas.Option.{slice_get_within}
use Rattle.std.specs.List.{slice_get}
use Rattle.ttrpc_client.proofs.Places.{last_is}
use Rattle.ttrpc_client.proofs.pending.ends_empty.Goals as goal

flip : (a b : Bool) → b ≡ not a → a ≡ not b
flip true b is = rw is refl
flip false b is = rw is refl

pub returns-in-Some : goal.returns-in-Some
returns-in-Some g c =
    let ps = c.args.places.now.items in
    let p = c.in-Some.place.now in
    let here : slice_get ps (length ps - 1) ≡ Some p = subst (λ (l : List (ℕ × Option g.row.T.Denot)). slice_get l (length l - 1) ≡ Some p) c.deref.ensures.value (sym c.in-Some.ensures.value) in
    let within = slice_get_within ps (length ps - 1) p here in
    flip c.is_none.result (is_some p.1) c.is_none.ensures ∙ last_is p ps (length ps - 1) (omega (arith, within)) here

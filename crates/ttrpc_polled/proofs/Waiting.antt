-- The first of those who wait.
use Rattle.std.proofs.Common.{◌≡◌, ℕ, List, [], ◌∷◌, IfNone, IfSome, refl}
use Rattle.std.specs.Map.{keys_of}
use Rattle.ttrpc_polled.specs.Waiting.{IsFirst}
use Rattle.ttrpc_table.specs.Table.{first}

-- the first number of a table is its first key
pub first_is : {X : Type 0} (es : List (ℕ × X)) → IfSome (first es) (IsFirst (keys_of es)) × IfNone (first es) (keys_of es ≡ [])
first_is [] = (tt, refl)
first_is (e ∷ es) = ((keys_of es, refl), tt)

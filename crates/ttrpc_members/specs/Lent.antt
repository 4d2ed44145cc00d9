-- The map after a value that it lent is given back.
-- Source: this project's.
use Rattle.std.specs.Prelude.{◌≡◌, Bool, List, Option, OnSome}
use Rattle.std.specs.Borrow.{LendsSo, MutBor, Fml, RattleType}
use Rattle.std.specs.BTreeMap.{is_at}
use Rattle.std.specs.Map.{set_value}
use Rattle.std.specs.declared.cmp.Ordering.{Ordering}
use Rattle.ttrpc_members.specs.contracts.map.Map.{the_row}

-- the members of `K.Ord` as clauses have them
abbrev pub OrdMembers : Type 0 → Type 0
OrdMembers K = record { partial_cmp : K → K → Option Ordering; eq : K → K → Bool; cmp : K → K → Ordering }

-- the map has, under the key, the last value that was written, and is unchanged if none was lent
abbrev pub LendsValue : (K V : RattleType) (g : OrdMembers K.Denot) → MutBor (List (K.Denot × V.Denot)) → K.Denot → Option (MutBor V.Denot) → Fml
LendsValue K V g m key r =
    LendsSo (the_row K V (record { cmp = g.cmp }) (record { eq = g.eq }) (record { partial_cmp = g.partial_cmp })) V m r (λ n w. OnSome r (n ≡ set_value (is_at (g.cmp key)) m.now w)) (λ n. n ≡ m.now)

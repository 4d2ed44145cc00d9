-- A table's entries: values under numbers, by rising number.
-- Source: this project's, in the words of std's ordered map.
use Rattle.std.specs.Prelude.{ℕ, List, [], ◌∷◌, Option, None, Some}
use Rattle.std.specs.Borrow.{Fml, LendsIf, MutBor, RattleType}
use Rattle.std.specs.BTreeMap.{insert_entry, is_at}
use Rattle.std.specs.List.Sorted.{IsStrictlySortedBy}
use Rattle.std.specs.Map.{keys_of, lookup, remove_entry, set_value}
use Rattle.std.specs.Ordering.{nat_cmp}
use Rattle.ttrpc_table.specs.contracts.Table.{the_row}

module _ {V : Type 0} where
  -- the value under a number, if there is one
  abbrev pub at : List (ℕ × V) → ℕ → Option V
  at entries k = lookup (is_at (nat_cmp k)) entries

  -- the entries with this value under a number, in place of an earlier one
  abbrev pub with_entry : List (ℕ × V) → ℕ → V → List (ℕ × V)
  with_entry entries k v = insert_entry nat_cmp entries k v

  -- the entries with this value under a number that has one
  abbrev pub with_value : List (ℕ × V) → ℕ → V → List (ℕ × V)
  with_value entries k v = set_value (is_at (nat_cmp k)) entries v

  -- the entries with nothing under a number
  abbrev pub without : List (ℕ × V) → ℕ → List (ℕ × V)
  without entries k = remove_entry (is_at (nat_cmp k)) entries

  -- the least number
  abbrev pub first : List (ℕ × V) → Option ℕ
  first [] = None
  first (e ∷ es) = Some e.0

  -- each number comes once, and the numbers rise
  abbrev pub Rise : List (ℕ × V) → Type 0
  Rise entries = IsStrictlySortedBy nat_cmp (keys_of entries)

-- after the borrow r ends, the number has the last value written through r; at `None` nothing changes
abbrev pub lends_at : (V : RattleType) → MutBor (List (ℕ × V.Denot)) → ℕ → Option (MutBor V.Denot) → Fml
lends_at V s k r = LendsIf (the_row V) V s r (with_value s.now k) s.now

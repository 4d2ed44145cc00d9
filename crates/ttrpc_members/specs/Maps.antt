-- Maps: a list of entries, each a message of a key and a value. The last of several entries with one key wins.
-- Source: the Protocol Buffers language guide for proto3, "Maps".
use Rattle.std.specs.Prelude.{◌≡◌, List, [], ◌∷◌, Option, Some, None}
use Rattle.std.specs.List.{AllByRecursion}
use Rattle.std.specs.Option.{option_map}
use Rattle.std.specs.BTreeMap.{insert_entry}
use Rattle.std.specs.declared.cmp.Ordering.{Ordering}
use Rattle.ttrpc_wire.specs.Field.{Value}
use Rattle.ttrpc_members.specs.Items.{Item, nested}
use Rattle.ttrpc_members.specs.Kinds.{Kind, single_take, repeated_values}
use Rattle.ttrpc_members.specs.Schema.{Part, member, none, with_part, message_of}

-- one item, which is always written
abbrev pub always : {A : Type 0} → Item A → Kind A
always i = record { is_value = i.is_value; empty = i.first; take = single_take i; values = λ x. i.value x ∷ [] }

-- an entry as a message: member 1 is its key, and member 2 its value; each is the first item if it is absent
abbrev pub entry : {K V : Type 0} → Item K → Item V → Part (K × V)
entry key value = message_of (with_part (with_part none (member 1 (always key))) (member 2 (always value))) (λ e. ((tt, e.0), e.1)) (λ x. (x.0.1, x.1))

-- an entry as an item
abbrev pub entry_item : {K V : Type 0} → Item K → Item V → Item (K × V)
entry_item key value = nested (entry key value).is_value (entry key value).empty (entry key value).step (entry key value).fields

-- the entries with one more, in place of an earlier entry with its key
abbrev pub inserted : {K V : Type 0} → (K → K → Ordering) → List (K × V) → Option (K × V) → List (K × V)
inserted order old None = old
inserted order old (Some e) = insert_entry order old e.0 e.1

-- a value is one more entry
unfoldable pub map_take : {K V : Type 0} → (K → K → Ordering) → Item (K × V) → List (K × V) → Value → Option (List (K × V))
map_take order i old v = option_map (inserted order old) (i.read i.first v)

-- the entries with all these entries inserted, one after the other
unfoldable pub rebuilt : {K V : Type 0} → (K → K → Ordering) → List (K × V) → List (K × V) → List (K × V)
rebuilt order old [] = old
rebuilt order old (e ∷ es) = rebuilt order (insert_entry order old e.0 e.1) es

-- Entries in the keys' order, no two with one key: inserting them one after the other gives the same list.
pub record AreEntries {K V : Type 0} (order : K → K → Ordering) (is_value : K × V → Type 0) (es : List (K × V)) : Type 0 where
  pub all : AllByRecursion is_value es
  pub ordered : rebuilt order [] es ≡ es

-- a map; its entries are written by rising key
abbrev pub map_of : {K V : Type 0} → (K → K → Ordering) → Item (K × V) → Kind (List (K × V))
map_of order i = record { is_value = AreEntries order i.is_value; empty = []; take = map_take order i; values = repeated_values i }

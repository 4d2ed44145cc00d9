-- Kinds of members: how a field's value changes a member, and the values that are written for it.
-- Source: the Protocol Buffers language guide for proto3, "Specifying Field Cardinality", and the encoding guide, "Last One Wins"
-- and "Repeated Elements".
use Rattle.std.specs.Prelude.{ℕ, zero, suc, List, [], ◌∷◌, ◌++◌, length, Option, Some, None, Bool, true, false, if◌then◌else◌, map, unwrap_or}
use Rattle.std.specs.List.{AllByRecursion, flat_map}
use Rattle.std.specs.Option.{option_map}
use Rattle.ttrpc_wire.specs.Field.{Value, Varint, Fixed64, LengthDelimited, Fixed32, value_bytes}
use Rattle.ttrpc_wire.specs.Reading.{◌>>=◌, value_at}
use Rattle.ttrpc_members.specs.Items.{Item}

-- A member: its values, the one before any field, the effect of one more field's value or its refusal, and the values that are written, in
-- order.
pub record Kind (A : Type 0) : Type 1 where
  pub is_value : A → Type 0
  pub empty : A
  pub take : A → Value → Option A
  pub values : A → List Value

-- ---- one item: the last value wins, and the first item is left out

-- the item that was taken, or the old item if none was
abbrev pub taken_or : {A : Type 0} → A → Option A → A
taken_or old None = old
taken_or old (Some x) = x

-- the item after a value
unfoldable pub single_take : {A : Type 0} → Item A → A → Value → Option A
single_take i old v = option_map (taken_or old) (i.read old v)

-- the value of an item, if it isn't the first one
unfoldable pub single_values : {A : Type 0} → Item A → A → List Value
single_values i x = if i.is_first x then [] else i.value x ∷ []

-- one item, which is left out if it is the first one
abbrev pub single : {A : Type 0} → Item A → Kind A
single i = record { is_value = i.is_value; empty = i.first; take = single_take i; values = single_values i }

-- ---- one item that may be absent, and is written even if it is the first one

-- the item that was taken, or the one that there was
abbrev pub taken_else : {A : Type 0} → Option A → Option A → Option A
taken_else old None = old
taken_else old (Some x) = Some x

-- the item after a value; more of a message continues the message that there was
unfoldable pub optional_take : {A : Type 0} → Item A → Option A → Value → Option (Option A)
optional_take i old v = option_map (taken_else old) (i.read (unwrap_or old i.first) v)

-- the value of an item, if there is one
unfoldable pub optional_values : {A : Type 0} → Item A → Option A → List Value
optional_values i None = []
optional_values i (Some x) = i.value x ∷ []

-- a member that is absent or valid
abbrev pub IsOptional : {A : Type 0} → (A → Type 0) → Option A → Type 0
IsOptional Is None = Unit {0}
IsOptional Is (Some x) = Is x

-- one item that may be absent
abbrev pub optional : {A : Type 0} → Item A → Kind (Option A)
optional i = record { is_value = IsOptional i.is_value; empty = None; take = optional_take i; values = optional_values i }

-- ---- items of a list, one by one

-- the list with one more item at the end, if one was taken
abbrev pub one_more : {A : Type 0} → List A → Option A → List A
one_more old None = old
one_more old (Some x) = old ++ x ∷ []

-- a value is one more item
unfoldable pub repeated_take : {A : Type 0} → Item A → List A → Value → Option (List A)
repeated_take i old v = option_map (one_more old) (i.read i.first v)

-- a value for each item
unfoldable pub repeated_values : {A : Type 0} → Item A → List A → List Value
repeated_values i xs = map i.value xs

-- items of a list
abbrev pub repeated : {A : Type 0} → Item A → Kind (List A)
repeated i = record { is_value = AllByRecursion i.is_value; empty = []; take = repeated_take i; values = repeated_values i }

-- ---- numbers of a list, in one value; one by one they are read, too

-- the list with all the numbers that the bytes are, if they are at most k
unfoldable pub packed_upto : {A : Type 0} → Item A → ℕ → List A → List ℕ → Option (List A)
packed_upto i k old [] = Some old
packed_upto i zero old (b ∷ bytes) = None
packed_upto i (suc k) old (b ∷ bytes) = value_at i.wire_type (b ∷ bytes) >>= λ x. repeated_take i old x.0 >>= λ xs. packed_upto i k xs x.1

-- the list with all the numbers that the bytes are
unfoldable pub packed_from : {A : Type 0} → Item A → List A → List ℕ → Option (List A)
packed_from i old bytes = packed_upto i (length bytes) old bytes

-- a length-delimited value is several numbers, and another value is one
unfoldable pub packed_take : {A : Type 0} → Item A → List A → Value → Option (List A)
packed_take i old (LengthDelimited bytes) = packed_from i old bytes
packed_take i old (Varint n) = repeated_take i old (Varint n)
packed_take i old (Fixed64 n) = repeated_take i old (Fixed64 n)
packed_take i old (Fixed32 n) = repeated_take i old (Fixed32 n)

-- the bytes of the values, one after the other
unfoldable pub packed_bytes : {A : Type 0} → Item A → List A → List ℕ
packed_bytes i xs = flat_map (λ x. value_bytes (i.value x)) xs

-- true if the list is empty
abbrev pub is_nil : {A : Type 0} → List A → Bool
is_nil [] = true
is_nil (x ∷ xs) = false

-- one value for all numbers, and none if there are no numbers
unfoldable pub packed_values : {A : Type 0} → Item A → List A → List Value
packed_values i xs = if is_nil xs then [] else LengthDelimited (packed_bytes i xs) ∷ []

-- numbers of a list
abbrev pub packed : {A : Type 0} → Item A → Kind (List A)
packed i = record { is_value = AllByRecursion i.is_value; empty = []; take = packed_take i; values = packed_values i }

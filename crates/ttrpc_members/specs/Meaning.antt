-- The meaning of fields, member by member, in the guide's words, without a step of a decoder. Laws state that members have this meaning.
-- Source: the Protocol Buffers encoding guide, "Last One Wins", "Repeated Elements", "Packed Repeated Fields", "Maps" and "Oneofs".
use Rattle.std.specs.Prelude.{ℕ, List, [], ◌∷◌, ◌++◌, Option, Some, None, Bool, ◌==◌, ◌⊎◌, if◌then◌else◌}
use Rattle.std.specs.Option.{option_map}
use Rattle.ttrpc_wire.specs.Varint.{varint}
use Rattle.ttrpc_wire.specs.Field.{Value, Varint, Fixed64, LengthDelimited, Fixed32, Field, fields_bytes}
use Rattle.ttrpc_wire.specs.Reading.{◌>>=◌}
use Rattle.ttrpc_members.specs.Choices.{Choices, or_item, one_of}
use Rattle.ttrpc_members.specs.Items.{Item}
use Rattle.ttrpc_members.specs.Schema.{Part}

-- the values of the fields of one number, in order
abbrev pub values_at : ℕ → List Field → List Value
values_at k [] = []
values_at k (f ∷ fs) = if f.number == k then f.value ∷ values_at k fs else values_at k fs

-- the last one of a list, or `x` if the list is empty
abbrev pub last_or : {A : Type 0} → A → List A → A
last_or x [] = x
last_or x (y ∷ ys) = last_or y ys

-- ---- scalars

-- the numbers of the varints among the values
abbrev pub varints_in : List Value → List ℕ
varints_in [] = []
varints_in (Varint n ∷ vs) = n ∷ varints_in vs
varints_in (Fixed64 n ∷ vs) = varints_in vs
varints_in (LengthDelimited b ∷ vs) = varints_in vs
varints_in (Fixed32 n ∷ vs) = varints_in vs

-- the numbers of eight bytes among the values
abbrev pub fixed64s_in : List Value → List ℕ
fixed64s_in [] = []
fixed64s_in (Varint n ∷ vs) = fixed64s_in vs
fixed64s_in (Fixed64 n ∷ vs) = n ∷ fixed64s_in vs
fixed64s_in (LengthDelimited b ∷ vs) = fixed64s_in vs
fixed64s_in (Fixed32 n ∷ vs) = fixed64s_in vs

-- the numbers of four bytes among the values
abbrev pub fixed32s_in : List Value → List ℕ
fixed32s_in [] = []
fixed32s_in (Varint n ∷ vs) = fixed32s_in vs
fixed32s_in (Fixed64 n ∷ vs) = fixed32s_in vs
fixed32s_in (LengthDelimited b ∷ vs) = fixed32s_in vs
fixed32s_in (Fixed32 n ∷ vs) = n ∷ fixed32s_in vs

-- the bytes of the length-delimited values
abbrev pub bytes_in : List Value → List (List ℕ)
bytes_in [] = []
bytes_in (Varint n ∷ vs) = bytes_in vs
bytes_in (Fixed64 n ∷ vs) = bytes_in vs
bytes_in (LengthDelimited b ∷ vs) = b ∷ bytes_in vs
bytes_in (Fixed32 n ∷ vs) = bytes_in vs

-- ---- lists

-- an item, if there is one, in front of others
abbrev pub in_front : {A : Type 0} → Option A → List A → List A
in_front None xs = xs
in_front (Some x) xs = x ∷ xs

-- the items of the values, each read by itself; a value of another wire type has no item, and a value that is refused refuses all
abbrev pub items_in : {A : Type 0} → Item A → List Value → Option (List A)
items_in i [] = Some []
items_in i (v ∷ vs) = i.read i.first v >>= λ x. option_map (in_front x) (items_in i vs)

-- numbers as they come in one field: one alone, or several in one value
pub data Numbers : Type 0 where
  One : (n : ℕ) → Numbers
  Several : (ns : List ℕ) → Numbers

-- varints, one after the other
abbrev pub varints_bytes : List ℕ → List ℕ
varints_bytes [] = []
varints_bytes (n ∷ ns) = varint n ++ varints_bytes ns

-- the value of a field with these numbers
abbrev pub numbers_value : Numbers → Value
numbers_value (One n) = Varint n
numbers_value (Several ns) = LengthDelimited (varints_bytes ns)

-- all of the numbers, in order
abbrev pub all_numbers : List Numbers → List ℕ
all_numbers [] = []
all_numbers (One n ∷ rest) = n ∷ all_numbers rest
all_numbers (Several ns ∷ rest) = ns ++ all_numbers rest

-- ---- messages

-- a message's fields as the value of one field
abbrev pub message_value : List Field → Value
message_value fs = LengthDelimited (fields_bytes fs)

-- ---- maps

-- the value of the last entry with this key, or the value that was found before
abbrev pub last_at : {K V : Type 0} → (K → Bool) → Option V → List (K × V) → Option V
last_at is found [] = found
last_at is found (e ∷ es) = last_at is (if is e.0 then Some e.1 else found) es

-- ---- choices of members

-- a choice of some members and of one more, with this number, as a part of a message
abbrev pub one_more_choice : {S A : Type 0} → Choices S → ℕ → Item A → Part (Option (S ⊎ A))
one_more_choice c k i = one_of (or_item c k i) (λ s. s) (λ s. s)

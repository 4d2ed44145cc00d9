-- Laws of each item, of each kind of member and of each part of a message: a written value reads back.
-- Source: this project's.
use Rattle.std.specs.Prelude.{◌≡◌, ℕ, ◌<◌, ◌^◌, ◌-◌, List, [], ◌∷◌, length, Option, Some, Bool, true, false, ◌==◌, nat_lt, if◌then◌else◌}
use Rattle.std.specs.List.{AllByRecursion}
use Rattle.ttrpc_wire.specs.Field.{Value, Field, Fits, ValueFits, fields_bytes, value_bytes, wire_type_of}
use Rattle.ttrpc_wire.specs.Reading.{◌>>=◌}
use Rattle.ttrpc_wire.specs.Fold.{folded}
use Rattle.ttrpc_members.specs.Items.{Item, Coding}
use Rattle.ttrpc_members.specs.Kinds.{Kind}
use Rattle.ttrpc_members.specs.Schema.{Part, Parts, flat}

-- ---- numbers

-- a field can have the number
abbrev pub is_number : ℕ → Bool
is_number n = if nat_lt 0 n then nat_lt n 536870912 else false

-- the number is one of the list
abbrev pub is_among : ℕ → List ℕ → Bool
is_among n [] = false
is_among n (k ∷ ks) = if n == k then true else is_among n ks

-- fields can have these numbers, and no two of them are equal
abbrev pub are_valid : List ℕ → Bool
are_valid [] = true
are_valid (n ∷ ns) = if is_number n then (if is_among n ns then false else are_valid ns) else false

-- ---- lengths

-- fields with fewer than 2 ^ 64 - 1 bytes
abbrev pub AreShort : List Field → Type 0
AreShort fs = length (fields_bytes fs) < 2 ^ 64 - 1

-- a value with fewer than 2 ^ 64 - 1 bytes
abbrev pub IsShort : Value → Type 0
IsShort v = length (value_bytes v) < 2 ^ 64 - 1

-- ---- laws

-- The law of a coding: the number that is written is below the bound and reads back.
pub record LawfulCoding {A : Type 0} (c : Coding A) (bound : ℕ) : Type 0 where
  pub back : (x : A) → c.is_value x → c.decode (c.code x) ≡ x
  pub fits : (x : A) → c.is_value x → c.code x < bound

-- The law of an item: an item that is left out is the first one. A value that is written has the item's wire type, has a written form and
-- reads back.
pub record LawfulItem {A : Type 0} (i : Item A) : Type 0 where
  pub firsts : (x : A) → i.is_value x → i.is_first x ≡ true → i.first ≡ x
  pub typed : (x : A) → wire_type_of (i.value x) ≡ i.wire_type
  pub back : (x : A) → i.is_value x → IsShort (i.value x) → i.read i.first (i.value x) ≡ Some (Some x)
  pub fits : (x : A) → i.is_value x → IsShort (i.value x) → ValueFits (i.value x)

-- the member after these values, one after the other
abbrev pub taken : {A : Type 0} → (A → Value → Option A) → A → List Value → Option A
taken take x [] = Some x
taken take x (v ∷ vs) = take x v >>= λ y. taken take y vs

-- The law of a member: the values that are written mean it and have a written form.
pub record LawfulKind {A : Type 0} (p : Kind A) : Type 0 where
  pub again : (x : A) → p.is_value x → AllByRecursion IsShort (p.values x) → taken p.take p.empty (p.values x) ≡ Some x
  pub fits : (x : A) → p.is_value x → AllByRecursion IsShort (p.values x) → AllByRecursion ValueFits (p.values x)

-- The law of a part: the fields that are written have its numbers and a written form, and mean the part. Fields of other numbers change
-- nothing.
pub record LawfulPart {A : Type 0} (p : Part A) : Type 0 where
  pub again : are_valid p.numbers ≡ true → (x : A) → p.is_value x → AreShort (p.fields x) → folded p.step p.empty (p.fields x) ≡ Some x
  pub fits : are_valid p.numbers ≡ true → (x : A) → p.is_value x → AreShort (p.fields x) → AllByRecursion Fits (p.fields x)
  pub owned : (x : A) → AllByRecursion (λ f. is_among f.number p.numbers ≡ true) (p.fields x)
  pub passes : (x : A) (f : Field) → is_among f.number p.numbers ≡ false → p.step x f ≡ Some x

-- The law of parts, which is that of a part.
pub record LawfulParts {P : Type 0} (p : Parts P) : Type 0 where
  pub again : are_valid p.numbers ≡ true → (m : P) → p.is_value m → AreShort (flat (p.groups m)) → folded p.step p.empty (flat (p.groups m)) ≡ Some m
  pub fits : are_valid p.numbers ≡ true → (m : P) → p.is_value m → AreShort (flat (p.groups m)) → AllByRecursion Fits (flat (p.groups m))
  pub owned : (m : P) → AllByRecursion (λ f. is_among f.number p.numbers ≡ true) (flat (p.groups m))
  pub passes : (m : P) (f : Field) → is_among f.number p.numbers ≡ false → p.step m f ≡ Some m

-- A message's schema: its members, each with its number. It says how a field changes the message, and which fields are written.
-- Source: the Protocol Buffers language guide for proto3, "Defining A Message Type", and the encoding guide, "Message Structure".
use Rattle.std.specs.Prelude.{ℕ, ◌+◌, List, [], ◌∷◌, ◌++◌, length, Option, Some, ◌==◌, if◌then◌else◌, map}
use Rattle.std.specs.Option.{option_map}
use Rattle.ttrpc_wire.specs.Field.{Value, Field, fields_bytes}
use Rattle.ttrpc_wire.specs.Reading.{◌>>=◌}
use Rattle.ttrpc_members.specs.Kinds.{Kind}

-- the fields of one number with these values
abbrev pub fields_at : ℕ → List Value → List Field
fields_at k values = map (λ v. record { number = k; value = v }) values

-- A part of a message: its values, the one before any field, the effect of one more field or its refusal, the fields that are written, and
-- the numbers that these may have.
pub record Part (A : Type 0) : Type 1 where
  pub is_value : A → Type 0
  pub empty : A
  pub step : A → Field → Option A
  pub fields : A → List Field
  pub numbers : List ℕ

-- a member with one number; fields of other numbers don't change it
abbrev pub member : {A : Type 0} → ℕ → Kind A → Part A
member k kind = record {
  is_value = kind.is_value;
  empty = kind.empty;
  step = λ x f. if f.number == k then kind.take x f.value else Some x;
  fields = λ x. fields_at k (kind.values x);
  numbers = k ∷ [];
}

-- ---- the parts of a message, each of which is offered each field

-- the fields of all groups, one group for each part, as one list
unfoldable pub flat : List (List Field) → List Field
flat [] = []
flat (fs ∷ groups) = fs ++ flat groups

-- bytes followed by those of each group, one group at a time
abbrev pub appended : List ℕ → List (List Field) → List ℕ
appended out [] = out
appended out (fs ∷ groups) = appended (out ++ fields_bytes fs) groups

-- the length of all groups' bytes
abbrev pub total : List (List Field) → ℕ
total [] = 0
total (fs ∷ groups) = length (fields_bytes fs) + total groups

-- Parts: like a part, with the fields of each in a group of its own.
pub record Parts (P : Type 0) : Type 1 where
  pub is_value : P → Type 0
  pub empty : P
  pub step : P → Field → Option P
  pub groups : P → List (List Field)
  pub numbers : List ℕ

-- no part
abbrev pub none : Parts (Unit {0})
none = record { is_value = λ _. Unit {0}; empty = tt; step = λ m f. Some m; groups = λ m. []; numbers = [] }

-- parts, followed by one more
abbrev pub with_part : {P A : Type 0} → Parts P → Part A → Parts (P × A)
with_part p q = record {
  is_value = λ m. p.is_value m.0 × q.is_value m.1;
  empty = (p.empty, q.empty);
  step = λ m f. p.step m.0 f >>= λ a. q.step m.1 f >>= λ b. Some (a, b);
  groups = λ m. p.groups m.0 ++ q.fields m.1 ∷ [];
  numbers = p.numbers ++ q.numbers;
}

-- the message of these parts: how a message is split into them, and how it is made of them
abbrev pub message_of : {P M : Type 0} → Parts P → (M → P) → (P → M) → Part M
message_of p parts make = record {
  is_value = λ m. p.is_value (parts m);
  empty = make p.empty;
  step = λ m f. option_map make (p.step (parts m) f);
  fields = λ m. flat (p.groups (parts m));
  numbers = p.numbers;
}

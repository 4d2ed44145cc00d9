-- A choice of members: at most one is set, the last one that was set.
-- Source: the Protocol Buffers language guide for proto3, "Oneof".
use Rattle.std.specs.Prelude.{ℕ, List, [], ◌∷◌, ◌++◌, Option, Some, None, ◌==◌, ◌⊎◌, if◌then◌else◌}
use Rattle.std.proofs.Common.{inl, inr}
use Rattle.std.specs.Option.{option_map}
use Rattle.ttrpc_wire.specs.Field.{Field}
use Rattle.ttrpc_members.specs.Items.{Item}
use Rattle.ttrpc_members.specs.Kinds.{IsOptional, taken_else}
use Rattle.ttrpc_members.specs.Laws.{is_among}
use Rattle.ttrpc_members.specs.Schema.{Part}

-- Members to choose from: the values of each, the effect of one more field on the set member, the field that is written for one, and all
-- their numbers. The effect is none, another member, or a refusal.
pub record Choices (S : Type 0) : Type 1 where
  pub is_value : S → Type 0
  pub read : Option S → Field → Option (Option S)
  pub field : S → Field
  pub numbers : List ℕ

-- no members to choose from
abbrev pub no_choice : Choices ⊥
no_choice = record { is_value = λ s. absurd s; read = λ o f. Some None; field = λ s. absurd s; numbers = [] }

-- the item of the last member, or its first item if another member is set, or none
abbrev pub right_or : {S A : Type 0} → A → Option (S ⊎ A) → A
right_or first None = first
right_or first (Some (inl s)) = first
right_or first (Some (inr x)) = x

-- the set member, if it isn't the last one
abbrev pub left_of : {S A : Type 0} → Option (S ⊎ A) → Option S
left_of None = None
left_of (Some (inl s)) = Some s
left_of (Some (inr x)) = None

-- the property of the set member
abbrev pub either : {S A : Type 0} → (S → Type 0) → (A → Type 0) → S ⊎ A → Type 0
either P Q (inl s) = P s
either P Q (inr x) = Q x

-- the field of the set member
abbrev pub either_field : {S A : Type 0} → (S → Field) → (A → Field) → S ⊎ A → Field
either_field f g (inl s) = f s
either_field f g (inr x) = g x

-- members to choose from, with an item of this number after them
abbrev pub or_item : {S A : Type 0} → Choices S → ℕ → Item A → Choices (S ⊎ A)
or_item c k i = record {
  is_value = either c.is_value i.is_value;
  read = λ o f. if f.number == k then option_map (option_map (λ x. inr x)) (i.read (right_or i.first o) f.value) else option_map (option_map (λ s. inl s)) (c.read (left_of o) f);
  field = either_field c.field (λ x. record { number = k; value = i.value x });
  numbers = c.numbers ++ k ∷ [];
}

-- the field of the set member, if there is one
abbrev pub chosen_fields : {S : Type 0} → (S → Field) → Option S → List Field
chosen_fields field None = []
chosen_fields field (Some s) = field s ∷ []

-- the set member after a field of one of the numbers: continued, another, or the same if the field has another wire type
unfoldable pub choice_take : {S C : Type 0} → Choices S → (C → S) → (S → C) → Option C → Field → Option (Option C)
choice_take c split join o f = option_map (λ t. taken_else o (option_map join t)) (c.read (option_map split o) f)

-- the part of a message that is such a choice, in the form of the type C; fields of other numbers don't change it
abbrev pub one_of : {S C : Type 0} → Choices S → (C → S) → (S → C) → Part (Option C)
one_of c split join = record {
  is_value = IsOptional (λ x. c.is_value (split x));
  empty = None;
  step = λ o f. if is_among f.number c.numbers then choice_take c split join o f else Some o;
  fields = λ o. chosen_fields c.field (option_map split o);
  numbers = c.numbers;
}

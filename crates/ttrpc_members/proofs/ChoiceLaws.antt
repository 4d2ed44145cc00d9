-- Laws of members of which at most one is set.
use Rattle.std.proofs.Common.{◌≡◌, ℕ, [], ◌∷◌, ◌++◌, Option, Some, None, true, false, nat_eq, ◌⊎◌, inl, inr, refl, ap, arith, length-append}
use Rattle.std.specs.List.{AllByRecursion}
use Rattle.std.specs.Option.{option_map}
use Rattle.ttrpc_wire.specs.Field.{Field, Fits, tag_bytes, value_bytes, field_bytes, wire_type_of}
use Rattle.ttrpc_wire.specs.Fold.{folded}
use Rattle.ttrpc_members.specs.Items.{Item}
use Rattle.ttrpc_members.specs.Kinds.{IsOptional}
use Rattle.ttrpc_members.specs.Choices.{Choices, no_choice, or_item, chosen_fields, choice_take, one_of, either, left_of}
use Rattle.ttrpc_members.specs.Laws.{is_among, are_valid, AreShort, IsShort, LawfulItem, LawfulPart}
use Rattle.ttrpc_members.proofs.FieldNumbers.{same_number, among_one, not_among_one, valid_cons, valid_apart, not_among_either, among_first, among_second}

-- What holds of members to choose from: the field that is written for one has one of the numbers and a written form and reads back, and
-- from fields of other numbers nothing is read.
pub record LawfulChoices {S : Type 0} (c : Choices S) : Type 0 where
  pub back : are_valid c.numbers ≡ true → (s : S) → c.is_value s → AreShort (c.field s ∷ []) → c.read None (c.field s) ≡ Some (Some s)
  pub fits : are_valid c.numbers ≡ true → (s : S) → c.is_value s → AreShort (c.field s ∷ []) → Fits (c.field s)
  pub owned : (s : S) → is_among (c.field s).number c.numbers ≡ true
  pub passes : (o : Option S) (f : Field) → is_among f.number c.numbers ≡ false → c.read o f ≡ Some None

pub no_choice_lawful : LawfulChoices no_choice
no_choice_lawful = record { back = λ valid s. absurd s; fits = λ valid s. absurd s; owned = λ s. absurd s; passes = λ o f e. refl }

module _ {S A : Type 0} (c : Choices S) (k : ℕ) (i : Item A) (f : LawfulChoices c) (g : LawfulItem i) where
  one_short : (x : A) → AreShort (record { number = k; value = i.value x } ∷ []) → IsShort (i.value x)
  one_short x short =
      let a = length-append (tag_bytes k (wire_type_of (i.value x))) (value_bytes (i.value x)) in
      let b = length-append (field_bytes (record { number = k; value = i.value x })) [] in
      omega (arith, a, b, short)

  -- the last number is none of the others
  apart_last : (n : ℕ) → are_valid (c.numbers ++ k ∷ []) ≡ true → is_among n c.numbers ≡ true → nat_eq n k ≡ false
  apart_last n valid own = not_among_one n k ((valid_apart c.numbers (k ∷ []) valid).apart n own)

  item_back : are_valid (c.numbers ++ k ∷ []) ≡ true → (s : S ⊎ A) → either c.is_value i.is_value s → AreShort ((or_item c k i).field s ∷ []) → (or_item c k i).read None ((or_item c k i).field s) ≡ Some (Some s)
  item_back valid (inl s) is short =
      let other = apart_last (c.field s).number valid (f.owned s) in
      let b = f.back (valid_apart c.numbers (k ∷ []) valid).first s is short in
      rw (other, b) refl
  item_back valid (inr x) is short =
      let e = same_number k in
      let b = g.back x is (one_short x short) in
      rw (e, b) refl

  item_fits : are_valid (c.numbers ++ k ∷ []) ≡ true → (s : S ⊎ A) → either c.is_value i.is_value s → AreShort ((or_item c k i).field s ∷ []) → Fits ((or_item c k i).field s)
  item_fits valid (inl s) is short = f.fits (valid_apart c.numbers (k ∷ []) valid).first s is short
  item_fits valid (inr x) is short =
      let v = (valid_cons k [] (valid_apart c.numbers (k ∷ []) valid).second).first in
      record { low = v.low; high = v.high; value = g.fits x is (one_short x short) }

  item_owned : (s : S ⊎ A) → is_among ((or_item c k i).field s).number (c.numbers ++ k ∷ []) ≡ true
  item_owned (inl s) = among_first (c.field s).number c.numbers (k ∷ []) (f.owned s)
  item_owned (inr x) = among_second k c.numbers (k ∷ []) (among_one k)

  item_passes : (o : Option (S ⊎ A)) (x : Field) → is_among x.number (c.numbers ++ k ∷ []) ≡ false → (or_item c k i).read o x ≡ Some None
  item_passes o x away =
      let both = not_among_either x.number c.numbers (k ∷ []) away in
      let other = not_among_one x.number k both.1 in
      let p = f.passes (left_of o) x both.0 in
      rw (other, p) refl

  pub or_item_lawful : LawfulChoices (or_item c k i)
  or_item_lawful = record { back = item_back; fits = item_fits; owned = item_owned; passes = item_passes }

module _ {S C : Type 0} (c : Choices S) (split : C → S) (join : S → C) (joined : (x : C) → join (split x) ≡ x) (f : LawfulChoices c) where
  chosen_again : are_valid c.numbers ≡ true → (o : Option C) → IsOptional (λ x. c.is_value (split x)) o → AreShort (chosen_fields c.field (option_map split o)) → folded (one_of c split join).step None (chosen_fields c.field (option_map split o)) ≡ Some o
  unfolding choice_take
  chosen_again valid None is short = refl
  chosen_again valid (Some x) is short =
      let own = f.owned (split x) in
      let b = f.back valid (split x) is short in
      rw (own, b) (ap (λ y. Some (Some y)) (joined x))

  chosen_fits : are_valid c.numbers ≡ true → (o : Option C) → IsOptional (λ x. c.is_value (split x)) o → AreShort (chosen_fields c.field (option_map split o)) → AllByRecursion Fits (chosen_fields c.field (option_map split o))
  chosen_fits valid None is short = tt
  chosen_fits valid (Some x) is short = (f.fits valid (split x) is short, tt)

  chosen_owned : (o : Option C) → AllByRecursion (λ x. is_among x.number c.numbers ≡ true) (chosen_fields c.field (option_map split o))
  chosen_owned None = tt
  chosen_owned (Some x) = (f.owned (split x), tt)

  chosen_passes : (o : Option C) (x : Field) → is_among x.number c.numbers ≡ false → (one_of c split join).step o x ≡ Some o
  chosen_passes o x away = rw away refl

  pub one_of_lawful : LawfulPart (one_of c split join)
  one_of_lawful = record { again = chosen_again; fits = chosen_fits; owned = chosen_owned; passes = chosen_passes }

-- Laws of kinds of members.
use Rattle.std.proofs.Common.{◌≡◌, List, [], ◌∷◌, ◌++◌, map, Option, Some, None, Bool, true, false, if◌then◌else◌, refl, sym, ap, ◌∙◌, append_assoc}
use Rattle.std.specs.List.{AllByRecursion}
use Rattle.std.proofs.lemmas.List.{append-nil}
use Rattle.ttrpc_wire.specs.Field.{ValueFits}
use Rattle.ttrpc_members.specs.Items.{Item}
use Rattle.ttrpc_members.specs.Kinds.{single_take, single_values, single, optional_take, optional_values, optional, IsOptional, repeated_take, repeated_values, repeated}
use Rattle.ttrpc_members.specs.Laws.{IsShort, LawfulItem, LawfulKind, taken}

-- ---- one item

module _ {A : Type 0} (i : Item A) (laws : LawfulItem i) where
  single_again : (b : Bool) (x : A) → i.is_first x ≡ b → i.is_value x → AllByRecursion IsShort (if b then [] else i.value x ∷ []) → taken (single_take i) i.first (if b then [] else i.value x ∷ []) ≡ Some x
  unfolding single_take
  single_again true x e is short = ap (λ y. Some y) (laws.firsts x is e)
  single_again false x e is short = let b = laws.back x is short.0 in rw b refl

  single_fits : (b : Bool) (x : A) → i.is_value x → AllByRecursion IsShort (if b then [] else i.value x ∷ []) → AllByRecursion ValueFits (if b then [] else i.value x ∷ [])
  single_fits true x is short = tt
  single_fits false x is short = (laws.fits x is short.0, tt)

pub single_lawful : {A : Type 0} (i : Item A) → LawfulItem i → LawfulKind (single i)
unfolding single_values
single_lawful i laws = record {
  again = λ x is short. single_again i laws (i.is_first x) x refl is short;
  fits = λ x is short. single_fits i laws (i.is_first x) x is short;
}

-- ---- one item that may be absent

module _ {A : Type 0} (i : Item A) (laws : LawfulItem i) where
  optional_again : (o : Option A) → IsOptional i.is_value o → AllByRecursion IsShort (optional_values i o) → taken (optional_take i) None (optional_values i o) ≡ Some o
  unfolding optional_take optional_values
  optional_again None is short = refl
  optional_again (Some x) is short = let b = laws.back x is short.0 in rw b refl

  optional_fits : (o : Option A) → IsOptional i.is_value o → AllByRecursion IsShort (optional_values i o) → AllByRecursion ValueFits (optional_values i o)
  unfolding optional_values
  optional_fits None is short = tt
  optional_fits (Some x) is short = (laws.fits x is short.0, tt)

  pub optional_lawful : LawfulKind (optional i)
  optional_lawful = record { again = optional_again; fits = optional_fits }

-- ---- items one by one

module _ {A : Type 0} (i : Item A) (laws : LawfulItem i) where
  repeated_again : (old xs : List A) → AllByRecursion i.is_value xs → AllByRecursion IsShort (map i.value xs) → taken (repeated_take i) old (map i.value xs) ≡ Some (old ++ xs)
  unfolding repeated_take
  repeated_again old [] all short = ap (λ w. Some w) (sym (append-nil old))
  repeated_again old (x ∷ xs) all short =
      let b = laws.back x all.0 short.0 in
      let rest = repeated_again (old ++ x ∷ []) xs all.1 short.1 in
      rw b (rest ∙ ap (λ w. Some w) (append_assoc old (x ∷ []) xs))

  pub repeated_fits : (xs : List A) → AllByRecursion i.is_value xs → AllByRecursion IsShort (map i.value xs) → AllByRecursion ValueFits (map i.value xs)
  repeated_fits [] all short = tt
  repeated_fits (x ∷ xs) all short = (laws.fits x all.0 short.0, repeated_fits xs all.1 short.1)

pub repeated_lawful : {A : Type 0} (i : Item A) → LawfulItem i → LawfulKind (repeated i)
unfolding repeated_values
repeated_lawful i laws = record {
  again = λ xs all short. repeated_again i laws [] xs all short;
  fits = λ xs all short. repeated_fits i laws xs all short;
}

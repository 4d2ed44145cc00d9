-- Laws of a message's parts: of a member of a number, of several parts, and of the message.
use Rattle.std.proofs.Common.{◌≡◌, ◌+◌, ℕ, List, [], ◌∷◌, ◌++◌, length, Option, Some, None, Bool, true, false, refl, sym, ap, ◌∙◌, arith, length-append, append_assoc}
use Rattle.std.specs.List.{AllByRecursion}
use Rattle.std.specs.Option.{option_map}
use Rattle.std.proofs.lemmas.List.{append-nil}
use Rattle.ttrpc_wire.specs.Field.{Value, ValueFits, Field, Fits, tag_bytes, field_bytes, fields_bytes, value_bytes, wire_type_of}
use Rattle.ttrpc_wire.specs.Reading.{◌>>=◌}
use Rattle.ttrpc_wire.specs.Fold.{folded}
use Rattle.ttrpc_wire.proofs.Written.{fold_then, length-fields_bytes-append}
use Rattle.ttrpc_members.specs.Kinds.{Kind}
use Rattle.ttrpc_members.specs.Schema.{fields_at, Part, member, flat, Parts, none, with_part, message_of}
use Rattle.ttrpc_members.specs.Laws.{is_among, are_valid, AreShort, IsShort, LawfulKind, taken, LawfulPart, LawfulParts}
use Rattle.ttrpc_members.proofs.FieldNumbers.{same_number, among_one, not_among_one, IsValid, valid_cons, valid_apart, not_among_either, among_first, among_second}

-- ---- a member

length-cons : (k : ℕ) (v : Value) (fs : List Field) → length (fields_bytes (record { number = k; value = v } ∷ fs)) ≡ length (tag_bytes k (wire_type_of v)) + length (value_bytes v) + length (fields_bytes fs)
length-cons k v fs =
    let f : Field = record { number = k; value = v } in
    let a = length-append (tag_bytes k (wire_type_of v)) (value_bytes v) in
    let b = length-append (field_bytes f) (fields_bytes fs) in
    omega (arith, a, b)

each_short : (k : ℕ) (vs : List Value) → AreShort (fields_at k vs) → AllByRecursion IsShort vs
each_short k [] short = tt
each_short k (v ∷ vs) short = let l = length-cons k v (fields_at k vs) in (omega (arith, l), each_short k vs (omega (arith, l)))

module _ {A : Type 0} (k : ℕ) (kind : Kind A) where
  member_folded : (x : A) (vs : List Value) → folded (member k kind).step x (fields_at k vs) ≡ taken kind.take x vs
  member_folded x [] = refl
  member_folded x (v ∷ vs) = let e = same_number k in rw e (on (kind.take x v) vs (λ y. member_folded y vs))
    where
      on : (o : Option A) (vs : List Value) → ((y : A) → folded (member k kind).step y (fields_at k vs) ≡ taken kind.take y vs)
          → (o >>= λ y. folded (member k kind).step y (fields_at k vs)) ≡ (o >>= λ y. taken kind.take y vs)
      on None vs h = refl
      on (Some y) vs h = h y

  fields_fit : (vs : List Value) → IsValid k → AllByRecursion ValueFits vs → AllByRecursion Fits (fields_at k vs)
  fields_fit [] valid all = tt
  fields_fit (v ∷ vs) valid all = (record { low = valid.low; high = valid.high; value = all.0 }, fields_fit vs valid all.1)

  fields_owned : (vs : List Value) → AllByRecursion (λ f. is_among f.number (k ∷ []) ≡ true) (fields_at k vs)
  fields_owned [] = tt
  fields_owned (v ∷ vs) = (among_one k, fields_owned vs)

  pub member_lawful : LawfulKind kind → LawfulPart (member k kind)
  member_lawful laws = record {
    again = λ valid x is short. member_folded kind.empty (kind.values x) ∙ laws.again x is (each_short k (kind.values x) short);
    fits = λ valid x is short. fields_fit (kind.values x) (valid_cons k [] valid).first (laws.fits x is (each_short k (kind.values x) short));
    owned = λ x. fields_owned (kind.values x);
    passes = λ x f e. let other = not_among_one f.number k e in rw other refl;
  }

-- ---- fields of several parts

all_then : (P : Field → Type 0) (fs gs : List Field) → AllByRecursion P fs → AllByRecursion P gs → AllByRecursion P (fs ++ gs)
all_then P [] gs a b = b
all_then P (f ∷ fs) gs a b = (a.0, all_then P fs gs a.1 b)

all_map : (P Q : Field → Type 0) (fs : List Field) → ((f : Field) → P f → Q f) → AllByRecursion P fs → AllByRecursion Q fs
all_map P Q [] h a = tt
all_map P Q (f ∷ fs) h a = (h f a.0, all_map P Q fs h a.1)

pub flat-push : (groups : List (List Field)) (fs : List Field) → flat (groups ++ fs ∷ []) ≡ flat groups ++ fs
unfolding flat
flat-push [] fs = append-nil fs
flat-push (gs ∷ groups) fs = ap (λ w. gs ++ w) (flat-push groups fs) ∙ sym (append_assoc gs (flat groups) fs)

-- ---- parts

pub none_lawful : LawfulParts none
unfolding flat
none_lawful = record { again = λ valid x is short. refl; fits = λ valid x is short. tt; owned = λ x. tt; passes = λ x f e. refl }

module _ {A B : Type 0} (p : Parts A) (q : Part B) where
  abbrev one_by_one : A × B → Field → Option (A × B)
  one_by_one = (with_part p q).step

  -- fields that the second passes over are those of the first
  first_alone : (x : A) (y : B) (fs : List Field) → AllByRecursion (λ f. q.step y f ≡ Some y) fs → folded one_by_one (x, y) fs ≡ (folded p.step x fs >>= λ z. Some (z, y))
  first_alone x y [] all = refl
  first_alone x y (f ∷ fs) all =
      rw all.0 (first_on (p.step x f) y fs (λ z. first_alone z y fs all.1))
    where
      first_on : (o : Option A) (y : B) (fs : List Field) → ((z : A) → folded one_by_one (z, y) fs ≡ (folded p.step z fs >>= λ z. Some (z, y)))
          → ((o >>= λ a. Some (a, y)) >>= λ m. folded one_by_one m fs) ≡ ((o >>= λ n. folded p.step n fs) >>= λ z. Some (z, y))
      first_on None y fs h = refl
      first_on (Some z) y fs h = h z

  second_alone : (x : A) (y : B) (fs : List Field) → AllByRecursion (λ f. p.step x f ≡ Some x) fs → folded one_by_one (x, y) fs ≡ (folded q.step y fs >>= λ z. Some (x, z))
  second_alone x y [] all = refl
  second_alone x y (f ∷ fs) all =
      rw all.0 (second_on (q.step y f) x fs (λ z. second_alone x z fs all.1))
    where
      second_on : (o : Option B) (x : A) (fs : List Field) → ((z : B) → folded one_by_one (x, z) fs ≡ (folded q.step z fs >>= λ z. Some (x, z)))
          → ((o >>= λ b. Some (x, b)) >>= λ m. folded one_by_one m fs) ≡ ((o >>= λ n. folded q.step n fs) >>= λ z. Some (x, z))
      second_on None x fs h = refl
      second_on (Some z) x fs h = h z

module _ {A B : Type 0} (p : Parts A) (q : Part B) (f : LawfulParts p) (g : LawfulPart q) where
  abbrev Has : List ℕ → Field → Type 0
  Has ns x = is_among x.number ns ≡ true

  abbrev firsts : A → List Field
  firsts a = flat (p.groups a)

  with_again : are_valid (p.numbers ++ q.numbers) ≡ true → (m : A × B) → p.is_value m.0 × q.is_value m.1 → AreShort (firsts m.0 ++ q.fields m.1) → folded (with_part p q).step (p.empty, q.empty) (firsts m.0 ++ q.fields m.1) ≡ Some m
  with_again valid m is short =
      let v = valid_apart p.numbers q.numbers valid in
      let l = length-fields_bytes-append (firsts m.0) (q.fields m.1) in
      let one = f.again v.first m.0 is.0 (omega (arith, l)) in
      let two = g.again v.second m.1 is.1 (omega (arith, l)) in
      let past = all_map (Has p.numbers) (λ x. q.step q.empty x ≡ Some q.empty) (firsts m.0) (λ x own. g.passes q.empty x (v.apart x.number own)) (f.owned m.0) in
      let behind = all_map (Has q.numbers) (λ x. p.step m.0 x ≡ Some m.0) (q.fields m.1) (λ x own. f.passes m.0 x (apart_back x.number own v.apart)) (g.owned m.1) in
      fold_then (with_part p q).step (p.empty, q.empty) (m.0, q.empty) m (firsts m.0) (q.fields m.1)
      (first_alone p q p.empty q.empty (firsts m.0) past ∙ ap (λ o. o >>= λ z. Some (z, q.empty)) one)
      (second_alone p q m.0 q.empty (q.fields m.1) behind ∙ ap (λ o. o >>= λ z. Some (m.0, z)) two)
    where
      by_case : (b : Bool) (n : ℕ) → is_among n p.numbers ≡ b → is_among n q.numbers ≡ true → (is_among n p.numbers ≡ true → is_among n q.numbers ≡ false) → is_among n p.numbers ≡ false
      by_case false n e own apart = e
      by_case true n e own apart = let no = apart e in absurd cc

      apart_back : (n : ℕ) → is_among n q.numbers ≡ true → ((k : ℕ) → is_among k p.numbers ≡ true → is_among k q.numbers ≡ false) → is_among n p.numbers ≡ false
      apart_back n own apart = by_case (is_among n p.numbers) n refl own (apart n)

  with_fits : are_valid (p.numbers ++ q.numbers) ≡ true → (m : A × B) → p.is_value m.0 × q.is_value m.1 → AreShort (firsts m.0 ++ q.fields m.1) → AllByRecursion Fits (firsts m.0 ++ q.fields m.1)
  with_fits valid m is short =
      let v = valid_apart p.numbers q.numbers valid in
      let l = length-fields_bytes-append (firsts m.0) (q.fields m.1) in
      all_then Fits (firsts m.0) (q.fields m.1) (f.fits v.first m.0 is.0 (omega (arith, l))) (g.fits v.second m.1 is.1 (omega (arith, l)))

  with_owned : (m : A × B) → AllByRecursion (Has (p.numbers ++ q.numbers)) (firsts m.0 ++ q.fields m.1)
  with_owned m =
      all_then (Has (p.numbers ++ q.numbers)) (firsts m.0) (q.fields m.1)
      (all_map (Has p.numbers) (Has (p.numbers ++ q.numbers)) (firsts m.0) (λ x own. among_first x.number p.numbers q.numbers own) (f.owned m.0))
      (all_map (Has q.numbers) (Has (p.numbers ++ q.numbers)) (q.fields m.1) (λ x own. among_second x.number p.numbers q.numbers own) (g.owned m.1))

  with_passes : (m : A × B) (x : Field) → is_among x.number (p.numbers ++ q.numbers) ≡ false → (with_part p q).step m x ≡ Some m
  with_passes m x away =
      let other = not_among_either x.number p.numbers q.numbers away in
      let e = f.passes m.0 x other.0 in
      let h = g.passes m.1 x other.1 in
      rw (e, h) refl

  pub with_lawful : LawfulParts (with_part p q)
  with_lawful = record {
    again = λ valid m is. let e = flat-push (p.groups m.0) (q.fields m.1) in rw e (with_again valid m is);
    fits = λ valid m is. let e = flat-push (p.groups m.0) (q.fields m.1) in rw e (with_fits valid m is);
    owned = λ m. let e = flat-push (p.groups m.0) (q.fields m.1) in rw e (with_owned m);
    passes = with_passes;
  }

-- ---- a message

module _ {P M : Type 0} (p : Parts P) (parts : M → P) (make : P → M) (parted : (x : P) → parts (make x) ≡ x) (made : (m : M) → make (parts m) ≡ m) where
  seen_folded : (x : P) (fs : List Field) → folded (message_of p parts make).step (make x) fs ≡ option_map make (folded p.step x fs)
  seen_folded x [] = refl
  seen_folded x (f ∷ fs) =
      ap (λ y. option_map make (p.step y f) >>= λ m. folded (message_of p parts make).step m fs) (parted x) ∙ on (p.step x f) fs (λ y. seen_folded y fs)
    where
      on : (o : Option P) (fs : List Field) → ((y : P) → folded (message_of p parts make).step (make y) fs ≡ option_map make (folded p.step y fs))
          → (option_map make o >>= λ m. folded (message_of p parts make).step m fs) ≡ option_map make (o >>= λ y. folded p.step y fs)
      on None fs h = refl
      on (Some y) fs h = h y

  pub message_lawful : LawfulParts p → LawfulPart (message_of p parts make)
  message_lawful f = record {
    again = λ valid m is short. seen_folded p.empty (flat (p.groups (parts m))) ∙ ap (option_map make) (f.again valid (parts m) is short) ∙ ap (λ x. Some x) (made m);
    fits = λ valid m is short. f.fits valid (parts m) is short;
    owned = λ m. f.owned (parts m);
    passes = λ m x away. ap (option_map make) (f.passes (parts m) x away) ∙ ap (λ x. Some x) (made m);
  }

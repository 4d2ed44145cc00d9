-- Bytes that the rules take read as their message: each item, kind of member and part takes the values that its content allows.
use Rattle.std.proofs.Common.{◌≡◌, ◌≢◌, ◌≤◌, ◌+◌, ◌-◌, ℕ, zero, suc, List, [], ◌∷◌, length, Option, Some, None, Bool, true, false, nat_eq, ◌⊎◌, inl, inr, if◌then◌else◌, unwrap_or, refl, subst, arith}
use Rattle.std.specs.Option.{option_map}
use Rattle.std.specs.Str.{is_utf8}
use Rattle.std.proofs.lemmas.Bool.{eqb-true}
use Rattle.std.specs.declared.cmp.Ordering.{Ordering}
use Rattle.ttrpc_wire.specs.Field.{Value, Varint, Fixed64, LengthDelimited, Fixed32, Field}
use Rattle.ttrpc_wire.specs.Reading.{◌>>=◌, fields_of, value_at}
use Rattle.ttrpc_wire.specs.Fold.{folded, read_from}
use Rattle.ttrpc_members.specs.declared.nesting.Content.{Content}
use Rattle.ttrpc_members.specs.declared.nesting.Content.TheVariants as content
use Rattle.ttrpc_members.specs.declared.nesting.Rule.{Rule}
use Rattle.ttrpc_members.specs.Items.{Item, Coding, text, bytes, nested, enclosed, as_varint, as_fixed64, as_fixed32}
use Rattle.ttrpc_members.specs.Kinds.{Kind, single, single_take, taken_or, optional, optional_take, taken_else, repeated, repeated_take, one_more, packed, packed_take, packed_upto, packed_from}
use Rattle.ttrpc_members.specs.Laws.{is_among}
use Rattle.ttrpc_members.specs.Schema.{Part, Parts, member, none, with_part, message_of}
use Rattle.ttrpc_members.specs.Maps.{always, entry, entry_item, inserted, map_take, map_of}
use Rattle.ttrpc_members.specs.Choices.{Choices, no_choice, or_item, right_or, left_of, choice_take, one_of}
use Rattle.ttrpc_members.specs.Nesting.{content_of, value_in, field_in, numbers_upto, numbers_in, nested_upto, within}

-- ---- options

pub some_is : {A : Type 0} (x : A) → Some x ≢ None
some_is x e = cc

map_is : {A B : Type 0} (f : A → B) (o : Option A) → o ≢ None → option_map f o ≢ None
map_is f None h = λ e. h refl
map_is f (Some x) h = some_is (f x)

bind_is : {A B : Type 0} (o : Option A) (f : A → Option B) → o ≢ None → ((x : A) → f x ≢ None) → (o >>= f) ≢ None
bind_is None f h g = λ e. h refl
bind_is (Some x) f h g = g x

-- ---- from each field to all of them

module _ {M : Type 0} (step : M → Field → Option M) (takes : Unit {0} → Field → Option (Unit {0})) (each : (m : M) (f : Field) → takes tt f ≡ Some tt → step m f ≢ None) where
  folded_is : (m : M) (fs : List Field) → folded takes tt fs ≡ Some tt → folded step m fs ≢ None
  folded_is m [] e = some_is m
  folded_is m (f ∷ fs) e = by_first (takes tt f) refl e (λ n h. folded_is n fs h)
    where
      by_first : (o : Option (Unit {0})) → takes tt f ≡ o → (o >>= λ u. folded takes u fs) ≡ Some tt → ((n : M) → folded takes tt fs ≡ Some tt → folded step n fs ≢ None) → (step m f >>= λ n. folded step n fs) ≢ None
      by_first None first e h = absurd cc
      by_first (Some u) first e h = bind_is (step m f) (λ n. folded step n fs) (each m f first) (λ n. h n e)

  pub read_is : (m : M) (b : List ℕ) → read_from takes tt b ≡ Some tt → read_from step m b ≢ None
  unfolding read_from
  read_is m b e = by_fields (fields_of b) e
    where
      by_fields : (o : Option (List Field)) → (o >>= folded takes tt) ≡ Some tt → (o >>= folded step m) ≢ None
      by_fields None e = absurd cc
      by_fields (Some fs) e = folded_is m fs e

-- ---- more levels take no less

pub folded_more : (takes more : Unit {0} → Field → Option (Unit {0})) → ((f : Field) → takes tt f ≡ Some tt → more tt f ≡ Some tt) → (fs : List Field) → folded takes tt fs ≡ Some tt → folded more tt fs ≡ Some tt
folded_more takes more each [] e = refl
folded_more takes more each (f ∷ fs) e = by_first (takes tt f) refl e (λ h. folded_more takes more each fs h)
  where
    by_first : (o : Option (Unit {0})) → takes tt f ≡ o → (o >>= λ u. folded takes u fs) ≡ Some tt → (folded takes tt fs ≡ Some tt → folded more tt fs ≡ Some tt) → (more tt f >>= λ u. folded more u fs) ≡ Some tt
    by_first None first e h = absurd cc
    by_first (Some u) first e h = let m = each f first in rw m (h e)

read_more : (takes more : Unit {0} → Field → Option (Unit {0})) → ((f : Field) → takes tt f ≡ Some tt → more tt f ≡ Some tt) → (b : List ℕ) → read_from takes tt b ≡ Some tt → read_from more tt b ≡ Some tt
unfolding read_from
read_more takes more each b e = by_fields (fields_of b) e
  where
    by_fields : (o : Option (List Field)) → (o >>= folded takes tt) ≡ Some tt → (o >>= folded more tt) ≡ Some tt
    by_fields None e = absurd cc
    by_fields (Some fs) e = folded_more takes more each fs e

pub value_more : (inner more : ℕ → List ℕ → Option (Unit {0})) → ((m : ℕ) (b : List ℕ) → inner m b ≡ Some tt → more m b ≡ Some tt) → (c : Option Content) (v : Value) → value_in inner c v ≡ Some tt → value_in more c v ≡ Some tt
value_more inner more h None v e = e
value_more inner more h (Some c) (Varint n) e = e
value_more inner more h (Some c) (Fixed64 n) e = e
value_more inner more h (Some c) (Fixed32 n) e = e
value_more inner more h (Some content.Text) (LengthDelimited b) e = e
value_more inner more h (Some (content.Numbers type)) (LengthDelimited b) e = e
value_more inner more h (Some (content.Message m)) (LengthDelimited b) e = h m b e

level_more : (rules : List Rule) (k message : ℕ) (b : List ℕ) → nested_upto rules k message b ≡ Some tt → nested_upto rules (suc k) message b ≡ Some tt
unfolding nested_upto
level_more rules zero message b e = absurd cc
level_more rules (suc k) message b e =
    read_more (field_in rules (λ m b. nested_upto rules k m b) message) (field_in rules (λ m b. nested_upto rules (suc k) m b) message)
    (λ f h. value_more (λ m b. nested_upto rules k m b) (λ m b. nested_upto rules (suc k) m b) (λ m b i. level_more rules k m b i) (content_of rules message f.number) f.value h) b e

pub levels_more : (rules : List Rule) (d k message : ℕ) (b : List ℕ) → nested_upto rules k message b ≡ Some tt → nested_upto rules (d + k) message b ≡ Some tt
levels_more rules zero k message b e = let z : 0 + k ≡ k = omega arith in rw z e
levels_more rules (suc d) k message b e = let s : suc d + k ≡ suc (d + k) = omega arith in rw s (level_more rules (d + k) message b (levels_more rules d k message b e))

pub deep_within : (rules : List Rule) (k message : ℕ) (b : List ℕ) → k ≤ 100 → nested_upto rules k message b ≡ Some tt → within rules message b ≡ Some tt
unfolding within
deep_within rules k message b low e =
    let s : (100 - k) + k ≡ 100 = omega (arith, low) in
    subst (λ (n : ℕ). nested_upto rules n message b ≡ Some tt) s (levels_more rules (100 - k) k message b e)

-- ---- what each takes, at k levels, where this content is wanted

module _ (rules : List Rule) (k : ℕ) where
  abbrev pub Allowed : Option Content → Value → Type 0
  Allowed c v = value_in (λ m b. nested_upto rules k m b) c v ≡ Some tt

  abbrev pub TakesItem : {A : Type 0} → Option Content → Item A → Type 0
  TakesItem {A} c i = (x : A) (v : Value) → Allowed c v → i.read x v ≢ None

  abbrev pub TakesKind : {A : Type 0} → Option Content → Kind A → Type 0
  TakesKind {A} c p = (x : A) (v : Value) → Allowed c v → p.take x v ≢ None

  abbrev pub AllowedField : ℕ → Field → Type 0
  AllowedField message f = field_in rules (λ m b. nested_upto rules k m b) message tt f ≡ Some tt

  abbrev pub TakesPart : {A : Type 0} → ℕ → Part A → Type 0
  TakesPart {A} message p = (x : A) (f : Field) → AllowedField message f → p.step x f ≢ None

  abbrev pub TakesParts : {P : Type 0} → ℕ → Parts P → Type 0
  TakesParts {P} message p = (x : P) (f : Field) → AllowedField message f → p.step x f ≢ None

  abbrev pub TakesChoices : {S : Type 0} → ℕ → Choices S → Type 0
  TakesChoices {S} message c = (o : Option S) (f : Field) → AllowedField message f → c.read o f ≢ None

  -- ---- items

  abbrev ok : Option (Unit {0})
  ok = Some tt

  text_if : (b : List ℕ) (u : Bool) → (if u then ok else None) ≡ ok → option_map (λ x. Some x) (if u then Some b else None) ≢ None
  text_if b true e = some_is (Some b)
  text_if b false e = absurd cc

  pub text_takes : TakesItem (Some content.Text) text
  text_takes x (LengthDelimited b) e = text_if b (is_utf8 b) e
  text_takes x (Varint n) e = some_is None
  text_takes x (Fixed64 n) e = some_is None
  text_takes x (Fixed32 n) e = some_is None

  pub bytes_takes : (c : Option Content) → TakesItem c bytes
  bytes_takes c x (LengthDelimited b) e = some_is (Some b)
  bytes_takes c x (Varint n) e = some_is None
  bytes_takes c x (Fixed64 n) e = some_is None
  bytes_takes c x (Fixed32 n) e = some_is None

  pub varint_takes : {A : Type 0} (n : Coding A) (c : Option Content) → TakesItem c (as_varint n)
  varint_takes n c x (LengthDelimited b) e = some_is None
  varint_takes n c x (Varint m) e = some_is (Some (n.decode m))
  varint_takes n c x (Fixed64 m) e = some_is None
  varint_takes n c x (Fixed32 m) e = some_is None

  pub fixed64_takes : {A : Type 0} (n : Coding A) (c : Option Content) → TakesItem c (as_fixed64 n)
  fixed64_takes n c x (LengthDelimited b) e = some_is None
  fixed64_takes n c x (Varint m) e = some_is None
  fixed64_takes n c x (Fixed64 m) e = some_is (Some (n.decode m))
  fixed64_takes n c x (Fixed32 m) e = some_is None

  pub fixed32_takes : {A : Type 0} (n : Coding A) (c : Option Content) → TakesItem c (as_fixed32 n)
  fixed32_takes n c x (LengthDelimited b) e = some_is None
  fixed32_takes n c x (Varint m) e = some_is None
  fixed32_takes n c x (Fixed64 m) e = some_is None
  fixed32_takes n c x (Fixed32 m) e = some_is (Some (n.decode m))

  pub enclosed_takes : k ≤ 100 → (message : ℕ) → TakesItem (Some (content.Message message)) (enclosed (within rules message))
  enclosed_takes low message x (LengthDelimited b) e = let w = deep_within rules k message b low e in rw w (some_is _)
  enclosed_takes low message x (Varint n) e = some_is None
  enclosed_takes low message x (Fixed64 n) e = some_is None
  enclosed_takes low message x (Fixed32 n) e = some_is None

  -- ---- kinds of members

  pub single_takes : {A : Type 0} (c : Option Content) (i : Item A) → TakesItem c i → TakesKind c (single i)
  unfolding single_take
  single_takes c i h x v e = map_is (taken_or x) (i.read x v) (h x v e)

  pub optional_takes : {A : Type 0} (c : Option Content) (i : Item A) → TakesItem c i → TakesKind c (optional i)
  unfolding optional_take
  optional_takes c i h x v e = map_is (taken_else x) (i.read (unwrap_or x i.first) v) (h (unwrap_or x i.first) v e)

  pub repeated_takes : {A : Type 0} (c : Option Content) (i : Item A) → TakesItem c i → TakesKind c (repeated i)
  unfolding repeated_take
  repeated_takes c i h x v e = map_is (one_more x) (i.read i.first v) (h i.first v e)

  pub always_takes : {A : Type 0} (c : Option Content) (i : Item A) → TakesItem c i → TakesKind c (always i)
  unfolding single_take
  always_takes c i h x v e = map_is (taken_or x) (i.read x v) (h x v e)

  -- ---- parts

  module _ {A : Type 0} (message n : ℕ) (kind : Kind A) (h : TakesKind (content_of rules message n) kind) where
    by_number : (b : Bool) (x : A) (f : Field) → nat_eq f.number n ≡ b → AllowedField message f → (if b then kind.take x f.value else Some x) ≢ None
    by_number true x f e allowed = h x f.value (subst (λ (m : ℕ). Allowed (content_of rules message m) f.value) (eqb-true f.number n e) allowed)
    by_number false x f e allowed = some_is x

    pub member_takes : TakesPart message (member n kind)
    member_takes x f allowed = by_number (nat_eq f.number n) x f refl allowed

  pub none_takes : (message : ℕ) → TakesParts message none
  none_takes message x f allowed = some_is x

  pub with_takes : {P A : Type 0} (message : ℕ) (p : Parts P) (q : Part A) → TakesParts message p → TakesPart message q → TakesParts message (with_part p q)
  with_takes message p q first second x f allowed =
      bind_is (p.step x.0 f) _ (first x.0 f allowed) (λ a. bind_is (q.step x.1 f) _ (second x.1 f allowed) (λ b. some_is (a, b)))

  pub message_takes : {P M : Type 0} (message : ℕ) (p : Parts P) (split : M → P) (join : P → M) → TakesParts message p → TakesPart message (message_of p split join)
  message_takes message p split join h x f allowed = map_is join (p.step (split x) f) (h (split x) f allowed)

  -- ---- members of which at most one is set

  pub no_choice_takes : (message : ℕ) → TakesChoices message no_choice
  no_choice_takes message o f allowed = some_is None

  module _ {S A : Type 0} (message n : ℕ) (c : Choices S) (i : Item A) (first : TakesChoices message c) (h : TakesItem (content_of rules message n) i) where
    by_choice : (b : Bool) (o : Option (S ⊎ A)) (f : Field) → nat_eq f.number n ≡ b → AllowedField message f
        → (if b then option_map (option_map (λ x. inr x)) (i.read (right_or i.first o) f.value) else option_map (option_map (λ s. inl s)) (c.read (left_of o) f)) ≢ None
    by_choice true o f e allowed = map_is _ (i.read (right_or i.first o) f.value) (h (right_or i.first o) f.value (subst (λ (m : ℕ). Allowed (content_of rules message m) f.value) (eqb-true f.number n e) allowed))
    by_choice false o f e allowed = map_is _ (c.read (left_of o) f) (first (left_of o) f allowed)

    pub or_takes : TakesChoices message (or_item c n i)
    or_takes o f allowed = by_choice (nat_eq f.number n) o f refl allowed

  choice_taken : {S C : Type 0} (message : ℕ) (c : Choices S) (split : C → S) (join : S → C) → TakesChoices message c → (o : Option C) (f : Field) → AllowedField message f → choice_take c split join o f ≢ None
  unfolding choice_take
  choice_taken message c split join h o f allowed = map_is _ (c.read (option_map split o) f) (h (option_map split o) f allowed)

  pub one_of_takes : {S C : Type 0} (message : ℕ) (c : Choices S) (split : C → S) (join : S → C) → TakesChoices message c → TakesPart message (one_of c split join)
  one_of_takes message c split join h o f allowed = by_among (is_among f.number c.numbers)
    where
      by_among : (b : Bool) → (if b then choice_take c split join o f else Some o) ≢ None
      by_among true = choice_taken message c split join h o f allowed
      by_among false = some_is o

-- ---- numbers in one value

module _ {A : Type 0} (i : Item A) (reads : (x : A) (v : Value) → i.read x v ≢ None) where
  upto_is : (k : ℕ) (old : List A) (b : List ℕ) → numbers_upto k i.wire_type b ≡ Some tt → packed_upto i k old b ≢ None
  unfolding numbers_upto packed_upto repeated_take
  upto_is k old [] e = some_is old
  upto_is zero old (x ∷ b) e = absurd cc
  upto_is (suc k) old (x ∷ b) e = by_value (value_at i.wire_type (x ∷ b)) e (λ xs rest h. upto_is k xs rest h)
    where
      by_value : (o : Option (Value × List ℕ)) → (o >>= λ y. numbers_upto k i.wire_type y.1) ≡ Some tt → ((xs : List A) (rest : List ℕ) → numbers_upto k i.wire_type rest ≡ Some tt → packed_upto i k xs rest ≢ None)
          → (o >>= λ y. repeated_take i old y.0 >>= λ xs. packed_upto i k xs y.1) ≢ None
      by_value None e h = absurd cc
      by_value (Some y) e h = bind_is (repeated_take i old y.0) _ (map_is (one_more old) (i.read i.first y.0) (reads i.first y.0)) (λ xs. h xs y.1 e)

  pub packed_takes : (rules : List Rule) (k : ℕ) → TakesKind rules k (Some (content.Numbers i.wire_type)) (packed i)
  unfolding packed_take packed_from numbers_in repeated_take
  packed_takes rules k x (LengthDelimited b) e = upto_is (length b) x b e
  packed_takes rules k x (Varint n) e = map_is (one_more x) (i.read i.first (Varint n)) (reads i.first (Varint n))
  packed_takes rules k x (Fixed64 n) e = map_is (one_more x) (i.read i.first (Fixed64 n)) (reads i.first (Fixed64 n))
  packed_takes rules k x (Fixed32 n) e = map_is (one_more x) (i.read i.first (Fixed32 n)) (reads i.first (Fixed32 n))

-- ---- messages in messages

-- what a part takes at each level
abbrev pub TakesAlways : {A : Type 0} → List Rule → ℕ → Part A → Type 0
TakesAlways rules message p = (k : ℕ) → k ≤ 100 → TakesPart rules k message p

module _ (rules : List Rule) (message : ℕ) where
  level_reads : {M : Type 0} (p : Part M) → TakesAlways rules message p → (k : ℕ) → k ≤ 100 → (m : M) (b : List ℕ) → nested_upto rules k message b ≡ Some tt → read_from p.step m b ≢ None
  unfolding nested_upto
  level_reads p h zero low m b e = absurd cc
  level_reads p h (suc k) low m b e = read_is p.step (field_in rules (λ m b. nested_upto rules k m b) message) (h k (omega (arith, low))) m b e

  pub nested_takes : {M : Type 0} (p : Part M) → TakesAlways rules message p → (k : ℕ) → k ≤ 100 → TakesItem rules k (Some (content.Message message)) (nested p.is_value p.empty p.step p.fields)
  nested_takes p h k low x (LengthDelimited b) e = map_is (λ y. Some y) (read_from p.step x b) (level_reads p h k low x b e)
  nested_takes p h k low x (Varint n) e = some_is None
  nested_takes p h k low x (Fixed64 n) e = some_is None
  nested_takes p h k low x (Fixed32 n) e = some_is None

  -- bytes that are taken read as the message
  pub within_reads : {M : Type 0} (p : Part M) → TakesAlways rules message p → (b : List ℕ) → within rules message b ≡ Some tt → read_from p.step p.empty b ≢ None
  unfolding within
  within_reads p h b e = level_reads p h 100 (omega arith) p.empty b e

module _ {K V : Type 0} (rules : List Rule) (e : ℕ) (key : Item K) (value : Item V)
    (first : (k : ℕ) → k ≤ 100 → TakesItem rules k (content_of rules e 1) key) (second : (k : ℕ) → k ≤ 100 → TakesItem rules k (content_of rules e 2) value) where
  entry_takes : TakesAlways rules e (entry key value)
  entry_takes k low =
      let one = member_takes rules k e 1 (always key) (always_takes rules k (content_of rules e 1) key (first k low)) in
      let two = member_takes rules k e 2 (always value) (always_takes rules k (content_of rules e 2) value (second k low)) in
      message_takes rules k e (with_part (with_part none (member 1 (always key))) (member 2 (always value))) (λ e. ((tt, e.0), e.1)) (λ x. (x.0.1, x.1))
      (with_takes rules k e (with_part none (member 1 (always key))) (member 2 (always value)) (with_takes rules k e none (member 1 (always key)) (none_takes rules k e) one) two)

  pub map_takes : (order : K → K → Ordering) (k : ℕ) → k ≤ 100 → TakesKind rules k (Some (content.Message e)) (map_of order (entry_item key value))
  unfolding map_take
  map_takes order k low x v allowed = map_is (inserted order x) ((entry_item key value).read (entry_item key value).first v) (nested_takes rules e (entry key value) entry_takes k low (entry_item key value).first v allowed)

-- What a message takes, the rules take in some number of levels: each item, kind of member and part takes only what its content allows.
use Rattle.std.proofs.Common.{◌≡◌, ◌≢◌, ◌+◌, ℕ, zero, suc, List, [], ◌∷◌, ◌++◌, length, drop, Option, Some, None, Bool, true, false, nat_eq, ◌⊎◌, inl, inr, if◌then◌else◌, unwrap_or, refl, sym, ap, subst, ◌∙◌, arith}
use Rattle.std.specs.Option.{option_map}
use Rattle.std.specs.Str.{is_utf8}
use Rattle.std.proofs.lemmas.Bool.{eqb-true}
use Rattle.std.specs.declared.cmp.Ordering.{Ordering}
use Rattle.ttrpc_wire.specs.Field.{Value, Varint, Fixed64, LengthDelimited, Fixed32, Field}
use Rattle.ttrpc_wire.specs.Reading.{◌>>=◌, fields_of, value_at}
use Rattle.ttrpc_wire.specs.Fold.{folded, read_from}
use Rattle.ttrpc_members.specs.declared.nesting.Content.{Content}
use Rattle.ttrpc_members.specs.declared.nesting.Content.TheVariants as content
use Rattle.ttrpc_members.specs.declared.nesting.Rule.{Rule}
use Rattle.ttrpc_members.specs.Items.{Item, text, nested, enclosed}
use Rattle.ttrpc_members.specs.Kinds.{Kind, single, single_take, taken_or, optional, optional_take, taken_else, repeated, repeated_take, one_more, packed, packed_take, packed_upto, packed_from}
use Rattle.ttrpc_members.specs.Schema.{Part, Parts, member, none, with_part, message_of}
use Rattle.ttrpc_members.specs.Maps.{always, entry, entry_item, inserted, map_take, map_of}
use Rattle.ttrpc_members.specs.Choices.{Choices, no_choice, or_item, right_or, left_of, choice_take, one_of}
use Rattle.ttrpc_members.specs.Laws.{is_among}
use Rattle.ttrpc_members.specs.Nesting.{content_from, content_of, value_in, field_in, numbers_upto, numbers_in, nested_upto, within}
use Rattle.ttrpc_members.proofs.Takes.{some_is, folded_more, value_more, levels_more}

-- ---- options

taken_some : (o : Option (Unit {0})) → o ≢ None → o ≡ Some tt
taken_some None h = absurd (h refl)
taken_some (Some tt) h = refl

map_was : {A B : Type 0} (f : A → B) (o : Option A) → option_map f o ≢ None → o ≢ None
map_was f None h = λ e. h refl
map_was f (Some x) h = some_is x

bind_was : {A B : Type 0} (o : Option A) (f : A → Option B) → (o >>= f) ≢ None → o ≢ None
bind_was None f h = λ e. h refl
bind_was (Some x) f h = some_is x

then_was : {A B C : Type 0} (o : Option A) (q : Option B) (f : A → B → C) → (o >>= λ a. q >>= λ b. Some (f a b)) ≢ None → q ≢ None
then_was None q f h = λ e. h refl
then_was (Some x) q f h = bind_was q (λ b. Some (f x b)) h

-- ---- the numbers that rules are of

among_split : (n : ℕ) (xs ys : List ℕ) → is_among n (xs ++ ys) ≡ true → (is_among n xs ≡ true) ⊎ (is_among n ys ≡ true)
among_split n [] ys e = inr e
among_split n (k ∷ xs) ys e = by_first (nat_eq n k) e (λ r. among_split n xs ys r)
  where
    by_first : (b : Bool) → (if b then true else is_among n (xs ++ ys)) ≡ true → (is_among n (xs ++ ys) ≡ true → (is_among n xs ≡ true) ⊎ (is_among n ys ≡ true))
        → ((if b then true else is_among n xs) ≡ true) ⊎ (is_among n ys ≡ true)
    by_first true e h = inl refl
    by_first false e h = h e

-- whether the first of these rules are of these numbers, up to the first rule of another message
abbrev pub are_from : List Rule → ℕ → List ℕ → Bool
are_from [] message numbers = true
are_from (r ∷ rules) message numbers = if nat_eq r.message message then (if is_among r.number numbers then are_from rules message numbers else false) else true

-- whether the rules of a message are of these numbers
abbrev pub are_of : List Rule → ℕ → List ℕ → Bool
are_of rules message numbers = are_from (drop message rules) message numbers

from_none : (rules : List Rule) (message : ℕ) (numbers : List ℕ) (n : ℕ) → are_from rules message numbers ≡ true → is_among n numbers ≡ false → content_from rules message n ≡ None
from_none [] message numbers n all away = refl
from_none (r ∷ rules) message numbers n all away = by_message (nat_eq r.message message) all (λ rest. from_none rules message numbers n rest away)
  where
    by_among : (b : Bool) → (if b then are_from rules message numbers else false) ≡ true → are_from rules message numbers ≡ true
    by_among true e = e
    by_among false e = absurd cc

    by_number : (b : Bool) → nat_eq r.number n ≡ b → (if is_among r.number numbers then are_from rules message numbers else false) ≡ true → (are_from rules message numbers ≡ true → content_from rules message n ≡ None)
        → (if b then Some r.content else content_from rules message n) ≡ None
    by_number true e all h =
        let other : is_among r.number numbers ≡ false = ap (λ (m : ℕ). is_among m numbers) (eqb-true r.number n e) ∙ away in
        absurd (let z = ap (λ (b : Bool). if b then are_from rules message numbers else false) (sym other) ∙ all in cc)
    by_number false e all h = h (by_among (is_among r.number numbers) all)

    by_message : (b : Bool) → (if b then (if is_among r.number numbers then are_from rules message numbers else false) else true) ≡ true → (are_from rules message numbers ≡ true → content_from rules message n ≡ None)
        → (if b then (if nat_eq r.number n then Some r.content else content_from rules message n) else None) ≡ None
    by_message true all h = by_number (nat_eq r.number n) refl all h
    by_message false all h = refl

of_none : (rules : List Rule) (message : ℕ) (numbers : List ℕ) (n : ℕ) → are_of rules message numbers ≡ true → is_among n numbers ≡ false → content_of rules message n ≡ None
of_none rules message numbers n all away = from_none (drop message rules) message numbers n all away

module _ (rules : List Rule) where
  -- what the rules take in some number of levels
  abbrev pub Deep : Option Content → Value → Type 0
  Deep c v = (k : ℕ) × (value_in (λ m b. nested_upto rules k m b) c v ≡ Some tt)

  abbrev pub DeepField : ℕ → Field → Type 0
  DeepField message f = Deep (content_of rules message f.number) f.value

  abbrev pub ExactItem : {A : Type 0} → Option Content → Item A → Type 0
  ExactItem {A} c i = (x : A) (v : Value) → i.read x v ≢ None → Deep c v

  abbrev pub ExactKind : {A : Type 0} → Option Content → Kind A → Type 0
  ExactKind {A} c p = (x : A) (v : Value) → p.take x v ≢ None → Deep c v

  abbrev pub ExactPart : {A : Type 0} → ℕ → Part A → Type 0
  ExactPart {A} message p = (x : A) (f : Field) → p.step x f ≢ None → is_among f.number p.numbers ≡ true → DeepField message f

  abbrev pub ExactParts : {P : Type 0} → ℕ → Parts P → Type 0
  ExactParts {P} message p = (x : P) (f : Field) → p.step x f ≢ None → is_among f.number p.numbers ≡ true → DeepField message f

  abbrev pub ExactChoices : {S : Type 0} → ℕ → Choices S → Type 0
  ExactChoices {S} message c = (o : Option S) (f : Field) → c.read o f ≢ None → is_among f.number c.numbers ≡ true → DeepField message f

  -- a message, of which each field is told
  abbrev pub ExactMessage : {M : Type 0} → ℕ → Part M → Type 0
  ExactMessage {M} message p = (x : M) (f : Field) → p.step x f ≢ None → DeepField message f

  -- ---- items

  abbrev ok : Option (Unit {0})
  ok = Some tt

  text_was : (b : List ℕ) (u : Bool) → option_map (λ x. Some x) (if u then Some b else None) ≢ None → (if u then ok else None) ≡ ok
  text_was b true h = refl
  text_was b false h = absurd (h refl)

  pub text_exact : ExactItem (Some content.Text) text
  text_exact x (LengthDelimited b) h = (0, text_was b (is_utf8 b) h)
  text_exact x (Varint n) h = (0, refl)
  text_exact x (Fixed64 n) h = (0, refl)
  text_exact x (Fixed32 n) h = (0, refl)

  -- nothing is wanted
  pub free_exact : {A : Type 0} (i : Item A) → ExactItem None i
  free_exact i x v h = (0, refl)

  pub enclosed_exact : (message : ℕ) → ExactItem (Some (content.Message message)) (enclosed (within rules message))
  unfolding within
  enclosed_exact message x (LengthDelimited b) h = (100, taken_some (nested_upto rules 100 message b) (map_was _ (nested_upto rules 100 message b) (map_was _ _ h)))
  enclosed_exact message x (Varint n) h = (0, refl)
  enclosed_exact message x (Fixed64 n) h = (0, refl)
  enclosed_exact message x (Fixed32 n) h = (0, refl)

  -- ---- kinds of members

  pub single_exact : {A : Type 0} (c : Option Content) (i : Item A) → ExactItem c i → ExactKind c (single i)
  unfolding single_take
  single_exact c i h x v e = h x v (map_was (taken_or x) (i.read x v) e)

  pub optional_exact : {A : Type 0} (c : Option Content) (i : Item A) → ExactItem c i → ExactKind c (optional i)
  unfolding optional_take
  optional_exact c i h x v e = h (unwrap_or x i.first) v (map_was (taken_else x) (i.read (unwrap_or x i.first) v) e)

  pub repeated_exact : {A : Type 0} (c : Option Content) (i : Item A) → ExactItem c i → ExactKind c (repeated i)
  unfolding repeated_take
  repeated_exact c i h x v e = h i.first v (map_was (one_more x) (i.read i.first v) e)

  pub always_exact : {A : Type 0} (c : Option Content) (i : Item A) → ExactItem c i → ExactKind c (always i)
  unfolding single_take
  always_exact c i h x v e = h x v (map_was (taken_or x) (i.read x v) e)

  -- ---- parts

  at_number : (message n : ℕ) (f : Field) → nat_eq f.number n ≡ true → Deep (content_of rules message n) f.value → DeepField message f
  at_number message n f e d = subst (λ (m : ℕ). Deep (content_of rules message m) f.value) (sym (eqb-true f.number n e)) d

  module _ {A : Type 0} (message n : ℕ) (kind : Kind A) (h : ExactKind (content_of rules message n) kind) where
    by_number : (b : Bool) (x : A) (f : Field) → nat_eq f.number n ≡ b → (if b then kind.take x f.value else Some x) ≢ None → (if b then true else false) ≡ true → DeepField message f
    by_number true x f e taken own = at_number message n f e (h x f.value taken)
    by_number false x f e taken own = absurd cc

    pub member_exact : ExactPart message (member n kind)
    member_exact x f taken own = by_number (nat_eq f.number n) x f refl taken own

  pub none_exact : (message : ℕ) → ExactParts message none
  none_exact message x f taken own = absurd cc

  pub with_exact : {P A : Type 0} (message : ℕ) (p : Parts P) (q : Part A) → ExactParts message p → ExactPart message q → ExactParts message (with_part p q)
  with_exact message p q first second x f taken own =
      elim (among_split f.number p.numbers q.numbers own) [
        | inl e ↦ first x.0 f (bind_was (p.step x.0 f) _ taken) e
        | inr e ↦ second x.1 f (then_was (p.step x.0 f) (q.step x.1 f) (λ a b. (a, b)) taken) e
      ]

  pub message_exact : {P M : Type 0} (message : ℕ) (p : Parts P) (split : M → P) (join : P → M) → are_of rules message p.numbers ≡ true → ExactParts message p → ExactMessage message (message_of p split join)
  message_exact message p split join all h x f taken = by_among (is_among f.number p.numbers) refl
    where
      by_among : (b : Bool) → is_among f.number p.numbers ≡ b → DeepField message f
      by_among true e = h (split x) f (map_was join (p.step (split x) f) taken) e
      by_among false e = let n = of_none rules message p.numbers f.number all e in subst (λ (c : Option Content). Deep c f.value) (sym n) (0, refl)

  -- ---- members of which at most one is set

  pub no_choice_exact : (message : ℕ) → ExactChoices message no_choice
  no_choice_exact message o f taken own = absurd cc

  module _ {S A : Type 0} (message n : ℕ) (c : Choices S) (i : Item A) (first : ExactChoices message c) (h : ExactItem (content_of rules message n) i) where
    by_choice : (b : Bool) (o : Option (S ⊎ A)) (f : Field) → nat_eq f.number n ≡ b
        → (if b then option_map (option_map (λ x. inr x)) (i.read (right_or i.first o) f.value) else option_map (option_map (λ s. inl s)) (c.read (left_of o) f)) ≢ None
        → (is_among f.number c.numbers ≡ true) ⊎ ((if b then true else false) ≡ true) → DeepField message f
    by_choice true o f e taken own = at_number message n f e (h (right_or i.first o) f.value (map_was _ (i.read (right_or i.first o) f.value) taken))
    by_choice false o f e taken (inl own) = first (left_of o) f (map_was _ (c.read (left_of o) f) taken) own
    by_choice false o f e taken (inr own) = absurd cc

    pub or_exact : ExactChoices message (or_item c n i)
    or_exact o f taken own = by_choice (nat_eq f.number n) o f refl taken (among_split f.number c.numbers (n ∷ []) own)

  choice_was : {S C : Type 0} (c : Choices S) (split : C → S) (join : S → C) (o : Option C) (f : Field) → choice_take c split join o f ≢ None → c.read (option_map split o) f ≢ None
  unfolding choice_take
  choice_was c split join o f taken = map_was _ (c.read (option_map split o) f) taken

  pub one_of_exact : {S C : Type 0} (message : ℕ) (c : Choices S) (split : C → S) (join : S → C) → ExactChoices message c → ExactPart message (one_of c split join)
  one_of_exact message c split join h o f taken own = h (option_map split o) f (choice_was c split join o f (rw own at taken)) own

  -- ---- messages in messages

  more_levels : (d k : ℕ) (c : Option Content) (v : Value) → value_in (λ m b. nested_upto rules k m b) c v ≡ Some tt → value_in (λ m b. nested_upto rules (d + k) m b) c v ≡ Some tt
  more_levels d k c v e = value_more (λ m b. nested_upto rules k m b) (λ m b. nested_upto rules (d + k) m b) (λ m b h. levels_more rules d k m b h) c v e

  module _ {M : Type 0} (message : ℕ) (p : Part M) (each : ExactMessage message p) where
    abbrev takes_at : ℕ → Unit {0} → Field → Option (Unit {0})
    takes_at k = field_in rules (λ m b. nested_upto rules k m b) message

    folded_exact : (x : M) (fs : List Field) → folded p.step x fs ≢ None → (k : ℕ) × (folded (takes_at k) tt fs ≡ Some tt)
    folded_exact x [] h = (0, refl)
    folded_exact x (f ∷ fs) h = by_first (p.step x f) refl h (λ n h. folded_exact n fs h)
      where
        by_first : (o : Option M) → p.step x f ≡ o → (o >>= λ n. folded p.step n fs) ≢ None → ((n : M) → folded p.step n fs ≢ None → (k : ℕ) × (folded (takes_at k) tt fs ≡ Some tt))
            → (k : ℕ) × ((takes_at k tt f >>= λ u. folded (takes_at k) u fs) ≡ Some tt)
        by_first None e h rest = absurd (h refl)
        by_first (Some n) e h rest =
            let first = each x f (λ z. some_is n (sym e ∙ z)) in
            let others = rest n h in
            let swap : first.0 + others.0 ≡ others.0 + first.0 = omega arith in
            let one : takes_at (first.0 + others.0) tt f ≡ Some tt = subst (λ (k : ℕ). takes_at k tt f ≡ Some tt) (sym swap) (more_levels others.0 first.0 (content_of rules message f.number) f.value first.1) in
            let all : folded (takes_at (first.0 + others.0)) tt fs ≡ Some tt =
            folded_more (takes_at others.0) (takes_at (first.0 + others.0)) (λ g t. more_levels first.0 others.0 (content_of rules message g.number) g.value t) fs others.1 in
            (first.0 + others.0, ap (λ o. o >>= λ u. folded (takes_at (first.0 + others.0)) u fs) one ∙ all)

    -- bytes that read as the message are taken in some number of levels
    pub reads_deep : (x : M) (b : List ℕ) → read_from p.step x b ≢ None → (k : ℕ) × (nested_upto rules k message b ≡ Some tt)
    unfolding read_from nested_upto
    reads_deep x b h = by_fields (fields_of b) refl h
      where
        by_fields : (o : Option (List Field)) → fields_of b ≡ o → (o >>= folded p.step x) ≢ None → (k : ℕ) × (nested_upto rules k message b ≡ Some tt)
        by_fields None e h = absurd (h refl)
        by_fields (Some fs) e h = let d = folded_exact x fs h in (suc d.0, ap (λ o. o >>= folded (takes_at d.0) tt) e ∙ d.1)

    pub nested_exact : ExactItem (Some (content.Message message)) (nested p.is_value p.empty p.step p.fields)
    nested_exact x (LengthDelimited b) h = reads_deep x b (map_was _ (read_from p.step x b) h)
    nested_exact x (Varint n) h = (0, refl)
    nested_exact x (Fixed64 n) h = (0, refl)
    nested_exact x (Fixed32 n) h = (0, refl)

  module _ {K V : Type 0} (e : ℕ) (key : Item K) (value : Item V) (first : ExactItem (content_of rules e 1) key) (second : ExactItem (content_of rules e 2) value) (all : are_of rules e (1 ∷ 2 ∷ []) ≡ true) where
    entry_exact : ExactMessage e (entry key value)
    entry_exact =
        let one = member_exact e 1 (always key) (always_exact (content_of rules e 1) key first) in
        let two = member_exact e 2 (always value) (always_exact (content_of rules e 2) value second) in
        message_exact e (with_part (with_part none (member 1 (always key))) (member 2 (always value))) (λ e. ((tt, e.0), e.1)) (λ x. (x.0.1, x.1)) all
        (with_exact e (with_part none (member 1 (always key))) (member 2 (always value)) (with_exact e none (member 1 (always key)) (none_exact e) one) two)

    pub map_exact : (order : K → K → Ordering) → ExactKind (Some (content.Message e)) (map_of order (entry_item key value))
    unfolding map_take
    map_exact order x v h = nested_exact e (entry key value) entry_exact (entry_item key value).first v (map_was (inserted order x) ((entry_item key value).read (entry_item key value).first v) h)

-- ---- numbers in one value

module _ {A : Type 0} (i : Item A) where
  upto_was : (k : ℕ) (old : List A) (b : List ℕ) → packed_upto i k old b ≢ None → numbers_upto k i.wire_type b ≡ Some tt
  unfolding numbers_upto packed_upto repeated_take
  upto_was k old [] h = refl
  upto_was zero old (x ∷ b) h = absurd (h refl)
  upto_was (suc k) old (x ∷ b) h = by_value (value_at i.wire_type (x ∷ b)) h (λ xs rest h. upto_was k xs rest h)
    where
      by_taken : (o : Option (List A)) (rest : List ℕ) → (o >>= λ xs. packed_upto i k xs rest) ≢ None → ((xs : List A) (rest : List ℕ) → packed_upto i k xs rest ≢ None → numbers_upto k i.wire_type rest ≡ Some tt) → numbers_upto k i.wire_type rest ≡ Some tt
      by_taken None rest h g = absurd (h refl)
      by_taken (Some xs) rest h g = g xs rest h

      by_value : (o : Option (Value × List ℕ)) → (o >>= λ y. repeated_take i old y.0 >>= λ xs. packed_upto i k xs y.1) ≢ None → ((xs : List A) (rest : List ℕ) → packed_upto i k xs rest ≢ None → numbers_upto k i.wire_type rest ≡ Some tt)
          → (o >>= λ y. numbers_upto k i.wire_type y.1) ≡ Some tt
      by_value None h g = absurd (h refl)
      by_value (Some y) h g = by_taken (repeated_take i old y.0) y.1 h g

  pub packed_exact : (rules : List Rule) → ExactKind rules (Some (content.Numbers i.wire_type)) (packed i)
  unfolding packed_take packed_from numbers_in
  packed_exact rules x (LengthDelimited b) h = (0, upto_was (length b) x b h)
  packed_exact rules x (Varint n) h = (0, refl)
  packed_exact rules x (Fixed64 n) h = (0, refl)
  packed_exact rules x (Fixed32 n) h = (0, refl)

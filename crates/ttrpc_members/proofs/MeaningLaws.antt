-- That members mean what the guide says.
use Rattle.std.proofs.Common.{◌≡◌, ◌≢◌, ◌<◌, ◌^◌, ℕ, List, [], ◌∷◌, ◌++◌, map, Option, Some, None, Bool, true, false, cond, nat_eq, if◌then◌else◌, ◌⊎◌, inl, inr, refl, sym, ap, ◌∙◌, subst, arith, rules, zero, suc, append_assoc}
use Rattle.std.specs.List.{AllByRecursion}
use Rattle.std.specs.Option.{option_map, unwrap_or}
use Rattle.std.specs.Str.{is_utf8}
use Rattle.std.specs.Map.{lookup}
use Rattle.std.specs.BTreeMap.{insert_entry, is_at}
use Rattle.std.specs.Cmp.{IsTotalOrder}
use Rattle.std.specs.Ordering.{is_eq, match_ordering, ordering_reverse}
use Rattle.std.specs.declared.cmp.Ordering.{Ordering}
use Rattle.std.specs.declared.cmp.Ordering.TheVariants.{Less, Equal, Greater}
use Rattle.std.proofs.lemmas.List.{append-nil}
use Rattle.std.proofs.lemmas.Bool.{eqb-true}
use Rattle.ttrpc_wire.specs.declared.field.WireType.TheVariants as wire
use Rattle.ttrpc_wire.specs.Varint.{varint}
use Rattle.ttrpc_wire.specs.Field.{Value, Varint, Fixed64, LengthDelimited, Fixed32, Field, Fits, IsValueOf, fields_bytes}
use Rattle.ttrpc_wire.specs.Fold.{folded, read_from}
use Rattle.ttrpc_wire.specs.Front.{Begins}
use Rattle.ttrpc_wire.specs.Reading.{◌>>=◌}
use Rattle.ttrpc_wire.proofs.Folds.{folded-append, reads_written}
use Rattle.ttrpc_wire.proofs.Varints.{varint_spells}
use Rattle.ttrpc_members.specs.Choices.{Choices, or_item, choice_take, right_or, left_of}
use Rattle.ttrpc_members.specs.Items.{Item, Coding, as_varint, as_fixed64, as_fixed32, bytes, text, nested, boolean_of}
use Rattle.ttrpc_members.specs.Kinds.{Kind, single_take, single, optional, optional_take, taken_else, repeated, repeated_take, one_more, packed, packed_take, packed_from}
use Rattle.ttrpc_members.specs.Laws.{is_among, taken}
use Rattle.ttrpc_members.specs.Maps.{map_of, map_take, inserted}
use Rattle.ttrpc_members.specs.Meaning.{values_at, last_or, varints_in, fixed64s_in, fixed32s_in, bytes_in, in_front, items_in, Numbers, One, Several, varints_bytes, numbers_value, all_numbers, message_value, last_at, one_more_choice}
use Rattle.ttrpc_members.specs.Schema.{member, flat}
use Rattle.ttrpc_members.proofs.FieldNumbers.{equal_number, other_number, among_first, among_second}
use Rattle.ttrpc_members.proofs.PackedLaws.{packed_on, packed_end}

-- a member is made of the values of its number, in order
module _ {A : Type 0} (k : ℕ) (kind : Kind A) where
  by_number : (b : Bool) (x : A) (v : Value) (fs : List Field) → ((y : A) → folded (member k kind).step y fs ≡ taken kind.take y (values_at k fs))
      → ((if b then kind.take x v else Some x) >>= λ y. folded (member k kind).step y fs) ≡ taken kind.take x (if b then v ∷ values_at k fs else values_at k fs)
  by_number false x v fs h = h x
  by_number true x v fs h = on (kind.take x v)
    where
      on : (o : Option A) → (o >>= λ y. folded (member k kind).step y fs) ≡ (o >>= λ y. taken kind.take y (values_at k fs))
      on None = refl
      on (Some y) = h y

  pub member_values : (x : A) (fs : List Field) → folded (member k kind).step x fs ≡ taken kind.take x (values_at k fs)
  member_values x [] = refl
  member_values x (f ∷ fs) = by_number (nat_eq f.number k) x f.value fs (λ y. member_values y fs)

-- ---- scalars

varint_last : {A : Type 0} (c : Coding A) (n : ℕ) (vs : List Value) → taken (single_take (as_varint c)) (c.decode n) vs ≡ Some (c.decode (last_or n (varints_in vs)))
unfolding single_take
varint_last c n [] = refl
varint_last c n (Varint m ∷ vs) = varint_last c m vs
varint_last c n (Fixed64 m ∷ vs) = varint_last c n vs
varint_last c n (LengthDelimited b ∷ vs) = varint_last c n vs
varint_last c n (Fixed32 m ∷ vs) = varint_last c n vs

pub varint_means : {A : Type 0} (c : Coding A) (k : ℕ) (fs : List Field) → folded (member k (single (as_varint c))).step (c.decode 0) fs ≡ Some (c.decode (last_or 0 (varints_in (values_at k fs))))
varint_means c k fs = member_values k (single (as_varint c)) (c.decode 0) fs ∙ varint_last c 0 (values_at k fs)

fixed64_last : {A : Type 0} (c : Coding A) (n : ℕ) (vs : List Value) → taken (single_take (as_fixed64 c)) (c.decode n) vs ≡ Some (c.decode (last_or n (fixed64s_in vs)))
unfolding single_take
fixed64_last c n [] = refl
fixed64_last c n (Varint m ∷ vs) = fixed64_last c n vs
fixed64_last c n (Fixed64 m ∷ vs) = fixed64_last c m vs
fixed64_last c n (LengthDelimited b ∷ vs) = fixed64_last c n vs
fixed64_last c n (Fixed32 m ∷ vs) = fixed64_last c n vs

pub fixed64_means : {A : Type 0} (c : Coding A) (k : ℕ) (fs : List Field) → folded (member k (single (as_fixed64 c))).step (c.decode 0) fs ≡ Some (c.decode (last_or 0 (fixed64s_in (values_at k fs))))
fixed64_means c k fs = member_values k (single (as_fixed64 c)) (c.decode 0) fs ∙ fixed64_last c 0 (values_at k fs)

fixed32_last : {A : Type 0} (c : Coding A) (n : ℕ) (vs : List Value) → taken (single_take (as_fixed32 c)) (c.decode n) vs ≡ Some (c.decode (last_or n (fixed32s_in vs)))
unfolding single_take
fixed32_last c n [] = refl
fixed32_last c n (Varint m ∷ vs) = fixed32_last c n vs
fixed32_last c n (Fixed64 m ∷ vs) = fixed32_last c n vs
fixed32_last c n (LengthDelimited b ∷ vs) = fixed32_last c n vs
fixed32_last c n (Fixed32 m ∷ vs) = fixed32_last c m vs

pub fixed32_means : {A : Type 0} (c : Coding A) (k : ℕ) (fs : List Field) → folded (member k (single (as_fixed32 c))).step (c.decode 0) fs ≡ Some (c.decode (last_or 0 (fixed32s_in (values_at k fs))))
fixed32_means c k fs = member_values k (single (as_fixed32 c)) (c.decode 0) fs ∙ fixed32_last c 0 (values_at k fs)

bytes_last : (old : List ℕ) (vs : List Value) → taken (single_take bytes) old vs ≡ Some (last_or old (bytes_in vs))
unfolding single_take
bytes_last old [] = refl
bytes_last old (Varint m ∷ vs) = bytes_last old vs
bytes_last old (Fixed64 m ∷ vs) = bytes_last old vs
bytes_last old (LengthDelimited b ∷ vs) = bytes_last b vs
bytes_last old (Fixed32 m ∷ vs) = bytes_last old vs

pub bytes_mean : (k : ℕ) (fs : List Field) → folded (member k (single bytes)).step [] fs ≡ Some (last_or [] (bytes_in (values_at k fs)))
bytes_mean k fs = member_values k (single bytes) [] fs ∙ bytes_last [] (values_at k fs)

text_last : (old : List ℕ) (vs : List Value) → AllByRecursion (λ b. is_utf8 b ≡ true) (bytes_in vs) → taken (single_take text) old vs ≡ Some (last_or old (bytes_in vs))
unfolding single_take
text_last old [] all = refl
text_last old (Varint m ∷ vs) all = text_last old vs all
text_last old (Fixed64 m ∷ vs) all = text_last old vs all
text_last old (LengthDelimited b ∷ vs) all = let u = all.0 in rw u (text_last b vs all.1)
text_last old (Fixed32 m ∷ vs) all = text_last old vs all

pub text_means : (k : ℕ) (fs : List Field) → AllByRecursion (λ b. is_utf8 b ≡ true) (bytes_in (values_at k fs)) → folded (member k (single text)).step [] fs ≡ Some (last_or [] (bytes_in (values_at k fs)))
text_means k fs all = member_values k (single text) [] fs ∙ text_last [] (values_at k fs) all

pub boolean_means : (n : ℕ) → (boolean_of n ≡ false → n ≡ 0) × (n ≡ 0 → boolean_of n ≡ false)
boolean_means zero = (λ e. refl, λ e. refl)
boolean_means (suc n) = (λ e. absurd cc, λ e. absurd (omega (arith, e)))

-- ---- lists

module _ {A : Type 0} (i : Item A) where
  joined_on : (old : List A) (x : A) (o : Option (List A)) → option_map (λ xs. (old ++ x ∷ []) ++ xs) o ≡ option_map (λ xs. old ++ xs) (option_map (in_front (Some x)) o)
  joined_on old x None = refl
  joined_on old x (Some xs) = ap (λ w. Some w) (append_assoc old (x ∷ []) xs)

  same_none : (old : List A) (o : Option (List A)) → option_map (λ xs. old ++ xs) o ≡ option_map (λ xs. old ++ xs) (option_map (in_front None) o)
  same_none old None = refl
  same_none old (Some xs) = refl

  repeated_all : (old : List A) (vs : List Value) → taken (repeated_take i) old vs ≡ option_map (λ xs. old ++ xs) (items_in i vs)
  unfolding repeated_take
  repeated_all old [] = ap (λ w. Some w) (sym (append-nil old))
  repeated_all old (v ∷ vs) = on (i.read i.first v) (λ w. repeated_all w vs)
    where
      on : (o : Option (Option A)) → ((w : List A) → taken (repeated_take i) w vs ≡ option_map (λ xs. w ++ xs) (items_in i vs))
          → (option_map (one_more old) o >>= λ y. taken (repeated_take i) y vs) ≡ option_map (λ xs. old ++ xs) (o >>= λ x. option_map (in_front x) (items_in i vs))
      on None h = refl
      on (Some None) h = h old ∙ same_none old (items_in i vs)
      on (Some (Some x)) h = h (old ++ x ∷ []) ∙ joined_on old x (items_in i vs)

  as_it_is : (o : Option (List A)) → option_map (λ xs. [] ++ xs) o ≡ o
  as_it_is None = refl
  as_it_is (Some xs) = refl

  pub repeated_means : (k : ℕ) (fs : List Field) → folded (member k (repeated i)).step [] fs ≡ items_in i (values_at k fs)
  repeated_means k fs = member_values k (repeated i) [] fs ∙ repeated_all [] (values_at k fs) ∙ as_it_is (items_in i (values_at k fs))

-- each number fits into 64 bits
abbrev pub AreSmall : List ℕ → Type 0
AreSmall ns = AllByRecursion (λ n. n < 2 ^ 64) ns

map_then : {A : Type 0} (f : ℕ → A) (ms ns : List ℕ) → map f (ms ++ ns) ≡ map f ms ++ map f ns
map_then f [] ns = refl
map_then f (m ∷ ms) ns = ap (λ w. f m ∷ w) (map_then f ms ns)

all_first : (P : ℕ → Type 0) (ms ns : List ℕ) → AllByRecursion P (ms ++ ns) → AllByRecursion P ms × AllByRecursion P ns
all_first P [] ns all = (tt, all)
all_first P (m ∷ ms) ns all = let rest = all_first P ms ns all.1 in ((all.0, rest.0), rest.1)

module _ {A : Type 0} (c : Coding A) where
  several : (old : List A) (ns : List ℕ) → AreSmall ns → packed_from (as_varint c) old (varints_bytes ns) ≡ Some (old ++ map c.decode ns)
  unfolding repeated_take
  several old [] small = packed_end (as_varint c) old [] refl ∙ ap (λ w. Some w) (sym (append-nil old))
  several old (n ∷ ns) small =
      let begins : Begins (IsValueOf wire.Varint) (varints_bytes (n ∷ ns)) (Varint n) (varints_bytes ns) =
      record { front = varint n; whole = refl; is = record { is = varint_spells n small.0; typed = refl } } in
      packed_on (as_varint c) old (varints_bytes (n ∷ ns)) (varints_bytes ns) (Varint n) begins
      ∙ several (old ++ c.decode n ∷ []) ns small.1 ∙ ap (λ w. Some w) (append_assoc old (c.decode n ∷ []) (map c.decode ns))

  packed_all : (old : List A) (pieces : List Numbers) → AreSmall (all_numbers pieces) → taken (packed_take (as_varint c)) old (map numbers_value pieces) ≡ Some (old ++ map c.decode (all_numbers pieces))
  unfolding packed_take repeated_take
  packed_all old [] small = ap (λ w. Some w) (sym (append-nil old))
  packed_all old (One n ∷ pieces) small =
      packed_all (old ++ c.decode n ∷ []) pieces small.1 ∙ ap (λ w. Some w) (append_assoc old (c.decode n ∷ []) (map c.decode (all_numbers pieces)))
  packed_all old (Several ns ∷ pieces) small =
      let both = all_first (λ n. n < 2 ^ 64) ns (all_numbers pieces) small in
      ap (λ o. o >>= λ y. taken (packed_take (as_varint c)) y (map numbers_value pieces)) (several old ns both.0)
      ∙ packed_all (old ++ map c.decode ns) pieces both.1
      ∙ ap (λ w. Some w) (append_assoc old (map c.decode ns) (map c.decode (all_numbers pieces)) ∙ ap (λ w. old ++ w) (sym (map_then c.decode ns (all_numbers pieces))))

  pub packed_means : (k : ℕ) (fs : List Field) (pieces : List Numbers) → AreSmall (all_numbers pieces) → values_at k fs ≡ map numbers_value pieces → folded (member k (packed (as_varint c))).step [] fs ≡ Some (map c.decode (all_numbers pieces))
  packed_means k fs pieces small e =
      member_values k (packed (as_varint c)) [] fs ∙ ap (λ vs. taken (packed_take (as_varint c)) [] vs) e ∙ packed_all [] pieces small

-- ---- messages

module _ {M : Type 0} (is_value : M → Type 0) (empty : M) (step : M → Field → Option M) (fields : M → List Field) where
  abbrev item : Item M
  item = nested is_value empty step fields

  parts_join : (m : M) (parts : List (List Field)) → AllByRecursion (λ fs. AllByRecursion Fits fs) parts
      → taken (optional_take item) (Some m) (map message_value parts) ≡ option_map (λ x. Some x) (folded step m (flat parts))
  unfolding optional_take flat
  parts_join m [] all = refl
  parts_join m (part ∷ parts) all =
      let read = reads_written step m part all.0 in
      let whole = folded-append step m part (flat parts) in
      rw (read, whole) (on (folded step m part) (λ n. parts_join n parts all.1))
    where
      on : (o : Option M) → ((n : M) → taken (optional_take item) (Some n) (map message_value parts) ≡ option_map (λ x. Some x) (folded step n (flat parts)))
          → (option_map (taken_else (Some m)) (option_map (λ x. Some x) o) >>= λ y. taken (optional_take item) y (map message_value parts)) ≡ option_map (λ x. Some x) (o >>= λ n. folded step n (flat parts))
      on None h = refl
      on (Some n) h = h n

  first_starts : (vs : List Value) (part : List Field) → taken (optional_take item) None (message_value part ∷ vs) ≡ taken (optional_take item) (Some empty) (message_value part ∷ vs)
  unfolding optional_take
  first_starts vs part = on (read_from step empty (fields_bytes part))
    where
      on : (o : Option M) → (option_map (taken_else None) (option_map (λ x. Some x) o) >>= λ y. taken (optional_take item) y vs) ≡ (option_map (taken_else (Some empty)) (option_map (λ x. Some x) o) >>= λ y. taken (optional_take item) y vs)
      on None = refl
      on (Some n) = refl

  pub message_means : (k : ℕ) (fs part : List Field) (parts : List (List Field)) → AllByRecursion (λ gs. AllByRecursion Fits gs) (part ∷ parts) → values_at k fs ≡ map message_value (part ∷ parts)
      → folded (member k (optional item)).step None fs ≡ option_map (λ x. Some x) (folded step empty (flat (part ∷ parts)))
  message_means k fs part parts all e =
      member_values k (optional item) None fs ∙ ap (λ vs. taken (optional_take item) None vs) e ∙ first_starts (map message_value parts) part ∙ parts_join empty (part ∷ parts) all

-- ---- maps

module _ {K V : Type 0} (order : K → K → Ordering) (total : IsTotalOrder order) where
  module _ (q k : K) (v : V) where
    same_key : (x : K) → order k x ≡ Equal → is_eq (order q k) ≡ is_eq (order q x)
    same_key x e =
        ap is_eq (total.antisymm q k ∙ ap ordering_reverse (total.congr k x q e) ∙ sym (total.antisymm q x))

    other_key : (x : K) → order k x ≡ Greater → is_eq (order q k) ≡ true → is_eq (order q x) ≡ false
    other_key x g e = by (order q k) refl e
      where
        by : (o : Ordering) → order q k ≡ o → is_eq o ≡ true → is_eq (order q x) ≡ false
        by Less h e = absurd cc
        by Greater h e = absurd cc
        by Equal h e = ap is_eq (total.congr q k x h ∙ g)

    lookup_inserted : (es : List (K × V)) → lookup (is_at (order q)) (insert_entry order es k v) ≡ (if is_eq (order q k) then Some v else lookup (is_at (order q)) es)
    lookup_inserted [] = refl
    lookup_inserted (e ∷ es) = by (order k e.0) refl (lookup_inserted es)
      where
        behind : (b d : Bool) (found : Option V) → (b ≡ true → d ≡ false) → (if d then Some e.1 else (if b then Some v else found)) ≡ (if b then Some v else (if d then Some e.1 else found))
        behind false d found h = refl
        behind true false found h = refl
        behind true true found h = let no = h refl in absurd cc

        inside : (b d : Bool) (found : Option V) → b ≡ d → (if d then Some v else found) ≡ (if b then Some v else (if d then Some e.1 else found))
        inside true true found h = refl
        inside false false found h = refl
        inside true false found h = absurd cc
        inside false true found h = absurd cc

        by : (o : Ordering) → order k e.0 ≡ o → lookup (is_at (order q)) (insert_entry order es k v) ≡ (if is_eq (order q k) then Some v else lookup (is_at (order q)) es)
            → lookup (is_at (order q)) (match_ordering o ((k, v) ∷ e ∷ es) ((e.0, v) ∷ es) (e ∷ insert_entry order es k v)) ≡ (if is_eq (order q k) then Some v else lookup (is_at (order q)) (e ∷ es))
        by Less h rest = refl
        by Equal h rest = inside (is_eq (order q k)) (is_eq (order q e.0)) (lookup (is_at (order q)) es) (same_key e.0 h)
        by Greater h rest = rw rest (behind (is_eq (order q k)) (is_eq (order q e.0)) (lookup (is_at (order q)) es) (other_key e.0 h))

  -- entries, one behind the other
  abbrev pub entered : List (K × V) → List (K × V) → List (K × V)
  entered old [] = old
  entered old (e ∷ es) = entered (insert_entry order old e.0 e.1) es

  last_entered : (q : K) (old es : List (K × V)) → lookup (is_at (order q)) (entered old es) ≡ last_at (is_at (order q)) (lookup (is_at (order q)) old) es
  last_entered q old [] = refl
  last_entered q old (e ∷ es) =
      last_entered q (insert_entry order old e.0 e.1) es ∙ ap (λ o. last_at (is_at (order q)) o es) (lookup_inserted q e.0 e.1 old)

  module _ (i : Item (K × V)) where
    map_all : (old : List (K × V)) (vs : List Value) → taken (map_take order i) old vs ≡ option_map (entered old) (items_in i vs)
    unfolding map_take
    map_all old [] = refl
    map_all old (v ∷ vs) = on (i.read i.first v) (λ w. map_all w vs)
      where
        passed : (o : Option (List (K × V))) → option_map (entered old) o ≡ option_map (entered old) (option_map (in_front None) o)
        passed None = refl
        passed (Some es) = refl

        more : (e : K × V) (o : Option (List (K × V))) → option_map (entered (insert_entry order old e.0 e.1)) o ≡ option_map (entered old) (option_map (in_front (Some e)) o)
        more e None = refl
        more e (Some es) = refl

        on : (o : Option (Option (K × V))) → ((w : List (K × V)) → taken (map_take order i) w vs ≡ option_map (entered w) (items_in i vs))
            → (option_map (inserted order old) o >>= λ y. taken (map_take order i) y vs) ≡ option_map (entered old) (o >>= λ x. option_map (in_front x) (items_in i vs))
        on None h = refl
        on (Some None) h = h old ∙ passed (items_in i vs)
        on (Some (Some e)) h = h (insert_entry order old e.0 e.1) ∙ more e (items_in i vs)

    pub map_means : (k : ℕ) (fs : List Field) (entries : List (K × V)) → items_in i (values_at k fs) ≡ Some entries
        → (es : List (K × V)) × (folded (member k (map_of order i)).step [] fs ≡ Some es) × ((q : K) → lookup (is_at (order q)) es ≡ last_at (is_at (order q)) None entries)
    map_means k fs entries e =
        (entered [] entries, member_values k (map_of order i) [] fs ∙ map_all [] (values_at k fs) ∙ ap (option_map (entered [])) e, λ q. last_entered q [] entries)

-- ---- members of which at most one is set

module _ {S A : Type 0} (c : Choices S) (passes : (o : Option S) (f : Field) → is_among f.number c.numbers ≡ false → c.read o f ≡ Some None) (k : ℕ) (i : Item A) where
  abbrev step : Option (S ⊎ A) → Field → Option (Option (S ⊎ A))
  step o f = (one_more_choice c k i).step o f

  unchanged : (o : Option (S ⊎ A)) → option_map (λ s. s) o ≡ o
  unchanged None = refl
  unchanged (Some s) = refl

  -- a field behind others
  last_field : (fs : List Field) (f : Field) (before after : Option (S ⊎ A)) → folded step None fs ≡ Some before → step before f ≡ Some after → folded step None (fs ++ f ∷ []) ≡ Some after
  last_field fs f before after e h =
      folded-append step None fs (f ∷ []) ∙ ap (λ o. o >>= λ n. folded step n (f ∷ [])) e ∙ ap (λ o. o >>= λ n. Some n) h

  is_set : (o : Option (S ⊎ A)) (f : Field) (s : S ⊎ A) → is_among f.number (c.numbers ++ k ∷ []) ≡ true → (or_item c k i).read o f ≡ Some (Some s) → step o f ≡ Some (Some s)
  unfolding choice_take
  is_set o f s own e = let u = unchanged o in rw (own, u, e) refl

  own : (o : Option (S ⊎ A)) (f : Field) (x : A) → f.number ≡ k → i.read (right_or i.first o) f.value ≡ Some (Some x) → step o f ≡ Some (Some (inr x))
  own o f x n e =
      let t = equal_number f.number k n in
      let mine : is_among f.number (k ∷ []) ≡ true = ap (λ b. if b then true else false) t in
      is_set o f (inr x) (among_second f.number c.numbers (k ∷ []) mine) (rw (t, e) refl)

  other : (o : Option (S ⊎ A)) (f : Field) (s : S) → f.number ≢ k → c.read (left_of o) f ≡ Some (Some s) → step o f ≡ Some (Some (inl s))
  other o f s n e = is_set o f (inl s) (among_first f.number c.numbers (k ∷ []) (theirs (is_among f.number c.numbers) refl)) (let t = other_number f.number k n in rw (t, e) refl)
    where
      theirs : (b : Bool) → is_among f.number c.numbers ≡ b → b ≡ true
      theirs true e = refl
      theirs false away = let p = passes (left_of o) f away in absurd cc

  new_own : (before : Option (S ⊎ A)) → ((old : A) → before ≢ Some (inr old)) → right_or i.first before ≡ i.first
  new_own None h = refl
  new_own (Some (inl s)) h = refl
  new_own (Some (inr x)) h = absurd (h x refl)

  pub choice_begins : (fs : List Field) (f : Field) (before : Option (S ⊎ A)) (x : A) → folded step None fs ≡ Some before → f.number ≡ k → ((old : A) → before ≢ Some (inr old))
      → i.read i.first f.value ≡ Some (Some x) → folded step None (fs ++ f ∷ []) ≡ Some (Some (inr x))
  choice_begins fs f before x e n new r =
      let first = new_own before new in
      last_field fs f before (Some (inr x)) e (own before f x n (ap (λ y. i.read y f.value) first ∙ r))

  pub choice_goes_on : (fs : List Field) (f : Field) (old x : A) → folded step None fs ≡ Some (Some (inr old)) → f.number ≡ k
      → i.read old f.value ≡ Some (Some x) → folded step None (fs ++ f ∷ []) ≡ Some (Some (inr x))
  choice_goes_on fs f old x e n r = last_field fs f (Some (inr old)) (Some (inr x)) e (own (Some (inr old)) f x n r)

  pub choice_ends : (fs : List Field) (f : Field) (old : A) (s : S) → folded step None fs ≡ Some (Some (inr old)) → f.number ≢ k
      → c.read None f ≡ Some (Some s) → folded step None (fs ++ f ∷ []) ≡ Some (Some (inl s))
  choice_ends fs f old s e n r = last_field fs f (Some (inr old)) (Some (inl s)) e (other (Some (inr old)) f s n r)

-- Laws of maps.
use Rattle.std.proofs.Common.{◌≡◌, ◌≤◌, ◌+◌, ℕ, List, [], ◌∷◌, ◌++◌, length, map, Some, refl, sym, ap, ◌∙◌, arith, append_assoc, length-append}
use Rattle.std.specs.List.{AllByRecursion}
use Rattle.std.specs.BTreeMap.{insert_entry}
use Rattle.std.specs.Cmp.{IsTotalOrder}
use Rattle.std.proofs.lemmas.List.{append-nil}
use Rattle.std.proofs.lemmas.List.Concat.{flat_map-cons}
use Rattle.std.specs.List.Sorted.{IsStrictlySortedBy}
use Rattle.std.specs.Map.{keys_of}
use Rattle.std.specs.Ordering.{match_ordering, ordering_reverse}
use Rattle.std.specs.declared.cmp.Ordering.{Ordering}
use Rattle.std.specs.declared.cmp.Ordering.TheVariants.{Less, Greater}
use Rattle.ttrpc_wire.specs.Field.{field_bytes, fields_bytes}
use Rattle.ttrpc_members.specs.Items.{Item}
use Rattle.ttrpc_members.specs.Kinds.{single_take, repeated_values}
use Rattle.ttrpc_members.specs.Maps.{always, entry, entry_item, map_take, rebuilt, map_of}
use Rattle.ttrpc_members.specs.Schema.{fields_at, member, with_part, none}
use Rattle.ttrpc_members.specs.Laws.{IsShort, LawfulItem, LawfulKind, LawfulPart, taken}
use Rattle.ttrpc_members.proofs.ItemLaws.{nested_lawful}
use Rattle.ttrpc_members.proofs.KindLaws.{repeated_fits}
use Rattle.ttrpc_members.proofs.PartLaws.{member_lawful, none_lawful, with_lawful, message_lawful}

always_lawful : {A : Type 0} (i : Item A) → LawfulItem i → LawfulKind (always i)
unfolding single_take
always_lawful i laws = record {
  again = λ x is short. let b = laws.back x is short.0 in rw b refl;
  fits = λ x is short. (laws.fits x is short.0, tt);
}

module _ {K V : Type 0} (key : Item K) (value : Item V) (key_laws : LawfulItem key) (value_laws : LawfulItem value) where
  entry_lawful : LawfulPart (entry key value)
  entry_lawful =
      let one = with_lawful none (member 1 (always key)) none_lawful (member_lawful 1 (always key) (always_lawful key key_laws)) in
      let two = with_lawful (with_part none (member 1 (always key))) (member 2 (always value)) one (member_lawful 2 (always value) (always_lawful value value_laws)) in
      message_lawful (with_part (with_part none (member 1 (always key))) (member 2 (always value))) (λ e. ((tt, e.0), e.1)) (λ x. (x.0.1, x.1)) (λ x. refl) (λ e. refl) two

  pub entry_item_lawful : LawfulItem (entry_item key value)
  entry_item_lawful = nested_lawful (entry key value).is_value (entry key value).empty (entry key value).step (entry key value).fields (entry_lawful.again refl) (entry_lawful.fits refl)

-- ---- inserting in order

turned : {K : Type 0} (order : K → K → Ordering) → IsTotalOrder order → (x y : K) → order x y ≡ Less → order y x ≡ Greater
turned order total x y e = total.antisymm y x ∙ ap ordering_reverse e

module _ {K V : Type 0} (order : K → K → Ordering) where
  map_again : (i : Item (K × V)) → LawfulItem i → (old es : List (K × V)) → AllByRecursion i.is_value es → AllByRecursion IsShort (map i.value es) → taken (map_take order i) old (map i.value es) ≡ Some (rebuilt order old es)
  unfolding map_take rebuilt
  map_again i laws old [] all short = refl
  map_again i laws old (e ∷ es) all short =
      let b = laws.back e all.0 short.0 in
      rw b (map_again i laws (insert_entry order old e.0 e.1) es all.1 short.1)

  -- behind entries whose keys are all smaller
  insert_last : (es : List (K × V)) (k : K) (v : V) → AllByRecursion (λ e. order k e.0 ≡ Greater) es → insert_entry order es k v ≡ es ++ (k, v) ∷ []
  insert_last [] k v all = refl
  insert_last (e ∷ es) k v all =
      ap (λ o. match_ordering o ((k, v) ∷ e ∷ es) ((e.0, v) ∷ es) (e ∷ insert_entry order es k v)) all.0 ∙ ap (λ w. e ∷ w) (insert_last es k v all.1)

  all_push : (P : K × V → Type 0) (es : List (K × V)) (e : K × V) → AllByRecursion P es → P e → AllByRecursion P (es ++ e ∷ [])
  all_push P [] e all one = (one, tt)
  all_push P (x ∷ es) e all one = (all.0, all_push P es e all.1 one)

  -- each of the keys that follow is above all before it
  Above : List (K × V) → K × V → Type 0
  Above old e = AllByRecursion (λ x. order e.0 x.0 ≡ Greater) old

  module _ (total : IsTotalOrder order) where
    still_above : (old : List (K × V)) (e : K × V) (es : List (K × V)) → AllByRecursion (λ k. order e.0 k ≡ Less) (keys_of es) → AllByRecursion (Above old) es → AllByRecursion (Above (old ++ e ∷ [])) es
    unfolding Above
    still_above old e [] rising above = tt
    still_above old e (x ∷ es) rising above =
        (all_push (λ y. order x.0 y.0 ≡ Greater) old e above.0 (turned order total e.0 x.0 rising.0), still_above old e es rising.1 above.1)

    rebuilt_behind : (old es : List (K × V)) → IsStrictlySortedBy order (keys_of es) → AllByRecursion (Above old) es → rebuilt order old es ≡ old ++ es
    unfolding rebuilt Above IsStrictlySortedBy
    rebuilt_behind old [] sorted above = sym (append-nil old)
    rebuilt_behind old (e ∷ es) sorted above =
        ap (λ w. rebuilt order w es) (insert_last old e.0 e.1 above.0)
        ∙ rebuilt_behind (old ++ e ∷ []) es sorted.1 (still_above old e es sorted.0 above.1)
        ∙ append_assoc old (e ∷ []) es

    none_before : (es : List (K × V)) → AllByRecursion (Above []) es
    unfolding Above
    none_before [] = tt
    none_before (e ∷ es) = (tt, none_before es)

    -- a map's entries
    pub sorted_rebuilt : (es : List (K × V)) → IsStrictlySortedBy order (keys_of es) → rebuilt order [] es ≡ es
    sorted_rebuilt es sorted = rebuilt_behind [] es sorted (none_before es)

pub map_lawful : {K V : Type 0} (order : K → K → Ordering) (i : Item (K × V)) → LawfulItem i → LawfulKind (map_of order i)
unfolding repeated_values
map_lawful order i laws = record {
  again = λ es are short. map_again order i laws [] es are.all short ∙ ap (λ w. Some w) are.ordered;
  fits = λ es are short. repeated_fits i laws es are.all short;
}

-- ---- loops over a map

pub rebuilt_on : {K V : Type 0} (order : K → K → Ordering) (old : List (K × V)) (e : K × V) (es : List (K × V)) → rebuilt order old (e ∷ es) ≡ rebuilt order (insert_entry order old e.0 e.1) es
unfolding rebuilt
rebuilt_on order old e es = refl

pub rebuilt_end : {K V : Type 0} (order : K → K → Ordering) (old : List (K × V)) → rebuilt order old [] ≡ old
unfolding rebuilt
rebuilt_end order old = refl

-- the bytes of the first of the values that are left
pub first_written : {A : Type 0} (i : Item A) (k : ℕ) (x : A) (xs : List A) → fields_bytes (fields_at k (repeated_values i (x ∷ xs))) ≡ field_bytes (record { number = k; value = i.value x }) ++ fields_bytes (fields_at k (repeated_values i xs))
unfolding repeated_values
first_written i k x xs = flat_map-cons field_bytes (record { number = k; value = i.value x }) (fields_at k (repeated_values i xs))

pub first_measured : {A : Type 0} (i : Item A) (k : ℕ) (x : A) (xs : List A) → length (fields_bytes (fields_at k (repeated_values i (x ∷ xs)))) ≡ length (field_bytes (record { number = k; value = i.value x })) + length (fields_bytes (fields_at k (repeated_values i xs)))
first_measured i k x xs =
    ap length (first_written i k x xs) ∙ length-append (field_bytes (record { number = k; value = i.value x })) (fields_bytes (fields_at k (repeated_values i xs)))

pub none_written : {A : Type 0} (i : Item A) (k : ℕ) → fields_bytes (fields_at k (repeated_values i [])) ≡ []
unfolding repeated_values
none_written i k = refl

abbrev bytes_of : {A : Type 0} → Item A → ℕ → List A → List ℕ
bytes_of i k xs = fields_bytes (fields_at k (repeated_values i xs))

pub none_left : {A : Type 0} (i : Item A) (k : ℕ) (xs : List A) → xs ≡ [] → bytes_of i k xs ≡ []
none_left i k xs e = ap (bytes_of i k) e ∙ none_written i k

-- a loop that has written one more
pub one_less : {A : Type 0} (i : Item A) (k : ℕ) (old new all : List ℕ) (x : A) (xs rest : List A) → xs ≡ x ∷ rest → new ≡ old ++ field_bytes (record { number = k; value = i.value x }) → old ++ bytes_of i k xs ≡ all → new ++ bytes_of i k rest ≡ all
one_less i k old new all x xs rest e w inv =
    ap (λ v. v ++ bytes_of i k rest) w ∙ append_assoc old (field_bytes (record { number = k; value = i.value x })) (bytes_of i k rest)
    ∙ ap (λ v. old ++ v) (sym (ap (bytes_of i k) e ∙ first_written i k x rest)) ∙ inv

pub less_left : {A : Type 0} (i : Item A) (k : ℕ) (x : A) (xs rest : List A) → xs ≡ x ∷ rest → length (bytes_of i k rest) ≤ length (bytes_of i k xs)
less_left i k x xs rest e = let l = ap (λ w. length (bytes_of i k w)) e ∙ first_measured i k x rest in omega (arith, l)

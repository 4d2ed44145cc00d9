-- Numbers in one value: reading them one after the other, and that what is written reads back.
use Rattle.std.proofs.Common.{◌≡◌, ◌<◌, ◌≤◌, ◌^◌, ◌-◌, ◌+◌, ℕ, zero, suc, List, [], ◌∷◌, ◌++◌, length, Option, Some, None, refl, sym, ap, ◌∙◌, arith, length-append, append_assoc, take, get_or}
use Rattle.std.specs.List.{AllByRecursion}
use Rattle.std.specs.Option.{option_map}
use Rattle.std.proofs.lemmas.List.{append-nil}
use Rattle.std.proofs.lemmas.List.Concat.{flat_map-cons}
use Rattle.std.proofs.lemmas.Grind.{flat_map-append}
use Rattle.std.proofs.lemmas.Nat.{from_le_bytes-to_le_bytes_4, from_le_bytes-to_le_bytes_8}
use Rattle.ttrpc_wire.specs.declared.values.codec_error.CodecError.{CodecError}
use Rattle.ttrpc_wire.specs.Varint.{varint}
use Rattle.ttrpc_wire.specs.Field.{Value, Varint, Fixed64, LengthDelimited, Fixed32, ValueFits, IsValue, IsValueOf, value_bytes, fixed64, fixed64_of, fixed32, fixed32_of}
use Rattle.ttrpc_wire.specs.Front.{Begins, BeginsNone}
use Rattle.ttrpc_wire.specs.Fold.{Refused}
use Rattle.ttrpc_wire.specs.Reading.{◌>>=◌, value_at}
use Rattle.ttrpc_wire.proofs.Agrees.{found, shortens}
use Rattle.ttrpc_wire.proofs.Varints.{varint_spells}
use Rattle.ttrpc_wire.proofs.WireValues.{value_agrees}
use Rattle.ttrpc_wire.proofs.Folds.{refused_along}
use Rattle.ttrpc_wire.proofs.Parts.{take_one}
use Rattle.ttrpc_members.specs.Items.{Item}
use Rattle.ttrpc_members.specs.Kinds.{one_more, repeated_take, packed_upto, packed_from, packed_take, packed_bytes, packed_values, packed}
use Rattle.ttrpc_members.specs.Laws.{IsShort, LawfulItem, LawfulKind, taken}
use Rattle.ttrpc_members.proofs.ItemLaws.{delimited_short}

-- ---- what is written for a value is that value

fixed64_back : (n : ℕ) → n < 2 ^ 64 → fixed64_of (fixed64 n) ≡ n
unfolding fixed64_of fixed64
fixed64_back n lt = from_le_bytes-to_le_bytes_8 n lt

fixed32_back : (n : ℕ) → n < 2 ^ 32 → fixed32_of (fixed32 n) ≡ n
unfolding fixed32_of fixed32
fixed32_back n lt = from_le_bytes-to_le_bytes_4 n lt

length-fixed64 : (n : ℕ) → length (fixed64 n) ≡ 8
unfolding fixed64
length-fixed64 n = refl

length-fixed32 : (n : ℕ) → length (fixed32 n) ≡ 4
unfolding fixed32
length-fixed32 n = refl

value_written : (v : Value) → ValueFits v → IsValue (value_bytes v) v
value_written (Varint n) h = varint_spells n h
value_written (Fixed64 n) h = record { size = length-fixed64 n; value = sym (fixed64_back n h) }
value_written (LengthDelimited bytes) h = record { len = varint (length bytes); whole = refl; counts = varint_spells (length bytes) h }
value_written (Fixed32 n) h = record { size = length-fixed32 n; value = sym (fixed32_back n h) }

-- ---- reading one value after the other

module _ {A : Type 0} (i : Item A) where
  -- any bound from the number of bytes on is as good
  upto_same : (k m : ℕ) (old : List A) (bytes : List ℕ) → length bytes ≤ k → length bytes ≤ m → packed_upto i k old bytes ≡ packed_upto i m old bytes
  unfolding packed_upto
  upto_same k m old [] a b = refl
  upto_same zero m old (x ∷ bytes) a b = absurd (omega (arith, a))
  upto_same (suc k) zero old (x ∷ bytes) a b = absurd (omega (arith, b))
  upto_same (suc k) (suc m) old (x ∷ bytes) a b =
      by_value (value_at i.wire_type (x ∷ bytes)) refl (λ xs rest c d. upto_same k m xs rest c d)
    where
      by_taken : (o : Option (List A)) (rest : List ℕ) → length rest ≤ k → length rest ≤ m → ((xs : List A) (rest : List ℕ) → length rest ≤ k → length rest ≤ m → packed_upto i k xs rest ≡ packed_upto i m xs rest) → (o >>= λ xs. packed_upto i k xs rest) ≡ (o >>= λ xs. packed_upto i m xs rest)
      by_taken None rest c d h = refl
      by_taken (Some xs) rest c d h = h xs rest c d

      by_value : (o : Option (Value × List ℕ)) → value_at i.wire_type (x ∷ bytes) ≡ o → ((xs : List A) (rest : List ℕ) → length rest ≤ k → length rest ≤ m → packed_upto i k xs rest ≡ packed_upto i m xs rest)
          → (o >>= λ y. repeated_take i old y.0 >>= λ xs. packed_upto i k xs y.1) ≡ (o >>= λ y. repeated_take i old y.0 >>= λ xs. packed_upto i m xs y.1)
      by_value None e h = refl
      by_value (Some y) e h =
          let less = shortens (value_agrees i.wire_type) (x ∷ bytes) y.1 y.0 ((value_agrees i.wire_type).takes (x ∷ bytes) y e) in
          by_taken (repeated_take i old y.0) y.1 (omega (arith, less, a)) (omega (arith, less, b)) h

  pub packed_end : (old : List A) (bytes : List ℕ) → bytes ≡ [] → packed_from i old bytes ≡ Some old
  unfolding packed_from packed_upto
  packed_end old bytes e = rw e refl

  -- a value at the front
  pub packed_on : (old : List A) (bytes rest : List ℕ) (v : Value) → Begins (IsValueOf i.wire_type) bytes v rest → packed_from i old bytes ≡ (repeated_take i old v >>= λ xs. packed_from i xs rest)
  unfolding packed_from packed_upto
  packed_on old [] rest v b = absurd (omega (arith, shortens (value_agrees i.wire_type) [] rest v b))
  packed_on old (x ∷ bytes) rest v b =
      let e = found (value_agrees i.wire_type) (x ∷ bytes) rest v b in
      let less = shortens (value_agrees i.wire_type) (x ∷ bytes) rest v b in
      rw e (by_taken (repeated_take i old v) (omega (arith, less)))
    where
      by_taken : (o : Option (List A)) → length rest ≤ length bytes → (o >>= λ xs. packed_upto i (length bytes) xs rest) ≡ (o >>= λ xs. packed_upto i (length rest) xs rest)
      by_taken None c = refl
      by_taken (Some xs) c = upto_same (length bytes) (length rest) xs rest c (omega arith)

  -- no value at the front
  pub packed_none : (old : List A) (bytes : List ℕ) → (bytes ≡ [] → ⊥) → BeginsNone (IsValueOf i.wire_type) bytes → packed_from i old bytes ≡ None
  unfolding packed_from packed_upto
  packed_none old [] some n = absurd (some refl)
  packed_none old (x ∷ bytes) some n = by_value (value_at i.wire_type (x ∷ bytes)) refl
    where
      by_value : (o : Option (Value × List ℕ)) → value_at i.wire_type (x ∷ bytes) ≡ o → (o >>= λ y. repeated_take i old y.0 >>= λ xs. packed_upto i (length bytes) xs y.1) ≡ None
      by_value None e = refl
      by_value (Some y) e = absurd (n.none y.0 y.1 ((value_agrees i.wire_type).takes (x ∷ bytes) y e))

  -- the loop's invariant, that what is still to be read gives the whole
  pub packed_went : (old new : List A) (bytes rest : List ℕ) (v : Value) (whole : Option (List A)) → Begins (IsValueOf i.wire_type) bytes v rest → repeated_take i old v ≡ Some new → packed_from i old bytes ≡ whole → packed_from i new rest ≡ whole
  packed_went old new bytes rest v whole b t inv = sym (packed_on old bytes rest v b ∙ ap (λ o. o >>= λ xs. packed_from i xs rest) t) ∙ inv

  pub packed_refused : (old : List A) (bytes rest : List ℕ) (v : Value) (whole : Option (List A)) (e : CodecError) → Begins (IsValueOf i.wire_type) bytes v rest → packed_from i old bytes ≡ whole → Refused e (repeated_take i old v) → Refused e whole
  packed_refused old bytes rest v whole e b inv r = refused_along e (repeated_take i old v) whole (λ t. sym inv ∙ packed_on old bytes rest v b ∙ ap (λ o. o >>= λ xs. packed_from i xs rest) t) r

-- ---- what is written

length-packed : {A : Type 0} (i : Item A) (x : A) (xs : List A) → length (packed_bytes i (x ∷ xs)) ≡ length (value_bytes (i.value x)) + length (packed_bytes i xs)
unfolding packed_bytes
length-packed i x xs = ap length (flat_map-cons (λ x. value_bytes (i.value x)) x xs) ∙ length-append (value_bytes (i.value x)) (packed_bytes i xs)

packed-nil : {A : Type 0} (i : Item A) → packed_bytes i [] ≡ []
unfolding packed_bytes
packed-nil i = refl

packed-cons : {A : Type 0} (i : Item A) (x : A) (xs : List A) → packed_bytes i (x ∷ xs) ≡ value_bytes (i.value x) ++ packed_bytes i xs
unfolding packed_bytes
packed-cons i x xs = flat_map-cons (λ x. value_bytes (i.value x)) x xs

-- one more of them
pub one_more_packed : {A : Type 0} (i : Item A) (xs : List A) (n : ℕ) (x : A) → n < length xs → x ≡ get_or xs n x → packed_bytes i (take (n + 1) xs) ≡ packed_bytes i (take n xs) ++ value_bytes (i.value x)
unfolding packed_bytes
one_more_packed i xs n x lt e =
    ap (packed_bytes i) (take_one xs n x lt e) ∙ flat_map-append (λ x. value_bytes (i.value x)) (take n xs) (x ∷ []) ∙ ap (λ w. packed_bytes i (take n xs) ++ w) (append-nil (value_bytes (i.value x)))

-- each is no longer than all of them
pub number_shorter : {A : Type 0} (i : Item A) (xs : List A) (n : ℕ) (d : A) → n < length xs → length (value_bytes (i.value (get_or xs n d))) ≤ length (packed_bytes i xs)
number_shorter i [] n d lt = absurd (omega arith)
number_shorter i (x ∷ xs) zero d lt = omega (arith, length-packed i x xs)
number_shorter i (x ∷ xs) (suc n) d lt = omega (arith, length-packed i x xs, number_shorter i xs n d (omega arith))

module _ {A : Type 0} (i : Item A) (laws : LawfulItem i) where
  packed_back : (old xs : List A) → AllByRecursion i.is_value xs → length (packed_bytes i xs) < 2 ^ 64 - 1 → packed_from i old (packed_bytes i xs) ≡ Some (old ++ xs)
  unfolding repeated_take
  packed_back old [] all short = packed_end i old (packed_bytes i []) (packed-nil i) ∙ ap (λ w. Some w) (sym (append-nil old))
  packed_back old (x ∷ xs) all short =
      let l = length-packed i x xs in
      let one : IsShort (i.value x) = omega (arith, l) in
      let b = laws.back x all.0 one in
      let begins : Begins (IsValueOf i.wire_type) (packed_bytes i (x ∷ xs)) (i.value x) (packed_bytes i xs) =
      record { front = value_bytes (i.value x); whole = packed-cons i x xs; is = record { is = value_written (i.value x) (laws.fits x all.0 one); typed = laws.typed x } } in
      let went = packed_on i old (packed_bytes i (x ∷ xs)) (packed_bytes i xs) (i.value x) begins in
      let took : repeated_take i old (i.value x) ≡ Some (old ++ x ∷ []) = ap (option_map (one_more old)) b in
      went ∙ ap (λ o. o >>= λ ys. packed_from i ys (packed_bytes i xs)) took ∙ packed_back (old ++ x ∷ []) xs all.1 (omega (arith, l)) ∙ ap (λ w. Some w) (append_assoc old (x ∷ []) xs)

  packed_again : (xs : List A) → AllByRecursion i.is_value xs → AllByRecursion IsShort (packed_values i xs) → taken (packed_take i) [] (packed_values i xs) ≡ Some xs
  unfolding packed_values packed_take
  packed_again [] all short = refl
  packed_again (x ∷ xs) all short =
      let back = packed_back [] (x ∷ xs) all (delimited_short (packed_bytes i (x ∷ xs)) short.0) in
      ap (λ o. o >>= λ y. Some y) back

  packed_fits : (xs : List A) → AllByRecursion i.is_value xs → AllByRecursion IsShort (packed_values i xs) → AllByRecursion ValueFits (packed_values i xs)
  unfolding packed_values
  packed_fits [] all short = tt
  packed_fits (x ∷ xs) all short = (omega (arith, delimited_short (packed_bytes i (x ∷ xs)) short.0), tt)

  pub packed_lawful : LawfulKind (packed i)
  packed_lawful = record { again = packed_again; fits = packed_fits }

-- Laws of the written forms of members: their lengths, that they fit, and that they read back. The laws of the
-- messages' impls stand on these.
use Rattle.std.specs.Prelude.{◌≡◌, ℕ, suc, zero, ◌+◌, ◌%◌, ◌<◌, ◌≤◌, ◌^◌, ◌-◌, List, [], ◌∷◌, ◌++◌, length, Option, Some, None, refl, ℤ, pos, negsuc, FitsSigned}
use Rattle.std.specs.List.{AllByRecursion}
use Rattle.std.specs.Int.{cast_signed, cast_unsigned, w32, w64}
use Rattle.std.proofs.Common.{sym, ap, ◌∙◌, arith, length-append, append_assoc}
use Rattle.std.proofs.lemmas.List.{append-nil}
use Rattle.std.proofs.lemmas.List.Concat.{flat_map-cons}
use Rattle.std.proofs.lemmas.Grind.{flat_map-append}
use Rattle.std.proofs.lemmas.Int.{ints, to_z-of_z}
use Rattle.ttrpc_wire.specs.declared.field.WireType.TheVariants as wire
use Rattle.ttrpc_wire.specs.Varint.{varint}
use Rattle.ttrpc_wire.specs.Field.{Field, Varint, Fits, tag_bytes, field_bytes, fields_bytes}
use Rattle.ttrpc_wire.specs.Number.{number_of, int64_of, int32_of}
use Rattle.ttrpc_wire.specs.Reading.{◌>>=◌}
use Rattle.ttrpc_wire.specs.Fold.{folded, read_from}
use Rattle.ttrpc_wire.specs.Codec.InPlace.{payload_head}
use Rattle.ttrpc_wire.specs.Codec.Members.{delimited_field, delimited_fields, number_fields, part_fields, optional_fields}
use Rattle.ttrpc_wire.proofs.Folds.{folded-append, reads_back}

-- ---- two lists of fields, one behind the other

pub fields_bytes-append : (fs gs : List Field) → fields_bytes (fs ++ gs) ≡ fields_bytes fs ++ fields_bytes gs
fields_bytes-append fs gs = flat_map-append _ fs gs

pub length-fields_bytes-append : (fs gs : List Field) → length (fields_bytes (fs ++ gs)) ≡ length (fields_bytes fs) + length (fields_bytes gs)
length-fields_bytes-append fs gs = ap length (fields_bytes-append fs gs) ∙ length-append (fields_bytes fs) (fields_bytes gs)

-- the field of a payload is what is written before the payload, and the payload
pub payload_then : (k : ℕ) (p : List ℕ) → fields_bytes (delimited_fields k p) ≡ payload_head k p ++ p
payload_then k [] = refl
payload_then k (b ∷ bytes) =
    append-nil (field_bytes (delimited_field k (b ∷ bytes))) ∙ sym (append_assoc (tag_bytes k wire.LengthDelimited) (varint (length (b ∷ bytes))) (b ∷ bytes))

-- the two laws under names that an attribute can cite
pub fields_then : (fs gs : List Field) → fields_bytes (fs ++ gs) ≡ fields_bytes fs ++ fields_bytes gs
fields_then fs gs = fields_bytes-append fs gs

pub fields_len : (fs gs : List Field) → length (fields_bytes (fs ++ gs)) ≡ length (fields_bytes fs) + length (fields_bytes gs)
fields_len fs gs = length-fields_bytes-append fs gs

all_then : (fs gs : List Field) → AllByRecursion Fits fs → AllByRecursion Fits gs → AllByRecursion Fits (fs ++ gs)
all_then [] gs f g = g
all_then (x ∷ fs) gs f g = (f.0, all_then fs gs f.1 g)

-- where both are short, as their whole is
pub fit_then : (fs gs : List Field) → length (fields_bytes (fs ++ gs)) < 2 ^ 64 - 1
    → (length (fields_bytes fs) < 2 ^ 64 - 1 → AllByRecursion Fits fs) → (length (fields_bytes gs) < 2 ^ 64 - 1 → AllByRecursion Fits gs) → AllByRecursion Fits (fs ++ gs)
fit_then fs gs short f g = all_then fs gs (f (omega (arith, length-fields_bytes-append fs gs))) (g (omega (arith, length-fields_bytes-append fs gs)))

pub fold_then : {M : Type 0} (step : M → Field → Option M) (m n o : M) (fs gs : List Field) → folded step m fs ≡ Some n → folded step n gs ≡ Some o → folded step m (fs ++ gs) ≡ Some o
fold_then step m n o fs gs e f = folded-append step m fs gs ∙ ap (λ x. x >>= λ y. folded step y gs) e ∙ f

-- ---- a text or bytes

pub length-delimited_field : (k : ℕ) (bytes : List ℕ) → length (field_bytes (delimited_field k bytes)) ≡ length (tag_bytes k wire.LengthDelimited) + length (varint (length bytes)) + length bytes
length-delimited_field k bytes =
    let a = length-append (tag_bytes k wire.LengthDelimited) (varint (length bytes) ++ bytes) in
    let b = length-append (varint (length bytes)) bytes in
    omega (arith, a, b)

pub delimited_fit : (k : ℕ) (bytes : List ℕ) → 1 ≤ k → k < 2 ^ 29 → length (fields_bytes (delimited_fields k bytes)) < 2 ^ 64 - 1 → AllByRecursion Fits (delimited_fields k bytes)
delimited_fit k [] low high short = tt
delimited_fit k (x ∷ bytes) low high short =
    let one = length-append (field_bytes (delimited_field k (x ∷ bytes))) [] in
    (record { low = low; high = high; value = omega (arith, one, length-delimited_field k (x ∷ bytes)) }, tt)

pub fold_delimited : {M : Type 0} (step : M → Field → Option M) (m n : M) (k : ℕ) (bytes : List ℕ) → (bytes ≡ [] → m ≡ n) → step m (delimited_field k bytes) ≡ Some n → folded step m (delimited_fields k bytes) ≡ Some n
fold_delimited step m n k [] none one = ap (λ x. Some x) (none refl)
fold_delimited step m n k (x ∷ bytes) none one = ap (λ o. o >>= λ n. Some n) one

-- ---- a number

pub number_fit : (k n : ℕ) → 1 ≤ k → k < 2 ^ 29 → n < 2 ^ 64 → AllByRecursion Fits (number_fields k n)
number_fit k zero low high small = tt
number_fit k (suc n) low high small = (record { low = low; high = high; value = small }, tt)

pub fold_number : {M : Type 0} (step : M → Field → Option M) (m n : M) (k v : ℕ) → (v ≡ 0 → m ≡ n) → step m (record { number = k; value = Varint v }) ≡ Some n → folded step m (number_fields k v) ≡ Some n
fold_number step m n k zero none one = ap (λ x. Some x) (none refl)
fold_number step m n k (suc v) none one = ap (λ o. o >>= λ n. Some n) one

int32_bits : (z : ℤ) → FitsSigned w32 z → number_of z % 2 ^ 32 ≡ cast_unsigned w32 z
int32_bits (pos n) fits = omega (arith, ints, fits)
int32_bits (negsuc n) fits = omega (arith, ints, fits)

pub int32_back : (z : ℤ) → FitsSigned w32 z → int32_of (number_of z) ≡ z
int32_back z fits = ap (cast_signed w32) (int32_bits z fits) ∙ to_z-of_z w32 z fits

pub int32_zero : (z : ℤ) → FitsSigned w32 z → number_of z ≡ 0 → pos 0 ≡ z
int32_zero z fits e = omega (arith, ints)

pub int32_small : (z : ℤ) → FitsSigned w32 z → number_of z < 2 ^ 64
int32_small z fits = omega (arith, ints)

pub int64_back : (z : ℤ) → FitsSigned w64 z → int64_of (number_of z) ≡ z
int64_back z fits = to_z-of_z w64 z fits

pub int64_zero : (z : ℤ) → FitsSigned w64 z → number_of z ≡ 0 → pos 0 ≡ z
int64_zero z fits e = omega (arith, ints)

pub int64_small : (z : ℤ) → FitsSigned w64 z → number_of z < 2 ^ 64
int64_small z fits = omega (arith, ints)

-- ---- messages of a list, each of which is a part of the whole

pub length-part_fields : {A : Type 0} (k : ℕ) (fields : A → List Field) (x : A) (xs : List A)
    → length (fields_bytes (part_fields k fields (x ∷ xs))) ≡ length (tag_bytes k wire.LengthDelimited) + length (varint (length (fields_bytes (fields x)))) + length (fields_bytes (fields x)) + length (fields_bytes (part_fields k fields xs))
length-part_fields k fields x xs =
    let f = delimited_field k (fields_bytes (fields x)) in
    let a = ap length (flat_map-cons field_bytes f (part_fields k fields xs)) in
    let b = length-append (field_bytes f) (fields_bytes (part_fields k fields xs)) in
    omega (arith, a, b, length-delimited_field k (fields_bytes (fields x)))

pub parts_fit : {A : Type 0} (k : ℕ) (fields : A → List Field) (xs : List A) → 1 ≤ k → k < 2 ^ 29 → length (fields_bytes (part_fields k fields xs)) < 2 ^ 64 - 1 → AllByRecursion Fits (part_fields k fields xs)
parts_fit k fields [] low high short = tt
parts_fit k fields (x ∷ xs) low high short =
    (record { low = low; high = high; value = omega (arith, length-part_fields k fields x xs) }, parts_fit k fields xs low high (omega (arith, length-part_fields k fields x xs)))

-- each reads back
pub parts_back : {A : Type 0} (step : A → Field → Option A) (empty : A) (Is : A → Type 0) (k : ℕ) (fields : A → List Field) (xs : List A)
    → ((x : A) → Is x → length (fields_bytes (fields x)) < 2 ^ 64 - 1 → folded step empty (fields x) ≡ Some x)
    → ((x : A) → Is x → length (fields_bytes (fields x)) < 2 ^ 64 - 1 → AllByRecursion Fits (fields x))
    → AllByRecursion Is xs → length (fields_bytes (part_fields k fields xs)) < 2 ^ 64 - 1
    → AllByRecursion (λ x. read_from step empty (fields_bytes (fields x)) ≡ Some x) xs
parts_back step empty Is k fields [] again fits all short = tt
parts_back step empty Is k fields (x ∷ xs) again fits all short =
    let one : length (fields_bytes (fields x)) < 2 ^ 64 - 1 = omega (arith, length-part_fields k fields x xs) in
    (reads_back step empty x (fields x) (fits x all.0 one) (again x all.0 one), parts_back step empty Is k fields xs again fits all.1 (omega (arith, length-part_fields k fields x xs)))

-- a member that is a list grows by them
pub fold_parts : {M A : Type 0} (step : M → Field → Option M) (make : List A → M) (k : ℕ) (fields : A → List Field) (old xs : List A)
    → AllByRecursion (λ x. (old : List A) → step (make old) (delimited_field k (fields_bytes (fields x))) ≡ Some (make (old ++ x ∷ []))) xs
    → folded step (make old) (part_fields k fields xs) ≡ Some (make (old ++ xs))
fold_parts step make k fields old [] all = ap (λ w. Some (make w)) (sym (append-nil old))
fold_parts step make k fields old (x ∷ xs) all =
    ap (λ o. o >>= λ n. folded step n (part_fields k fields xs)) (all.0 old) ∙ fold_parts step make k fields (old ++ x ∷ []) xs all.1
    ∙ ap (λ w. Some (make w)) (append_assoc old (x ∷ []) xs)

pub optional_fit : {A : Type 0} (k : ℕ) (fields : A → List Field) (o : Option A) → 1 ≤ k → k < 2 ^ 29 → length (fields_bytes (optional_fields k fields o)) < 2 ^ 64 - 1 → AllByRecursion Fits (optional_fields k fields o)
optional_fit k fields None low high short = tt
optional_fit k fields (Some x) low high short = parts_fit k fields (x ∷ []) low high short

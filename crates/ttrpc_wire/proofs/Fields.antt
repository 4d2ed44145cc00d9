-- Tags, fields, and all the fields of some bytes: reading agrees with the grammar, and what is written is
-- in it.
use Rattle.std.proofs.Common.{◌≡◌, ℕ, zero, suc, ◌+◌, ◌*◌, ◌/◌, ◌%◌, ◌<◌, ◌≤◌, ◌^◌, true, false, nat_lt, nat_eq, List, [], ◌∷◌, ◌++◌, length, Some, None, refl, sym, ap, subst, ◌∙◌, arith, le-ltb, lt-ltb, append_assoc, inl, inr}
use Rattle.std.specs.Option.{option_map}
use Rattle.std.specs.List.{AllByRecursion}
use Rattle.std.proofs.lemmas.Bool.{ltb-false, ltb-true, eqb-true}
use Rattle.std.proofs.lemmas.List.{length-append}
use Rattle.std.proofs.lemmas.List.Concat.{flat_map-cons}
use Rattle.std.proofs.lemmas.Nat.{from_le_bytes-to_le_bytes_4, from_le_bytes-to_le_bytes_8}
use Rattle.ttrpc_wire.specs.declared.field.WireType.{WireType}
use Rattle.ttrpc_wire.specs.declared.field.WireType.TheVariants as wire
use Rattle.ttrpc_wire.specs.Varint.{IsVarint, varint}
use Rattle.ttrpc_wire.specs.Field.{code_of, wire_type_of, Value, Varint, Fixed64, LengthDelimited, Fixed32, Field, IsTag, fixed64_of, fixed32_of, IsValue, IsField, IsFields, fixed64, fixed32, tag_bytes, value_bytes, field_bytes, fields_bytes, ValueFits, Fits}
use Rattle.ttrpc_wire.specs.Front.{Begins}
use Rattle.ttrpc_wire.specs.Reading.{varint_at, wire_type_at, split_tag, tag_at, value_at, field_at, fields_upto, fields_of}
use Rattle.ttrpc_wire.proofs.Agrees.{Agrees, chosen, unrefused, mapped, bound, none_some}
use Rattle.ttrpc_wire.proofs.Varints.{varint_agrees, varint_spells}
use Rattle.ttrpc_wire.proofs.WireValues.{value_agrees}

-- ---- wire types and tags

code_below : (type : WireType) → code_of type < 8
code_below wire.Varint = omega arith
code_below wire.Fixed64 = omega arith
code_below wire.LengthDelimited = omega arith
code_below wire.Fixed32 = omega arith

wire_type_again : (type : WireType) → wire_type_at (code_of type) ≡ Some type
unfolding wire_type_at
wire_type_again wire.Varint = refl
wire_type_again wire.Fixed64 = refl
wire_type_again wire.LengthDelimited = refl
wire_type_again wire.Fixed32 = refl

wire_type_codes : (code : ℕ) (type : WireType) → wire_type_at code ≡ Some type → code_of type ≡ code
unfolding wire_type_at
wire_type_codes code type e =
    elim (chosen (nat_eq code 0) (Some wire.Varint) _ (Some type) e) [
      | inl h ↦ coded wire.Varint 0 refl h.1 h.0
      | inr h ↦ elim (chosen (nat_eq code 1) (Some wire.Fixed64) _ (Some type) h.1) [
        | inl h ↦ coded wire.Fixed64 1 refl h.1 h.0
        | inr h ↦ elim (chosen (nat_eq code 2) (Some wire.LengthDelimited) _ (Some type) h.1) [
          | inl h ↦ coded wire.LengthDelimited 2 refl h.1 h.0
          | inr h ↦ elim (chosen (nat_eq code 5) (Some wire.Fixed32) None (Some type) h.1) [
            | inl h ↦ coded wire.Fixed32 5 refl h.1 h.0
            | inr h ↦ absurd (none_some type h.1)
          ]
        ]
      ]
    ]
  where
    coded : (t : WireType) (n : ℕ) → code_of t ≡ n → Some t ≡ Some type → nat_eq code n ≡ true → code_of type ≡ code
    coded t n c same is = let e : t ≡ type = cc in ap code_of (sym e) ∙ c ∙ sym (eqb-true code n is)

abbrev pub IsTagOf : List ℕ → ℕ × WireType → Type 0
IsTagOf bytes t = IsTag bytes t.0 t.1

tag_takes : (bytes : List ℕ) (x : (ℕ × WireType) × List ℕ) → tag_at bytes ≡ Some x → Begins IsTagOf bytes x.0 x.1
unfolding tag_at
tag_takes bytes x e =
    let b = bound (varint_at bytes) split_tag x e in
    let v = varint_agrees.takes bytes b.0 b.1 in
    let r = unrefused (nat_lt b.0.0 8) _ x b.2 in
    let low : 8 ≤ b.0.0 = ltb-false b.0.0 8 r.0 in
    elim (chosen (nat_lt b.0.0 4294967296) _ None (Some x) r.1) [
      | inl h ↦ let high : b.0.0 < 4294967296 = ltb-true b.0.0 4294967296 h.0 in
          let m = mapped (λ (type : WireType). ((b.0.0 / 8, type), b.0.1)) (wire_type_at (b.0.0 % 8)) x h.1 in
          let c : code_of m.0 ≡ b.0.0 % 8 = wire_type_codes (b.0.0 % 8) m.0 m.1 in
          let k : b.0.0 ≡ b.0.0 / 8 * 8 + code_of m.0 = omega (arith, c) in
          subst (λ (x : (ℕ × WireType) × List ℕ). Begins IsTagOf bytes x.0 x.1) m.2 (record {
            front = v.front;
            whole = v.whole;
            is = record { spells = subst (IsVarint v.front) k v.is; low = omega arith; high = omega arith };
          })
      | inr h ↦ absurd (none_some x h.1)
    ]

tag_again : (front rest : List ℕ) (t : ℕ × WireType) → IsTagOf front t → tag_at (front ++ rest) ≡ Some (t, rest)
unfolding tag_at
tag_again front rest t h =
    let small = code_below t.1 in
    let low : nat_lt (t.0 * 8 + code_of t.1) 8 ≡ false = le-ltb _ _ (omega (arith, h.low)) in
    let high : nat_lt (t.0 * 8 + code_of t.1) 4294967296 ≡ true = lt-ltb _ _ (omega (arith, h.high)) in
    let type : (t.0 * 8 + code_of t.1) % 8 ≡ code_of t.1 = omega arith in
    let number : (t.0 * 8 + code_of t.1) / 8 ≡ t.0 = omega arith in
    rw (varint_agrees.again front rest (t.0 * 8 + code_of t.1) h.spells, low, high, type, wire_type_again t.1, number) refl

pub tag_agrees : Agrees IsTagOf tag_at
tag_agrees = record {
  takes = tag_takes;
  again = tag_again;
  some = λ front t h. varint_agrees.some front (t.0 * 8 + code_of t.1) h.spells;
}

-- ---- one field

field_takes : (bytes : List ℕ) (x : Field × List ℕ) → field_at bytes ≡ Some x → Begins IsField bytes x.0 x.1
unfolding field_at
field_takes bytes x e =
    let b = bound (tag_at bytes) _ x e in
    let t = tag_takes bytes b.0 b.1 in
    let m = mapped (λ (v : Value × List ℕ). (record { number = b.0.0.0; value = v.0 }, v.1)) (value_at b.0.0.1 b.0.1) x b.2 in
    let v = (value_agrees b.0.0.1).takes b.0.1 m.0 m.1 in
    subst (λ (x : Field × List ℕ). Begins IsField bytes x.0 x.1) m.2 (record {
      front = t.front ++ v.front;
      whole = t.whole ∙ ap (λ (w : List ℕ). t.front ++ w) v.whole ∙ sym (append_assoc t.front v.front m.0.1);
      is = record { tag = t.front; rest = v.front; whole = refl; tagged = subst (IsTag t.front b.0.0.0) (sym v.is.typed) t.is; value = v.is.is };
    })

field_again : (front rest : List ℕ) (f : Field) → IsField front f → field_at (front ++ rest) ≡ Some (f, rest)
unfolding field_at
field_again front rest f h =
    let value : value_at (wire_type_of f.value) (h.rest ++ rest) ≡ Some (f.value, rest) = (value_agrees (wire_type_of f.value)).again h.rest rest f.value (record { is = h.value; typed = refl }) in
    rw (h.whole, append_assoc h.tag h.rest rest, tag_again h.tag (h.rest ++ rest) (f.number, wire_type_of f.value) h.tagged, value) refl

pub field_agrees : Agrees IsField field_at
field_agrees = record {
  takes = field_takes;
  again = field_again;
  some = λ front f h. omega (arith, ap length h.whole, length-append h.tag h.rest, tag_agrees.some h.tag (f.number, wire_type_of f.value) h.tagged);
}

-- ---- what is written

length-fixed64 : (n : ℕ) → length (fixed64 n) ≡ 8
unfolding fixed64
length-fixed64 n = refl

length-fixed32 : (n : ℕ) → length (fixed32 n) ≡ 4
unfolding fixed32
length-fixed32 n = refl

fixed64_back : (n : ℕ) → n < 2 ^ 64 → fixed64_of (fixed64 n) ≡ n
unfolding fixed64_of fixed64
fixed64_back n lt = from_le_bytes-to_le_bytes_8 n lt

fixed32_back : (n : ℕ) → n < 2 ^ 32 → fixed32_of (fixed32 n) ≡ n
unfolding fixed32_of fixed32
fixed32_back n lt = from_le_bytes-to_le_bytes_4 n lt

value_written : (v : Value) → ValueFits v → IsValue (value_bytes v) v
value_written (Varint n) h = varint_spells n h
value_written (Fixed64 n) h = record { size = length-fixed64 n; value = sym (fixed64_back n h) }
value_written (LengthDelimited bytes) h = record { len = varint (length bytes); whole = refl; counts = varint_spells (length bytes) h }
value_written (Fixed32 n) h = record { size = length-fixed32 n; value = sym (fixed32_back n h) }

pub field_written : (f : Field) → Fits f → IsField (field_bytes f) f
field_written f h =
    let small = code_below (wire_type_of f.value) in
    record {
      tag = tag_bytes f.number (wire_type_of f.value);
      rest = value_bytes f.value;
      whole = refl;
      tagged = record { spells = varint_spells (f.number * 8 + code_of (wire_type_of f.value)) (omega (arith, h.high)); low = h.low; high = h.high };
      value = value_written f.value h.value;
    }

pub fields_written : (fs : List Field) → AllByRecursion Fits fs → IsFields (fields_bytes fs) fs
fields_written [] h = refl
fields_written (f ∷ fs) h = (field_bytes f, fields_bytes fs, flat_map-cons field_bytes f fs, field_written f h.0, fields_written fs h.1)

-- ---- all fields

fields_take : (k : ℕ) (bytes : List ℕ) (fs : List Field) → fields_upto k bytes ≡ Some fs → IsFields bytes fs
unfolding fields_upto
fields_take zero [] fs e = let same : [] ≡ fs = cc in subst (IsFields []) same refl
fields_take zero (b ∷ bytes) fs e = absurd (none_some fs e)
fields_take (suc k) [] fs e = let same : [] ≡ fs = cc in subst (IsFields []) same refl
fields_take (suc k) (b ∷ bytes) fs e =
    let c = bound (field_at (b ∷ bytes)) (λ x. option_map (λ fs. x.0 ∷ fs) (fields_upto k x.1)) fs e in
    let m = mapped (λ (fs : List Field). c.0.0 ∷ fs) (fields_upto k c.0.1) fs c.2 in
    let t = field_takes (b ∷ bytes) c.0 c.1 in
    subst (IsFields (b ∷ bytes)) m.2 (t.front, c.0.1, t.whole, t.is, fields_take k c.0.1 m.0 m.1)

fields_again : (k : ℕ) (bytes : List ℕ) (fs : List Field) → length bytes ≤ k → IsFields bytes fs → fields_upto k bytes ≡ Some fs
unfolding fields_upto
fields_again zero bytes [] le h = rw h refl
fields_again (suc k) bytes [] le h = rw h refl
fields_again zero bytes (f ∷ fs) le h = absurd (omega (arith, field_agrees.some h.0 f h.3, ap length h.2, length-append h.0 h.1))
fields_again (suc k) [] (f ∷ fs) le h = absurd (omega (arith, field_agrees.some h.0 f h.3, ap length h.2, length-append h.0 h.1))
fields_again (suc k) (b ∷ bytes) (f ∷ fs) le h =
    let one : field_at (b ∷ bytes) ≡ Some (f, h.1) = ap field_at h.2 ∙ field_again h.0 h.1 f h.3 in
    let short : length h.1 ≤ k = omega (arith, field_agrees.some h.0 f h.3, ap length h.2, length-append h.0 h.1) in
    rw (one, fields_again k h.1 fs short h.4) refl

pub fields_from : (bytes : List ℕ) (fs : List Field) → IsFields bytes fs → fields_of bytes ≡ Some fs
unfolding fields_of
fields_from bytes fs h = fields_again (length bytes) bytes fs (omega arith) h

pub are_fields : (bytes : List ℕ) (fs : List Field) → fields_of bytes ≡ Some fs → IsFields bytes fs
unfolding fields_of
are_fields bytes fs e = fields_take (length bytes) bytes fs e

pub IsFields-append : (a b : List ℕ) (fs gs : List Field) → IsFields a fs → IsFields b gs → IsFields (a ++ b) (fs ++ gs)
IsFields-append a b [] gs h k = rw h k
IsFields-append a b (f ∷ fs) gs h k = (h.0, h.1 ++ b, ap (λ (w : List ℕ). w ++ b) h.2 ∙ append_assoc h.0 h.1 b, h.3, IsFields-append h.1 b fs gs h.4 k)

pub one_list : (bytes : List ℕ) (fs gs : List Field) → IsFields bytes fs → IsFields bytes gs → fs ≡ gs
one_list bytes fs gs h k = let e : Some fs ≡ Some gs = sym (fields_from bytes fs h) ∙ fields_from bytes gs k in cc

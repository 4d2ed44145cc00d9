-- Laws of items.
use Rattle.std.proofs.Common.{◌≡◌, ◌<◌, ◌^◌, ◌-◌, ◌+◌, ◌*◌, ◌/◌, ◌%◌, ℕ, List, [], ◌∷◌, length, Option, Some, Bool, true, false, nat_eq, refl, sym, ap, ◌∙◌, arith, length-append}
use Rattle.std.specs.Prelude.{ℤ, pos, negsuc, FitsSigned}
use Rattle.std.specs.Option.{option_map}
use Rattle.std.specs.List.{AllByRecursion}
use Rattle.std.specs.Int.{cast_unsigned, w32, w64}
use Rattle.std.proofs.lemmas.Bool.{eqb-true}
use Rattle.std.proofs.lemmas.Int.{ints, to_z-of_z}
use Rattle.std.proofs.lemmas.Str.{is_utf8-from_IsUtf8}
use Rattle.ttrpc_wire.specs.Varint.{varint}
use Rattle.ttrpc_wire.specs.Field.{LengthDelimited, Field, Fits, fields_bytes, value_bytes}
use Rattle.ttrpc_wire.specs.Fold.{folded}
use Rattle.ttrpc_wire.proofs.Folds.{reads_back}
use Rattle.ttrpc_wire.proofs.Written.{int32_back, int32_small, int64_back, int64_small}
use Rattle.ttrpc_members.specs.Items.{Coding, is_nil, text, bytes, nested, enclosed, as_varint, as_fixed64, as_fixed32, int64, int32, uint64, uint32, boolean, boolean_code, boolean_of, zigzag, unzigzag, sint64, sint32, sfixed32}
use Rattle.ttrpc_members.specs.Laws.{LawfulCoding, LawfulItem, AreShort}

-- ---- texts, bytes and messages

nil_is : (b : List ℕ) → is_nil b ≡ true → [] ≡ b
nil_is [] e = refl
nil_is (x ∷ b) e = absurd cc

pub delimited_short : (b : List ℕ) → length (value_bytes (LengthDelimited b)) < 2 ^ 64 - 1 → length b < 2 ^ 64 - 1
delimited_short b short = omega (arith, length-append (varint (length b)) b)

delimited_fits : (b : List ℕ) → length (value_bytes (LengthDelimited b)) < 2 ^ 64 - 1 → length b < 2 ^ 64
delimited_fits b short = omega (arith, delimited_short b short)

pub text_lawful : LawfulItem text
text_lawful = record {
  firsts = λ x is e. nil_is x e;
  typed = λ x. refl;
  back = λ x is short. let u = is_utf8-from_IsUtf8 x is in rw u refl;
  fits = λ x is short. delimited_fits x short;
}

pub bytes_lawful : LawfulItem bytes
bytes_lawful = record {
  firsts = λ x is e. nil_is x e;
  typed = λ x. refl;
  back = λ x is short. refl;
  fits = λ x is short. delimited_fits x short;
}

pub nested_lawful : {M : Type 0} (is_value : M → Type 0) (empty : M) (step : M → Field → Option M) (fields : M → List Field)
    → ((m : M) → is_value m → AreShort (fields m) → folded step empty (fields m) ≡ Some m)
    → ((m : M) → is_value m → AreShort (fields m) → AllByRecursion Fits (fields m))
    → LawfulItem (nested is_value empty step fields)
nested_lawful is_value empty step fields again fits = record {
  firsts = λ x is e. absurd cc;
  typed = λ x. refl;
  back = λ x is short.
      let one = delimited_short (fields_bytes (fields x)) short in
      ap (λ o. option_map (λ x. Some x) o) (reads_back step empty x (fields x) (fits x is one) (again x is one));
  fits = λ x is short. delimited_fits (fields_bytes (fields x)) short;
}

pub enclosed_lawful : (takes : List ℕ → Option (Unit {0})) → LawfulItem (enclosed takes)
enclosed_lawful takes = record {
  firsts = λ x is e. absurd cc;
  typed = λ x. refl;
  back = λ x is short. rw is refl;
  fits = λ x is short. delimited_fits x short;
}

-- ---- numbers

first_is : {A : Type 0} (c : Coding A) (bound : ℕ) → LawfulCoding c bound → (x : A) → c.is_value x → nat_eq (c.code x) 0 ≡ true → c.decode 0 ≡ x
first_is c bound laws x is e = ap c.decode (sym (eqb-true (c.code x) 0 e)) ∙ laws.back x is

pub varint_lawful : {A : Type 0} (c : Coding A) → LawfulCoding c (2 ^ 64) → LawfulItem (as_varint c)
varint_lawful c laws = record {
  firsts = first_is c (2 ^ 64) laws;
  typed = λ x. refl;
  back = λ x is short. ap (λ y. Some (Some y)) (laws.back x is);
  fits = λ x is short. laws.fits x is;
}

pub fixed64_lawful : {A : Type 0} (c : Coding A) → LawfulCoding c (2 ^ 64) → LawfulItem (as_fixed64 c)
fixed64_lawful c laws = record {
  firsts = first_is c (2 ^ 64) laws;
  typed = λ x. refl;
  back = λ x is short. ap (λ y. Some (Some y)) (laws.back x is);
  fits = λ x is short. laws.fits x is;
}

pub fixed32_lawful : {A : Type 0} (c : Coding A) → LawfulCoding c (2 ^ 32) → LawfulItem (as_fixed32 c)
fixed32_lawful c laws = record {
  firsts = first_is c (2 ^ 32) laws;
  typed = λ x. refl;
  back = λ x is short. ap (λ y. Some (Some y)) (laws.back x is);
  fits = λ x is short. laws.fits x is;
}

pub int64_codes : LawfulCoding int64 (2 ^ 64)
int64_codes = record { back = int64_back; fits = int64_small }

pub int32_codes : LawfulCoding int32 (2 ^ 64)
int32_codes = record { back = int32_back; fits = int32_small }

pub uint64_codes : LawfulCoding uint64 (2 ^ 64)
uint64_codes = record { back = λ x is. refl; fits = λ x is. is }

low_bits : (n : ℕ) → n < 2 ^ 32 → n % 2 ^ 32 ≡ n
low_bits n small = omega (arith, small)

pub uint32_codes : LawfulCoding uint32 (2 ^ 64)
uint32_codes = record { back = low_bits; fits = λ x is. omega (arith, is) }

pub uint32_codes32 : LawfulCoding uint32 (2 ^ 32)
uint32_codes32 = record { back = low_bits; fits = λ x is. is }

boolean_back : (b : Bool) → boolean_of (boolean_code b) ≡ b
boolean_back true = refl
boolean_back false = refl

boolean_small : (b : Bool) → boolean_code b < 2 ^ 64
boolean_small true = omega arith
boolean_small false = omega arith

pub boolean_codes : LawfulCoding boolean (2 ^ 64)
boolean_codes = record { back = λ x is. boolean_back x; fits = λ x is. boolean_small x }

even_rest : (n : ℕ) → (2 * n) % 2 ≡ 0
even_rest n = omega arith

even_half : (n : ℕ) → (2 * n) / 2 ≡ n
even_half n = omega arith

odd_rest : (n : ℕ) → (2 * n + 1) % 2 ≡ 1
odd_rest n = omega arith

odd_half : (n : ℕ) → (2 * n + 1) / 2 ≡ n
odd_half n = omega arith

zigzag_back : (z : ℤ) → unzigzag (zigzag z) ≡ z
zigzag_back (pos n) = let r = even_rest n in let h = even_half n in rw (r, h) refl
zigzag_back (negsuc n) = let r = odd_rest n in let h = odd_half n in rw (r, h) refl

zigzag64_small : (z : ℤ) → FitsSigned w64 z → zigzag z < 2 ^ 64
zigzag64_small (pos n) fits = omega (arith, ints, fits)
zigzag64_small (negsuc n) fits = omega (arith, ints, fits)

zigzag32_small : (z : ℤ) → FitsSigned w32 z → zigzag z < 2 ^ 32
zigzag32_small (pos n) fits = omega (arith, ints, fits)
zigzag32_small (negsuc n) fits = omega (arith, ints, fits)

pub sint64_codes : LawfulCoding sint64 (2 ^ 64)
sint64_codes = record { back = λ x is. zigzag_back x; fits = zigzag64_small }

pub sint32_codes : LawfulCoding sint32 (2 ^ 64)
sint32_codes = record {
  back = λ x is. ap unzigzag (low_bits (zigzag x) (zigzag32_small x is)) ∙ zigzag_back x;
  fits = λ x is. omega (arith, zigzag32_small x is);
}

sfixed32_small : (z : ℤ) → FitsSigned w32 z → cast_unsigned w32 z < 2 ^ 32
sfixed32_small z fits = omega (arith, ints)

pub sfixed32_codes : LawfulCoding sfixed32 (2 ^ 32)
sfixed32_codes = record { back = λ x is. to_z-of_z w32 x is; fits = sfixed32_small }

-- The loop that reads a varint: what was read so far, and what the rest still gives, make the whole.
use Rattle.std.proofs.Common.{◌≡◌, ℕ, zero, suc, ◌+◌, ◌*◌, ◌-◌, ◌<◌, ◌≤◌, ◌^◌, true, false, nat_lt, List, [], ◌∷◌, Option, Some, None, refl, sym, ap, ◌∙◌, arith, le-ltb, lt-ltb, add-one}
use native.Mathlib.Numerals.{unary_clauses}
use Rattle.std.specs.Option.{option_map}
use Rattle.std.proofs.Math.Nat.{mul-add, mul_comm, mul_assoc, pow-le-pow_right}
use Rattle.std.proofs.lemmas.Nat.{mul-le}
use Rattle.ttrpc_wire.specs.Reading.{with_digit, varint_upto, varint_at}

-- the digits so far with what is read from the rest
abbrev pub onto : ℕ → ℕ → Option (ℕ × List ℕ) → Option (ℕ × List ℕ)
onto value scale read = option_map (λ x. (value + scale * x.0, x.1)) read

-- after i bytes that weren't the last
pub record HasRead (i value scale : ℕ) (rest bytes : List ℕ) : Type 0 where
  pub whole : onto value scale (varint_upto (10 - i) rest) ≡ varint_at bytes
  pub power : scale ≡ 128 ^ i
  pub below : value < scale

regroup : (v s b n : ℕ) → v + s * (b + 128 * n) ≡ (v + b * s) + (s * 128) * n
regroup v s b n =
    let e1 : s * (b + 128 * n) ≡ s * b + s * (128 * n) = mul-add s b (128 * n) in
    let e2 : s * b ≡ b * s = mul_comm s b in
    let e3 : s * 128 * n ≡ s * (128 * n) = mul_assoc s 128 n in
    omega arith

onto-with_digit : (v s b : ℕ) (o : Option (ℕ × List ℕ)) → onto v s (option_map (with_digit b) o) ≡ onto (v + (b - 128) * s) (s * 128) o
onto-with_digit v s b None = refl
onto-with_digit v s b (Some x) = ap (λ n. Some (n, x.1)) (regroup v s (b - 128) x.0)

-- up to the ninth byte everything fits 64 bits
pub scale_fits : (i s : ℕ) → s ≡ 128 ^ i → i < 9 → s ≤ 2 ^ 56
scale_fits i s e lt =
    let le : i ≤ 8 = omega arith in
    rw e (pow-le-pow_right {n = 128} (omega arith) {i = i} {j = 8} le)

pub digit_fits : (b s : ℕ) → b < 128 → b * s ≤ 127 * s
digit_fits b s lt = mul-le b s 127 s (omega arith) (omega arith)

onto_nothing : (o : Option (ℕ × List ℕ)) → onto 0 1 o ≡ o
onto_nothing None = refl
onto_nothing (Some x) = ap (λ n. Some (n, x.1)) (omega arith)

pub starts : (bytes : List ℕ) → HasRead 0 0 1 bytes bytes
unfolding varint_at
starts bytes = record { whole = onto_nothing (varint_upto 10 bytes); power = refl; below = omega arith }

pub runs_out : (i v s : ℕ) (rest bytes : List ℕ) → i ≤ 9 → HasRead i v s rest bytes → rest ≡ [] → varint_at bytes ≡ None
unfolding varint_upto
runs_out i v s rest bytes le h e =
    let k : 10 - i ≡ suc (9 - i) = omega arith in
    sym h.whole ∙ rw (k, e) refl

-- a last byte before the tenth
pub ends : (i v s b : ℕ) (after rest bytes : List ℕ) → i < 9 → HasRead i v s rest bytes → rest ≡ b ∷ after → b < 128 → varint_at bytes ≡ Some (v + b * s, after)
unfolding varint_upto
ends i v s b after rest bytes lt h e small =
    let k : 10 - i ≡ suc (suc (8 - i)) = omega arith in
    let t : nat_lt b 128 ≡ true = lt-ltb b 128 small in
    let m : s * b ≡ b * s = mul_comm s b in
    sym h.whole ∙ rw (k, e, t, m) refl

pub goes_on : (i v s b : ℕ) (after rest bytes : List ℕ) → i < 9 → HasRead i v s rest bytes → rest ≡ b ∷ after → 128 ≤ b → b < 256 → HasRead (i + 1) (v + (b - 128) * s) (s * 128) after bytes
unfolding varint_upto
goes_on i v s b after rest bytes lt h e large fits =
    let k : 10 - i ≡ suc (suc (8 - i)) = omega arith in
    let k2 : 10 - (i + 1) ≡ suc (8 - i) = omega arith in
    let t : nat_lt b 128 ≡ false = le-ltb b 128 large in
    let step : onto v s (varint_upto (10 - i) rest) ≡ onto v s (option_map (with_digit b) (varint_upto (10 - (i + 1)) after)) = rw (k, k2, e, t) refl in
    record {
      whole = sym (onto-with_digit v s b (varint_upto (10 - (i + 1)) after)) ∙ sym step ∙ h.whole;
      power = rw (h.power, add-one i) (simp unary_clauses);
      below = omega (arith, digit_fits (b - 128) s (omega arith), h.below);
    }

-- the tenth byte
pub ends_at_ten : (i v s b : ℕ) (after rest bytes : List ℕ) → i ≡ 9 → HasRead i v s rest bytes → rest ≡ b ∷ after → b ≤ 1 → varint_at bytes ≡ Some (v + b * s, after)
unfolding varint_upto
ends_at_ten i v s b after rest bytes at h e small =
    let k : 10 - i ≡ suc zero = omega arith in
    let t : nat_lt b 2 ≡ true = lt-ltb b 2 (omega arith) in
    let m : s * b ≡ b * s = mul_comm s b in
    sym h.whole ∙ rw (k, e, t, m) refl

pub too_large : (i v s b : ℕ) (after rest bytes : List ℕ) → i ≡ 9 → HasRead i v s rest bytes → rest ≡ b ∷ after → 1 < b → varint_at bytes ≡ None
unfolding varint_upto
too_large i v s b after rest bytes at h e large =
    let k : 10 - i ≡ suc zero = omega arith in
    let t : nat_lt b 2 ≡ false = le-ltb b 2 large in
    sym h.whole ∙ rw (k, e, t) refl

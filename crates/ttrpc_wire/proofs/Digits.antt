-- The loops that spell a number: the digits so far, and those of the rest, are the varint.
use Rattle.std.proofs.Common.{◌≡◌, ℕ, zero, suc, ◌+◌, ◌*◌, ◌-◌, ◌/◌, ◌%◌, ◌<◌, ◌≤◌, ◌^◌, true, false, nat_lt, List, [], ◌∷◌, ◌++◌, length, take, set, refl, sym, ap, ◌∙◌, arith, le-ltb, lt-ltb, append_assoc}
use Rattle.std.proofs.lemmas.List.{length-append, take_more_set}
use Rattle.ttrpc_wire.specs.Varint.{digits, varint}
use Rattle.ttrpc_wire.proofs.Varints.{room}

-- after i digits, with the rest still to be spelled
pub record Spelling (i rest : ℕ) (front : List ℕ) (n : ℕ) : Type 0 where
  pub whole : front ++ digits (9 - i) rest ≡ varint n
  pub count : length front ≡ i
  pub below : rest < room (9 - i)

pub begins : (n : ℕ) → n < 2 ^ 64 → Spelling 0 n [] n
unfolding varint
begins n lt = record { whole = refl; count = refl; below = omega arith }

pub goes_on : (i rest : ℕ) (front : List ℕ) (n : ℕ) → i < 9 → 128 ≤ rest → Spelling i rest front n → Spelling (i + 1) (rest / 128) (front ++ (128 + rest % 128) ∷ []) n
unfolding digits
goes_on i rest front n lt large s =
    let k : 9 - i ≡ suc (9 - (i + 1)) = omega arith in
    let t : nat_lt rest 128 ≡ false = le-ltb rest 128 large in
    let b : rest < 128 * room (9 - (i + 1)) = rw k at s.below in
    let e : digits (9 - i) rest ≡ (128 + rest % 128) ∷ digits (9 - (i + 1)) (rest / 128) = rw (k, t) refl in
    record {
      whole = append_assoc front ((128 + rest % 128) ∷ []) (digits (9 - (i + 1)) (rest / 128)) ∙ ap (λ (w : List ℕ). front ++ w) (sym e) ∙ s.whole;
      count = omega (arith, s.count, length-append front ((128 + rest % 128) ∷ []));
      below = omega arith;
    }

pub ends : (i rest : ℕ) (front : List ℕ) (n : ℕ) → i < 9 → rest < 128 → Spelling i rest front n → front ++ rest ∷ [] ≡ varint n
unfolding digits
ends i rest front n lt small s =
    let k : 9 - i ≡ suc (9 - (i + 1)) = omega arith in
    let t : nat_lt rest 128 ≡ true = lt-ltb rest 128 small in
    let e : digits (9 - i) rest ≡ rest ∷ [] = rw (k, t) refl in
    ap (λ (w : List ℕ). front ++ w) (sym e) ∙ s.whole

pub ends_at_ten : (i rest : ℕ) (front : List ℕ) (n : ℕ) → i ≡ 9 → Spelling i rest front n → (front ++ rest ∷ [] ≡ varint n) × (rest < 2)
unfolding digits
ends_at_ten i rest front n at s =
    let k : 9 - i ≡ zero = omega arith in
    let e : digits (9 - i) rest ≡ rest ∷ [] = rw k refl in
    let b : rest < 2 = rw k at s.below in
    (ap (λ (w : List ℕ). front ++ w) (sym e) ∙ s.whole, b)

-- one digit more than those in front
pub length-last : (i rest : ℕ) (front bytes : List ℕ) → length front ≡ i → front ++ rest ∷ [] ≡ bytes → i + 1 ≡ length bytes
length-last i rest front bytes count e = omega (arith, count, length-append front (rest ∷ []), ap length e)

-- ---- the digits stored in ten bytes

pub stores : (i rest n : ℕ) (bytes : List ℕ) → length bytes ≡ 10 → i < 9 → 128 ≤ rest → Spelling i rest (take i bytes) n → Spelling (i + 1) (rest / 128) (take (i + 1) (set bytes i (128 + rest % 128))) n
stores i rest n bytes size lt large s =
    let in_range : i < length bytes = omega arith in
    rw take_more_set (goes_on i rest (take i bytes) n lt large s)

pub stores_last : (i rest n : ℕ) (bytes : List ℕ) → length bytes ≡ 10 → i < 9 → rest < 128 → Spelling i rest (take i bytes) n → take (i + 1) (set bytes i rest) ≡ varint n
stores_last i rest n bytes size lt small s = take_more_set bytes i rest (omega arith) ∙ ends i rest (take i bytes) n lt small s

pub stores_tenth : (i rest n : ℕ) (bytes : List ℕ) → length bytes ≡ 10 → i ≡ 9 → Spelling i rest (take i bytes) n → take 10 (set bytes 9 rest) ≡ varint n
stores_tenth i rest n bytes size at s =
    let last : take i bytes ++ rest ∷ [] ≡ varint n = (ends_at_ten i rest (take i bytes) n at s).0 in
    take_more_set bytes 9 rest (omega arith) ∙ rw at at last

pub varint_small : (n : ℕ) → n < 128 → varint n ≡ n ∷ []
unfolding varint digits
varint_small n small = let t : nat_lt n 128 ≡ true = lt-ltb n 128 small in rw t refl

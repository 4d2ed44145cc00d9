-- Varints: reading agrees with the grammar, and the written form is the shortest spelling.
use Rattle.std.proofs.Common.{◌≡◌, ℕ, zero, suc, ◌+◌, ◌*◌, ◌-◌, ◌/◌, ◌%◌, ◌<◌, ◌≤◌, ◌^◌, true, false, nat_lt, List, [], ◌∷◌, ◌++◌, length, Some, refl, ap, subst, arith, le-ltb, lt-ltb, inl, inr}
use Rattle.std.specs.Option.{option_map}
use Rattle.std.specs.List.{AllByRecursion}
use Rattle.std.proofs.lemmas.Option.{cond_some}
use Rattle.std.proofs.lemmas.Bool.{cases_lt, ltb-false, ltb-true}
use Rattle.ttrpc_wire.specs.Varint.{SpellsIn, IsVarint, digits, varint}
use Rattle.ttrpc_wire.specs.Front.{Begins}
use Rattle.ttrpc_wire.specs.Reading.{with_digit, varint_upto, varint_at}
use Rattle.ttrpc_wire.proofs.Agrees.{Agrees, chosen, mapped}

abbrev Spells : ℕ → List ℕ → ℕ × List ℕ → Type 0
Spells k bytes x = Begins (SpellsIn k) bytes x.0 x.1

upto_takes : (k : ℕ) (bytes : List ℕ) (x : ℕ × List ℕ) → varint_upto k bytes ≡ Some x → Spells k bytes x
unfolding varint_upto
upto_takes zero [] x e = absurd cc
upto_takes zero (b ∷ bytes) x e = absurd cc
upto_takes (suc zero) [] x e = absurd cc
upto_takes (suc (suc k)) [] x e = absurd cc
upto_takes (suc zero) (b ∷ bytes) x e =
    let c = cond_some (nat_lt b 2) (b, bytes) x e in
    subst (Spells 1 (b ∷ bytes)) c.1 (record { front = b ∷ []; whole = refl; is = (ltb-true b 2 c.0, refl, refl) })
upto_takes (suc (suc k)) (b ∷ bytes) x e =
    elim (chosen (nat_lt b 128) (Some (b, bytes)) (option_map (with_digit b) (varint_upto (suc k) bytes)) (Some x) e) [
      | inl h ↦ let same : (b, bytes) ≡ x = cc in
          subst (Spells (suc (suc k)) (b ∷ bytes)) same (record { front = b ∷ []; whole = refl; is = inl (ltb-true b 128 h.0, refl, refl) })
      | inr h ↦ let m = mapped (with_digit b) (varint_upto (suc k) bytes) x h.1 in
          let t = upto_takes (suc k) bytes m.0 m.1 in
          subst (Spells (suc (suc k)) (b ∷ bytes)) m.2 (record { front = b ∷ t.front; whole = ap (λ (w : List ℕ). b ∷ w) t.whole; is = inr (ltb-false b 128 h.0, m.0.0, refl, t.is) })
    ]

upto_again : (k : ℕ) (bytes rest : List ℕ) (n : ℕ) → SpellsIn k bytes n → varint_upto k (bytes ++ rest) ≡ Some (n, rest)
unfolding varint_upto
upto_again zero [] rest n h = absurd h
upto_again zero (b ∷ bytes) rest n h = absurd h
upto_again (suc zero) [] rest n h = absurd h
upto_again (suc (suc k)) [] rest n h = absurd h
upto_again (suc zero) (b ∷ bytes) rest n h =
    let t : nat_lt b 2 ≡ true = lt-ltb b 2 h.0 in
    rw (h.2, t, h.1) refl
upto_again (suc (suc k)) (b ∷ bytes) rest n h =
    elim h [
      | inl s ↦ let t : nat_lt b 128 ≡ true = lt-ltb b 128 s.0 in rw (s.2, t, s.1) refl
      | inr s ↦ let t : nat_lt b 128 ≡ false = le-ltb b 128 s.0 in
          rw (t, upto_again (suc k) bytes rest s.1 s.3, s.2) refl
    ]

spells_some : (k : ℕ) (bytes : List ℕ) (n : ℕ) → SpellsIn k bytes n → 1 ≤ length bytes
spells_some k [] n h = absurd h
spells_some k (b ∷ bytes) n h = omega arith

pub varint_agrees : Agrees IsVarint varint_at
unfolding varint_at
varint_agrees = record {
  takes = λ bytes x e. let t = upto_takes 10 bytes x e in record { front = t.front; whole = t.whole; is = record { spells = t.is } };
  again = λ front rest n h. upto_again 10 front rest n h.spells;
  some = λ front n h. spells_some 10 front n h.spells;
}

-- what k + 1 bytes can spell, of a number of 64 bits
abbrev pub room : ℕ → ℕ
room zero = 2
room (suc k) = 128 * room k

room_some : (k : ℕ) → 2 ≤ room k
room_some zero = omega arith
room_some (suc k) = omega (arith, room_some k)

digits_spell : (k n : ℕ) → n < room k → SpellsIn (suc k) (digits k n) n
unfolding digits
digits_spell zero n lt = (lt, refl, refl)
digits_spell (suc k) n lt =
    elim (cases_lt n 128) [
      | inl small ↦ let t : nat_lt n 128 ≡ true = lt-ltb n 128 small in
          rw t (inl (small, refl, refl))
      | inr large ↦ let t : nat_lt n 128 ≡ false = le-ltb n 128 large in
          let e : n ≡ 128 + n % 128 - 128 + 128 * (n / 128) = omega arith in
          rw t (inr (omega arith, n / 128, e, digits_spell k (n / 128) (omega arith)))
    ]

pub varint_spells : (n : ℕ) → n < 2 ^ 64 → IsVarint (varint n) n
unfolding varint
varint_spells n lt = record { spells = digits_spell 9 n (omega arith) }

-- what ten bytes spell has 64 bits
spells_below : (k : ℕ) (bytes : List ℕ) (n : ℕ) → AllByRecursion (λ b. b < 256) bytes → SpellsIn (suc k) bytes n → n < room k
spells_below k [] n all h = absurd h
spells_below zero (b ∷ bytes) n all h = omega arith
spells_below (suc k) (b ∷ bytes) n all h =
    elim h [
      | inl s ↦ omega (arith, room_some k)
      | inr s ↦ omega (arith, spells_below k bytes s.1 all.1 s.3, all.0)
    ]

pub varint_below : (bytes : List ℕ) (n : ℕ) → AllByRecursion (λ b. b < 256) bytes → IsVarint bytes n → n < 2 ^ 64
varint_below bytes n all h = omega (arith, spells_below 9 bytes n all h.spells)

digits_shortest : (k : ℕ) (bytes : List ℕ) (n : ℕ) → AllByRecursion (λ b. b < 256) bytes → SpellsIn (suc k) bytes n → length (digits k n) ≤ length bytes
unfolding digits
digits_shortest k [] n all h = absurd h
digits_shortest zero (b ∷ bytes) n all h = omega arith
digits_shortest (suc k) (b ∷ bytes) n all h =
    elim (cases_lt n 128) [
      | inl small ↦ let t : nat_lt n 128 ≡ true = lt-ltb n 128 small in rw t (omega arith)
      | inr large ↦ elim h [
        | inl s ↦ absurd (omega (arith, large, s.0, s.1))
        | inr s ↦
            let t : nat_lt n 128 ≡ false = le-ltb n 128 large in
            let e : n / 128 ≡ s.1 = omega (arith, all.0, s.0, s.2) in
            rw (t, e) (omega (arith, digits_shortest k bytes s.1 all.1 s.3))
      ]
    ]

pub varint_shortest : (bytes : List ℕ) (n : ℕ) → AllByRecursion (λ b. b < 256) bytes → IsVarint bytes n → length (varint n) ≤ length bytes
unfolding varint
varint_shortest bytes n all h = digits_shortest 9 bytes n all h.spells

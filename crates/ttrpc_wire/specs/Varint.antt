-- Varints: numbers of at most 64 bits, seven bits a byte, the lowest first.
-- Source: the Protocol Buffers encoding guide, "Base 128 Varints".
use Rattle.std.specs.Prelude.{◌≡◌, ℕ, zero, suc, ◌+◌, ◌*◌, ◌-◌, ◌/◌, ◌%◌, ◌<◌, ◌≤◌, List, [], ◌∷◌, nat_lt, if◌then◌else◌, ◌⊎◌}

-- Holds if the bytes encode n in at most k bytes, and the k-th byte, if there is one, is at most 1. A byte below 128 is the last, and
-- is itself the number that is left. A byte from 128 on has the low seven bits, and the bytes after it encode the others.
abbrev pub SpellsIn : ℕ → List ℕ → ℕ → Type 0
SpellsIn k [] n = ⊥
SpellsIn zero (b ∷ bytes) n = ⊥
SpellsIn (suc zero) (b ∷ bytes) n = (b < 2) × (n ≡ b) × (bytes ≡ [])
SpellsIn (suc (suc k)) (b ∷ bytes) n = ((b < 128) × (n ≡ b) × (bytes ≡ [])) ⊎ ((128 ≤ b) × (high : ℕ) × (n ≡ b - 128 + 128 * high) × SpellsIn (suc k) bytes high)

-- Holds if the bytes are a varint of the number n: at most ten bytes, and the tenth is at most 1. Encodings that are longer than the
-- shortest are varints too.
pub record IsVarint (bytes : List ℕ) (n : ℕ) : Type 0 where
  pub spells : SpellsIn 10 bytes n

-- Returns the shortest encoding of n, of at most k + 1 bytes.
unfoldable pub digits : ℕ → ℕ → List ℕ
digits zero n = n ∷ []
digits (suc k) n = if nat_lt n 128 then n ∷ [] else (128 + n % 128) ∷ digits k (n / 128)

-- Returns the one varint that is written for a number of 64 bits.
unfoldable pub varint : ℕ → List ℕ
varint n = digits 9 n

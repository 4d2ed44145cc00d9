-- Signed numbers as varints: the 64 bits of two's complement, also for a number of 32 bits.
-- Source: the Protocol Buffers encoding guide, "Signed Integers".
use Rattle.std.specs.Prelude.{ℕ, ◌%◌, ◌^◌, ℤ}
use Rattle.std.specs.Int.{w32, w64, cast_signed, cast_unsigned}

-- Returns the number that is written for a signed number.
abbrev pub number_of : ℤ → ℕ
number_of z = cast_unsigned w64 z

-- Returns the signed number of 64 bits that is written as this number.
abbrev pub int64_of : ℕ → ℤ
int64_of n = cast_signed w64 n

-- Returns the signed number in the low 32 bits of a number.
abbrev pub int32_of : ℕ → ℤ
int32_of n = cast_signed w32 (n % 2 ^ 32)

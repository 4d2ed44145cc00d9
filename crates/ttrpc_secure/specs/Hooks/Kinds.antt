-- The kinds of values that may be known of a connection. For each kind, a function returns the value of a datum of this kind.
-- Source: this project's.
use Rattle.std.specs.Prelude.{ℕ, ℤ, Bool, Option, Some, None, String, Vec}
use Rattle.std.specs.Global.{Global}
use Rattle.ttrpc_secure.specs.declared.hooks.datum.Datum.{Datum}
use Rattle.ttrpc_secure.specs.declared.hooks.datum.Datum.TheVariants.{Text, Bool as ABool, I8, I16, I32, I64, I128, Isize, U8, U16, U32, U64, U128, Usize, Bytes}

-- Returns the text in a datum, if the datum is one.
abbrev pub text_of : Datum → Option (String Global)
text_of (Text text) = Some text
text_of _ = None

-- Returns the truth value in a datum, if the datum is one.
abbrev pub bool_of : Datum → Option Bool
bool_of (ABool b) = Some b
bool_of _ = None

-- Returns the bytes in a datum, if the datum is bytes.
abbrev pub bytes_of : Datum → Option (Vec ℕ Global)
bytes_of (Bytes bytes) = Some bytes
bytes_of _ = None

-- Returns the signed number of 8 bits in a datum, if the datum is one.
abbrev pub i8_of : Datum → Option ℤ
i8_of (I8 n) = Some n
i8_of _ = None

-- Returns the signed number of 16 bits in a datum, if the datum is one.
abbrev pub i16_of : Datum → Option ℤ
i16_of (I16 n) = Some n
i16_of _ = None

-- Returns the signed number of 32 bits in a datum, if the datum is one.
abbrev pub i32_of : Datum → Option ℤ
i32_of (I32 n) = Some n
i32_of _ = None

-- Returns the signed number of 64 bits in a datum, if the datum is one.
abbrev pub i64_of : Datum → Option ℤ
i64_of (I64 n) = Some n
i64_of _ = None

-- Returns the signed number of 128 bits in a datum, if the datum is one.
abbrev pub i128_of : Datum → Option ℤ
i128_of (I128 n) = Some n
i128_of _ = None

-- Returns the signed number of a machine's word in a datum, if the datum is one.
abbrev pub isize_of : Datum → Option ℤ
isize_of (Isize n) = Some n
isize_of _ = None

-- Returns the unsigned number of 8 bits in a datum, if the datum is one.
abbrev pub u8_of : Datum → Option ℕ
u8_of (U8 n) = Some n
u8_of _ = None

-- Returns the unsigned number of 16 bits in a datum, if the datum is one.
abbrev pub u16_of : Datum → Option ℕ
u16_of (U16 n) = Some n
u16_of _ = None

-- Returns the unsigned number of 32 bits in a datum, if the datum is one.
abbrev pub u32_of : Datum → Option ℕ
u32_of (U32 n) = Some n
u32_of _ = None

-- Returns the unsigned number of 64 bits in a datum, if the datum is one.
abbrev pub u64_of : Datum → Option ℕ
u64_of (U64 n) = Some n
u64_of _ = None

-- Returns the unsigned number of 128 bits in a datum, if the datum is one.
abbrev pub u128_of : Datum → Option ℕ
u128_of (U128 n) = Some n
u128_of _ = None

-- Returns the unsigned number of a machine's word in a datum, if the datum is one.
abbrev pub usize_of : Datum → Option ℕ
usize_of (Usize n) = Some n
usize_of _ = None

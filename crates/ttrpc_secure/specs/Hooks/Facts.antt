-- The data that are known of a connection, as values that a proof can distinguish.
-- Source: this project's.
use Rattle.std.specs.Prelude.{ℕ, ℤ, Bool, List, map, String, string_bytes}
use Rattle.std.specs.Global.{Global}
use Rattle.ttrpc_secure.specs.declared.hooks.datum.Datum.{Datum}
use Rattle.ttrpc_secure.specs.declared.hooks.datum.Datum.TheVariants as datum

-- A value: a text, a truth value, a whole number of this many bits or of a machine's word, or bytes.
pub data Fact : Type 0 where
  Text : (text : List ℕ) → Fact
  Truth : (value : Bool) → Fact
  Signed : (bits : ℕ) → (value : ℤ) → Fact
  Unsigned : (bits : ℕ) → (value : ℕ) → Fact
  SignedWord : (value : ℤ) → Fact
  Word : (value : ℕ) → Fact
  Bytes : (bytes : List ℕ) → Fact

-- Returns the value of a datum.
abbrev pub fact_of : Datum → Fact
fact_of (datum.Text text) = Text (string_bytes text)
fact_of (datum.Bool value) = Truth value
fact_of (datum.I8 value) = Signed 8 value
fact_of (datum.I16 value) = Signed 16 value
fact_of (datum.I32 value) = Signed 32 value
fact_of (datum.I64 value) = Signed 64 value
fact_of (datum.I128 value) = Signed 128 value
fact_of (datum.Isize value) = SignedWord value
fact_of (datum.U8 value) = Unsigned 8 value
fact_of (datum.U16 value) = Unsigned 16 value
fact_of (datum.U32 value) = Unsigned 32 value
fact_of (datum.U64 value) = Unsigned 64 value
fact_of (datum.U128 value) = Unsigned 128 value
fact_of (datum.Usize value) = Word value
fact_of (datum.Bytes bytes) = Bytes bytes.items

-- Names and their values, by rising names.
abbrev pub Facts : Type 0
Facts = List (List ℕ × Fact)

-- Returns the names and values in the entries of a map.
abbrev pub facts_of : List (String Global × Datum) → Facts
facts_of entries = map (λ e. (string_bytes e.0, fact_of e.1)) entries

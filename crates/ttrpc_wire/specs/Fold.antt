-- The meaning of bytes as a message: each field is one step, from the message of no fields on.
-- Source: the Protocol Buffers encoding guide, "Message Structure".
use Rattle.std.specs.Prelude.{◌≡◌, ℕ, List, [], ◌∷◌, Option, Some, None, Result, Ok, Err}
use Rattle.ttrpc_wire.specs.declared.values.codec_error.CodecError.{CodecError}
use Rattle.ttrpc_wire.specs.declared.values.codec_error.CodecError.TheVariants as errors
use Rattle.ttrpc_wire.specs.Field.{Field}
use Rattle.ttrpc_wire.specs.Reading.{◌>>=◌, fields_of}

-- Returns the message after one step for each field, in order, from m on. Returns None if a step refuses its field.
abbrev pub folded : {M : Type 0} → (M → Field → Option M) → M → List Field → Option M
folded step m [] = Some m
folded step m (f ∷ fs) = step m f >>= λ n. folded step n fs

-- Returns the message that the bytes mean, from m on: they are fields, and each is one step. Returns None if the bytes aren't fields,
-- or if a step refuses its field.
unfoldable pub read_from : {M : Type 0} → (M → Field → Option M) → M → List ℕ → Option M
read_from step m bytes = fields_of bytes >>= folded step m

-- Holds if a call that reads may return this error when reading gives this result: NoMemory always, and any other error only if the
-- result is None.
abbrev pub Refused : {Y : Type 0} → CodecError → Option Y → Type 0
Refused errors.NoMemory read = Unit {0}
Refused _ read = read ≡ None

-- Holds if a call may return this when reading gives this result: the value in the result, seen by view, or an error that `Refused`
-- allows.
abbrev pub Gives : {X Y : Type 0} → (X → Y) → Result X CodecError → Option Y → Type 0
Gives view (Ok x) read = read ≡ Some (view x)
Gives view (Err e) read = Refused e read

-- The members of messages: a member after one more field, and the fields that are written for a member.
-- Source: the Protocol Buffers encoding guide, "Last One Wins" and "Repeated Elements".
use Rattle.std.specs.Prelude.{ℕ, zero, suc, List, [], ◌∷◌, ◌++◌, Option, Some, None, ◌==◌, if◌then◌else◌, map, unwrap_or}
use Rattle.std.specs.Option.{option_map}
use Rattle.std.specs.Str.{is_utf8}
use Rattle.ttrpc_wire.specs.Field.{Value, Varint, Fixed64, LengthDelimited, Fixed32, Field, fields_bytes}
use Rattle.ttrpc_wire.specs.Reading.{◌>>=◌}
use Rattle.ttrpc_wire.specs.Fold.{read_from}

-- ---- reading: a field of another number, or of another wire type, doesn't change a member

-- Returns a member that reads length-delimited values, after this value. A value of another wire type doesn't change the member.
-- Returns None if the member refuses the value.
abbrev pub delimited : {A : Type 0} → (A → List ℕ → Option A) → A → Value → Option A
delimited read old (LengthDelimited bytes) = read old bytes
delimited read old (Varint n) = Some old
delimited read old (Fixed64 n) = Some old
delimited read old (Fixed32 n) = Some old

-- Returns a member that reads varints, after this value. A value of another wire type doesn't change the member. Returns None if the
-- member refuses the value.
abbrev pub number : {A : Type 0} → (A → ℕ → Option A) → A → Value → Option A
number read old (Varint n) = read old n
number read old (LengthDelimited bytes) = Some old
number read old (Fixed64 n) = Some old
number read old (Fixed32 n) = Some old

-- Returns member k, which reads length-delimited values, after this field. Returns None if the member refuses the field.
abbrev pub delimited_in : {A : Type 0} → ℕ → (A → List ℕ → Option A) → A → Field → Option A
delimited_in k read old f = if f.number == k then delimited read old f.value else Some old

-- Returns member k, which reads varints, after this field. Returns None if the member refuses the field.
abbrev pub number_in : {A : Type 0} → ℕ → (A → ℕ → Option A) → A → Field → Option A
number_in k read old f = if f.number == k then number read old f.value else Some old

-- Returns the bytes if they are UTF-8, and None otherwise.
abbrev pub text_of : List ℕ → Option (List ℕ)
text_of bytes = if is_utf8 bytes then Some bytes else None

-- Returns a text after another text was read: the last text wins, and bytes that aren't UTF-8 are refused.
abbrev pub last_text : List ℕ → List ℕ → Option (List ℕ)
last_text old bytes = text_of bytes

-- Returns bytes after other bytes were read: the last bytes win.
abbrev pub last_bytes : List ℕ → List ℕ → Option (List ℕ)
last_bytes old bytes = Some bytes

-- Returns a number after another was read, in the form of the member's type: the last number wins.
abbrev pub last_number : {A : Type 0} → (ℕ → A) → A → ℕ → Option A
last_number seen old n = Some (seen n)

-- Returns a list of messages after one more message was read.
abbrev pub one_more : {M : Type 0} → (M → Field → Option M) → M → List M → List ℕ → Option (List M)
one_more step empty old bytes = option_map (λ m. old ++ m ∷ []) (read_from step empty bytes)

-- Returns a message that may be absent, after more bytes of it were read. Their fields are added to the old message, or to the empty
-- message if the old one was absent.
abbrev pub joined : {M : Type 0} → (M → Field → Option M) → M → Option M → List ℕ → Option (Option M)
joined step empty old bytes = option_map (λ m. Some m) (read_from step (unwrap_or old empty) bytes)

-- ---- two members: each field is offered to both

-- Returns two members after this field, or None if one of them refuses the field.
abbrev pub both : {A B : Type 0} → (A → Field → Option A) → (B → Field → Option B) → A × B → Field → Option (A × B)
both first second m f = first m.0 f >>= λ a. second m.1 f >>= λ b. Some (a, b)

-- ---- writing: a default isn't written

-- Returns the field of number k with these bytes as its length-delimited value.
abbrev pub delimited_field : ℕ → List ℕ → Field
delimited_field k bytes = record { number = k; value = LengthDelimited bytes }

-- Returns the field of a text or of bytes, or none if they are empty.
abbrev pub delimited_fields : ℕ → List ℕ → List Field
delimited_fields k [] = []
delimited_fields k (b ∷ bytes) = delimited_field k (b ∷ bytes) ∷ []

-- Returns the field of a number, or none if the number is 0.
abbrev pub number_fields : ℕ → ℕ → List Field
number_fields k zero = []
number_fields k (suc n) = record { number = k; value = Varint (suc n) } ∷ []

-- Returns the fields of a list of messages, one for each message. An empty message has a field too.
abbrev pub part_fields : {M : Type 0} → ℕ → (M → List Field) → List M → List Field
part_fields k fields ms = map (λ m. delimited_field k (fields_bytes (fields m))) ms

-- Returns the field of a message that may be absent, or none if the message is absent.
abbrev pub optional_fields : {M : Type 0} → ℕ → (M → List Field) → Option M → List Field
optional_fields k fields None = []
optional_fields k fields (Some m) = delimited_field k (fields_bytes (fields m)) ∷ []

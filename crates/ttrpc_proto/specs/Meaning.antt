-- The meaning of fields as a message, member by member. A scalar, a text or bytes is the last value of its number with its own wire
-- type, or the default. A list is all such values in order. The member `status` is all its values joined. Other fields mean nothing. A
-- text that isn't UTF-8 gives no meaning, even if a later text follows it.
-- Source: the Protocol Buffers encoding guide, "Last One Wins" and "Repeated Elements".
use Rattle.std.specs.Prelude.{◌≡◌, ℕ, List, [], ◌∷◌, ◌++◌, Option, Some, None, map, ◌==◌, if◌then◌else◌, pos}
use Rattle.std.specs.List.{AllByRecursion, flat_map}
use Rattle.std.specs.Str.{IsUtf8}
use Rattle.ttrpc_wire.specs.Field.{Value, Varint, Fixed64, LengthDelimited, Fixed32, Field, IsFields}
use Rattle.ttrpc_wire.specs.Number.{int64_of, int32_of}
use Rattle.ttrpc_proto.specs.declared.messages.Any.{Any}
use Rattle.ttrpc_proto.specs.declared.messages.KeyValue.{KeyValue}
use Rattle.ttrpc_proto.specs.declared.messages.Request.{Request}
use Rattle.ttrpc_proto.specs.declared.messages.Response.{Response}
use Rattle.ttrpc_proto.specs.declared.messages.Status.{Status}

-- ---- the values of one number, in order

-- Returns the bytes of a length-delimited value, or none for any other value.
abbrev pub delimited_value : Value → List (List ℕ)
delimited_value (LengthDelimited bytes) = bytes ∷ []
delimited_value (Varint n) = []
delimited_value (Fixed64 n) = []
delimited_value (Fixed32 n) = []

-- Returns the number of a varint, or none for any other value.
abbrev pub number_value : Value → List ℕ
number_value (Varint n) = n ∷ []
number_value (LengthDelimited bytes) = []
number_value (Fixed64 n) = []
number_value (Fixed32 n) = []

-- Returns the length-delimited values of the fields with this number, in order.
abbrev pub delimited_values : ℕ → List Field → List (List ℕ)
delimited_values k [] = []
delimited_values k (f ∷ fs) = (if f.number == k then delimited_value f.value else []) ++ delimited_values k fs

-- Returns the numbers of the varints in the fields with this number, in order.
abbrev pub number_values : ℕ → List Field → List ℕ
number_values k [] = []
number_values k (f ∷ fs) = (if f.number == k then number_value f.value else []) ++ number_values k fs

-- Returns the last value, or the default if there are none.
abbrev pub last_or : {A : Type 0} → A → List A → A
last_or d [] = d
last_or d (x ∷ xs) = last_or x xs

-- ---- the kinds of members

-- Holds if the text is the last of the values, or empty if there are none, and each value is UTF-8.
pub record IsLastText (values : List (List ℕ)) (text : List ℕ) : Type 0 where
  pub texts : AllByRecursion IsUtf8 values
  pub last : text ≡ last_or [] values

-- Holds if each value means the message at its place, and there are no other messages.
abbrev pub AreEach : {B M : Type 0} → (B → M → Type 0) → List B → List M → Type 0
AreEach Is [] [] = Unit {0}
AreEach Is [] (m ∷ ms) = ⊥
AreEach Is (b ∷ bs) [] = ⊥
AreEach Is (b ∷ bs) (m ∷ ms) = Is b m × AreEach Is bs ms

-- Holds if the bytes are fields with this meaning.
abbrev pub Means : {M : Type 0} → (List Field → M → Type 0) → List ℕ → M → Type 0
Means OfFields bytes m = (fs : List Field) × IsFields bytes fs × OfFields fs m

-- Holds if the values one after the other mean this message, and each means a message by itself too. If there are no values, the
-- message is absent.
abbrev pub AreJoined : {M : Type 0} → (List ℕ → M → Type 0) → List (List ℕ) → Option M → Type 0
AreJoined Is [] o = o ≡ None
AreJoined Is (b ∷ bs) None = ⊥
AreJoined {M = M} Is (b ∷ bs) (Some m) = Is (flat_map (λ x. x) (b ∷ bs)) m × AllByRecursion (λ x. (n : M) × Is x n) (b ∷ bs)

-- ---- the five messages

-- Holds if the fields mean this `KeyValue`.
pub record OfKeyValue (fs : List Field) (m : KeyValue) : Type 0 where
  pub key : IsLastText (delimited_values 1 fs) m.key
  pub value : IsLastText (delimited_values 2 fs) m.value

-- Holds if the fields mean this `Any`.
pub record OfAny (fs : List Field) (m : Any) : Type 0 where
  pub type_url : IsLastText (delimited_values 1 fs) m.type_url
  pub value : m.value ≡ last_or [] (delimited_values 2 fs)

-- Holds if the fields mean this status.
pub record OfStatus (fs : List Field) (m : Status) : Type 0 where
  pub code : m.code ≡ last_or (pos 0) (map int32_of (number_values 1 fs))
  pub message : IsLastText (delimited_values 2 fs) m.message
  pub details : AreEach (Means OfAny) (delimited_values 3 fs) m.details

-- Holds if the fields mean this request.
pub record OfRequest (fs : List Field) (m : Request) : Type 0 where
  pub service : IsLastText (delimited_values 1 fs) m.service
  pub method : IsLastText (delimited_values 2 fs) m.method
  pub payload : m.payload ≡ last_or [] (delimited_values 3 fs)
  pub timeout_nano : m.timeout_nano ≡ last_or (pos 0) (map int64_of (number_values 4 fs))
  pub metadata : AreEach (Means OfKeyValue) (delimited_values 5 fs) m.metadata

-- Holds if the fields mean this response.
pub record OfResponse (fs : List Field) (m : Response) : Type 0 where
  pub status : AreJoined (Means OfStatus) (delimited_values 1 fs) m.status
  pub payload : m.payload ≡ last_or [] (delimited_values 2 fs)

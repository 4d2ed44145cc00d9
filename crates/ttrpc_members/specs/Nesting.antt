-- Messages that may contain themselves: the rules for the bytes of one, with all messages below it, and the limit of their nesting.
-- Source: the Protocol Buffers encoding guide, "Length-Delimited Records"; the limit is that of Protocol Buffers' own implementations.
use Rattle.std.specs.Prelude.{◌≡◌, ◌≢◌, ℕ, zero, suc, List, [], ◌∷◌, ◌++◌, length, drop, Option, Some, None, ◌==◌, if◌then◌else◌}
use Rattle.std.specs.Option.{option_map}
use Rattle.std.specs.Str.{is_utf8}
use Rattle.ttrpc_wire.specs.declared.field.WireType.{WireType}
use Rattle.ttrpc_wire.specs.declared.values.codec_error.CodecError.{CodecError}
use Rattle.ttrpc_wire.specs.declared.values.codec_error.CodecError.TheVariants.{NoMemory, TooDeep}
use Rattle.ttrpc_wire.specs.Field.{Value, Varint, Fixed64, LengthDelimited, Fixed32, Field}
use Rattle.ttrpc_wire.specs.Reading.{◌>>=◌, value_at}
use Rattle.ttrpc_wire.specs.Fold.{read_from}
use Rattle.ttrpc_members.specs.declared.nesting.Content.{Content}
use Rattle.ttrpc_members.specs.declared.nesting.Content.TheVariants as content
use Rattle.ttrpc_members.specs.declared.nesting.Rule.{Rule}

-- the content that the first of these rules require of a member of their message, up to the first rule of another message
abbrev pub content_from : List Rule → ℕ → ℕ → Option Content
content_from [] message number = None
content_from (r ∷ rules) message number = if r.message == message then (if r.number == number then Some r.content else content_from rules message number) else None

-- the content that the rules require of a member, by its message and its number, if they require any; a message's rules lie together, from
-- its place on
abbrev pub content_of : List Rule → ℕ → ℕ → Option Content
content_of rules message number = content_from (drop message rules) message number

-- ---- the bytes that are accepted: `Some tt`, or a refusal

-- all of the bytes, as at most k numbers of this wire type
unfoldable pub numbers_upto : ℕ → WireType → List ℕ → Option (Unit {0})
numbers_upto k type [] = Some tt
numbers_upto zero type (b ∷ bytes) = None
numbers_upto (suc k) type (b ∷ bytes) = value_at type (b ∷ bytes) >>= λ x. numbers_upto k type x.1

-- all of the bytes, as numbers of this wire type
unfoldable pub numbers_in : WireType → List ℕ → Option (Unit {0})
numbers_in type bytes = numbers_upto (length bytes) type bytes

-- a text
abbrev pub text_in : List ℕ → Option (Unit {0})
text_in bytes = if is_utf8 bytes then Some tt else None

-- bytes with this required content; `inner` accepts the bytes of a message or not
abbrev pub content_in : (ℕ → List ℕ → Option (Unit {0})) → Content → List ℕ → Option (Unit {0})
content_in inner content.Text bytes = text_in bytes
content_in inner (content.Numbers type) bytes = numbers_in type bytes
content_in inner (content.Message message) bytes = inner message bytes

-- a value with this required content, if any; a value that isn't length-delimited is accepted
abbrev pub value_in : (ℕ → List ℕ → Option (Unit {0})) → Option Content → Value → Option (Unit {0})
value_in inner None v = Some tt
value_in inner (Some c) (LengthDelimited bytes) = content_in inner c bytes
value_in inner (Some c) (Varint n) = Some tt
value_in inner (Some c) (Fixed64 n) = Some tt
value_in inner (Some c) (Fixed32 n) = Some tt

-- one more field of a message
abbrev pub field_in : List Rule → (ℕ → List ℕ → Option (Unit {0})) → ℕ → Unit {0} → Field → Option (Unit {0})
field_in rules inner message taken f = value_in inner (content_of rules message f.number) f.value

-- the bytes of a message, in at most k levels
unfoldable pub nested_upto : List Rule → ℕ → ℕ → List ℕ → Option (Unit {0})
nested_upto rules zero message bytes = None
nested_upto rules (suc k) message bytes = read_from (field_in rules (λ m b. nested_upto rules k m b) message) tt bytes

-- the bytes of a message that is in another one, in at most 100 levels
unfoldable pub within : List Rule → ℕ → List ℕ → Option (Unit {0})
within rules message bytes = nested_upto rules 100 message bytes

-- An error of a check, which isn't that of refused memory. If it isn't `TooDeep`, nothing is accepted in any number of levels.
abbrev pub TellsDepth : CodecError → (ℕ → Option (Unit {0})) → Type 0
TellsDepth e takes = (e ≢ NoMemory) × (e ≢ TooDeep → (k : ℕ) → takes k ≡ None)

-- the old bytes, followed by bytes that are accepted
abbrev pub with_more : (List ℕ → Option (Unit {0})) → List ℕ → List ℕ → Option (List ℕ)
with_more takes old bytes = option_map (λ _. old ++ bytes) (takes bytes)

-- Metadata: a map from keys to lists of texts.
-- Source: PROTOCOL.md of ttrpc, "Request", and its definition of `KeyValue`.
use Rattle.std.specs.Prelude.{◌≡◌, ℕ, ℤ, List, [], ◌∷◌, ◌++◌, Option, Some, None, map, filter, flat_map, String, string_bytes, Vec, if◌then◌else◌}
use Rattle.std.specs.Char.{to_ascii_lowercase}
use Rattle.std.specs.Map.{lookup}
use Rattle.std.specs.Option.{unwrap_or}
use Rattle.std.specs.Str.{bytes_eq}
use Rattle.ttrpc_proto.specs.declared.messages.KeyValue.{KeyValue}

-- keys with their texts
abbrev pub Metadata : Type 0
Metadata = List (List ℕ × List (List ℕ))

-- the content of a context
pub record Carried : Type 0 where
  pub metadata : Metadata
  pub timeout_nano : ℤ

-- the texts of a key, if there are any
abbrev pub texts_of : Metadata → List ℕ → Option (List (List ℕ))
texts_of m key = lookup (bytes_eq key) m

-- one key has these texts, or none, and every other key has the same texts as before
abbrev pub Sets : Metadata → List ℕ → Option (List (List ℕ)) → Metadata → Type 0
Sets old key texts new = (k : List ℕ) → texts_of new k ≡ (if bytes_eq k key then texts else texts_of old k)

-- one key has one more text, after the texts that it had
abbrev pub Adds : Metadata → List ℕ → List ℕ → Metadata → Type 0
Adds old key text new = Sets old key (Some (unwrap_or (texts_of old key) [] ++ text ∷ [])) new

-- an empty list of texts counts as none
abbrev pub some_texts : List (List ℕ) → Option (List (List ℕ))
some_texts [] = None
some_texts (t ∷ ts) = Some (t ∷ ts)

-- a key with its ASCII capitals as small letters
abbrev pub lower : List ℕ → List ℕ
lower key = map to_ascii_lowercase key

-- ---- the content of a map of the code

-- the texts of a vector, as bytes
abbrev pub texts : {Y : Type 0} → Vec (String Y) Y → List (List ℕ)
texts vec = map string_bytes vec.items

-- the entries of a map, as keys with their texts
abbrev pub seen : {Y : Type 0} → List (String Y × Vec (String Y) Y) → Metadata
seen entries = map (λ e. (string_bytes e.0, texts e.1)) entries

-- ---- pairs

-- the values of a key, in order
abbrev pub values_at : List KeyValue → List ℕ → List (List ℕ)
values_at pairs key = map KeyValue.value (filter (λ (p : KeyValue). bytes_eq key p.key) pairs)

-- a pair for each text of a key
abbrev pub pairs_at : List ℕ → List (List ℕ) → List KeyValue
pairs_at key texts = map (λ text. record { key = key; value = text }) texts

-- a pair for each text, key by key
abbrev pub pairs_of : Metadata → List KeyValue
pairs_of m = flat_map (λ e. pairs_at e.0 e.1) m

-- How an `Any` names its message.
-- Source: google/protobuf/any.proto of Protocol Buffers, the comment of `type_url`.
use Rattle.std.specs.Prelude.{ℕ, List, ◌≡◌, ◌++◌, codes}

-- the text before a full name in an address, if no other is asked for
abbrev pub googles : List ℕ
googles = codes "type.googleapis.com/"

-- an address names a message: it ends in a slash and the name
abbrev pub Names : List ℕ → List ℕ → Type 0
Names url name = (before : List ℕ) × (url ≡ before ++ (codes "/" ++ name))

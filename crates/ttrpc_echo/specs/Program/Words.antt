-- The words that the program is called by.
-- Source: this project's.
use Rattle.std.specs.Prelude.{◌≡◌, ℕ, ℤ, List, [], ◌∷◌, codes, Result, Ok}
use Rattle.std.specs.Int.{w64}
use Rattle.std.specs.Str.Parse.{ParsesSigned}
use Rattle.hex.specs.Hex.{decode_of}
use Rattle.ttrpc_proto.specs.declared.messages.Request.{Request}

-- the word `answer`
abbrev pub IsAnswer : List (List ℕ) → Type 0
IsAnswer words = words ≡ codes "answer" ∷ []

-- a first word, and the second after it
abbrev pub IsBehind : List ℕ → List (List ℕ) → List ℕ → Type 0
IsBehind first words second = words ≡ first ∷ second ∷ []

-- the words of a call: address, service, method, digits and timeout
abbrev pub IsCall : List (List ℕ) → List ℕ → List ℕ → List ℕ → List ℕ → List ℕ → Type 0
IsCall words address service method digits timeout =
    words ≡ codes "call" ∷ address ∷ service ∷ method ∷ digits ∷ timeout ∷ []

-- the digits, two for each byte, encode bytes
abbrev pub IsHex : List ℕ → Type 0
IsHex digits = (payload : List ℕ) × (decode_of digits ≡ Ok payload)

-- a number that was read
abbrev pub told : ℤ → Result ℤ (Unit {0})
told n = Ok n

-- std reads the text as this number of 64 bits with a sign
abbrev pub IsTimeout : List ℕ → ℤ → Type 0
IsTimeout text n = ParsesSigned w64 10 text (told n)

-- the digits encode bytes, and the text is a number
abbrev pub AreRight : List ℕ → List ℕ → Type 0
AreRight digits text = IsHex digits × ((n : ℤ) × IsTimeout text n)

-- the request asks for this method of this service, with the bytes of these digits and the number of this text, and has
-- no metadata
abbrev pub AsksBy : List ℕ → List ℕ → List ℕ → List ℕ → Request → Type 0
AsksBy service method digits text request =
    (request.service ≡ service) × (request.method ≡ method) × (decode_of digits ≡ Ok request.payload) × IsTimeout text request.timeout_nano × (request.metadata ≡ [])

-- The line that reports the result of a call.
-- Source: this project's.
use Rattle.std.specs.Prelude.{◌≡◌, ◌⊎◌, ℕ, List, [], ◌∷◌, ◌++◌, codes, Option, IfSome, option_map, Result, Ok, Err}
use Rattle.std.specs.Io.KnownBytes.{Appends}
use Rattle.hex.specs.Hex.{encode_lower}
use Rattle.ttrpc_proto.specs.declared.error.Error.{Error}
use Rattle.ttrpc_proto.specs.declared.error.Error.TheVariants.{NoMemory}
use Rattle.ttrpc_proto.specs.ErrorText.{error_text}
use Rattle.ttrpc_proto.specs.declared.messages.Response.{Response}
use Rattle.ttrpc_echo.specs.Answered.{IsOfStream}
use Rattle.ttrpc_echo.specs.declared.program.outcome.ProgramOutcome.{ProgramOutcome}
use Rattle.ttrpc_echo.specs.declared.program.outcome.ProgramOutcome.TheVariants.{Done, Refused, WrongWords, Failed}

-- the line of a response
abbrev pub ok_line : List ℕ → List ℕ
ok_line [] = codes "ok\n"
ok_line (b ∷ bytes) = codes "ok " ++ encode_lower (b ∷ bytes) ++ codes "\n"

-- the line of a refusal, if its text is known
abbrev pub error_line : Error → Option (List ℕ)
error_line e = option_map (λ text. codes "error: " ++ text ++ codes "\n") (error_text e)

-- why no line, or only a part of it, was written: memory was refused, or the writer failed
abbrev pub IsUntold : Error → Type 0
IsUntold e = (e ≡ NoMemory) ⊎ IsOfStream e

-- the result of a call is written in a line: its payload or its refusal
abbrev pub TellsCall : Result Response Error → Option (List ℕ) → Option (List ℕ) → ProgramOutcome → Type 0
TellsCall (Ok r) held holds Done = Appends held holds (ok_line r.payload)
TellsCall (Ok r) held holds Refused = ⊥
TellsCall (Ok r) held holds WrongWords = ⊥
TellsCall (Ok r) held holds (Failed e) = IsUntold e
TellsCall (Err refusal) held holds Done = ⊥
TellsCall (Err refusal) held holds Refused = IfSome (error_line refusal) (Appends held holds)
TellsCall (Err refusal) held holds WrongWords = ⊥
TellsCall (Err refusal) held holds (Failed e) = IsUntold e

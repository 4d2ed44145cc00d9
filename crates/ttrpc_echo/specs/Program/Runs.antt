-- The commands of the program.
-- Source: this project's.
use Rattle.std.specs.Prelude.{◌≡◌, ◌≢◌, ◌⊎◌, ℕ, List, [], ◌∷◌, codes, Option, IfSome}
use Rattle.std.specs.Io.KnownBytes.{Appends, Keeps}
use Rattle.ttrpc_proto.specs.declared.error.Error.{Error}
use Rattle.ttrpc_proto.specs.declared.error.Error.TheVariants.{NoMemory}
use Rattle.ttrpc_proto.specs.declared.messages.Response.{Response}
use Rattle.ttrpc_echo.specs.Answered.{AnsweredAll, Fails}
use Rattle.ttrpc_echo.specs.declared.program.outcome.ProgramOutcome.{ProgramOutcome}
use Rattle.ttrpc_echo.specs.declared.program.outcome.ProgramOutcome.TheVariants.{Done, Refused, WrongWords, Failed}
use Rattle.ttrpc_echo.specs.Program.Telling.{error_line, ok_line, IsUntold}
use Rattle.ttrpc_echo.specs.Program.Words.{IsAnswer, IsBehind, IsCall, IsHex, AreRight}

-- it answered all, or failed
abbrev pub Answers : Option (List ℕ) → Option (List ℕ) → Option (List ℕ) → Option (List ℕ) → ProgramOutcome → Type 0
Answers before after held holds Done = AnsweredAll before after held holds []
Answers before after held holds (Failed e) = Fails before after held holds e
Answers before after held holds Refused = ⊥
Answers before after held holds WrongWords = ⊥

-- The words are wrong, since they aren't `right`, or memory was refused.
abbrev pub IsMisread : Type 0 → ProgramOutcome → Type 0
IsMisread right Done = ⊥
IsMisread right Refused = ⊥
IsMisread right (Failed e) = e ≡ NoMemory
IsMisread right WrongWords = ¬ right

-- If the words are right, a call was made, and its response or its refusal was written. Or the program failed, before
-- or while it wrote. If the words are wrong, nothing was done.
abbrev pub Calls : Type 0 → Option (List ℕ) → Option (List ℕ) → ProgramOutcome → Type 0
Calls right held holds Done = right × ((r : Response) × Appends held holds (ok_line r.payload))
Calls right held holds Refused = right × ((e : Error) × IfSome (error_line e) (Appends held holds))
Calls right held holds (Failed e) = IsUntold e ⊎ Keeps held holds
Calls right held holds WrongWords = ¬ right × Keeps held holds

-- it ends only by a failure
abbrev pub IsFailed : ProgramOutcome → Type 0
IsFailed outcome = (e : Error) × (outcome ≡ Failed e)

-- the words give none of the commands
pub record AreWrong (words : List (List ℕ)) : Type 0 where
  pub answer : words ≢ codes "answer" ∷ []
  pub own : (digits : List ℕ) → words ≢ codes "loop" ∷ digits ∷ []
  pub serve : (address : List ℕ) → words ≢ codes "serve" ∷ address ∷ []
  pub call : (a s m d t : List ℕ) → words ≢ codes "call" ∷ a ∷ s ∷ m ∷ d ∷ t ∷ []

-- The program answers the input, calls itself, serves, calls another, or finds that the words are wrong. Only `answer`
-- reads the input. `serve` and wrong words write no output.
abbrev pub Performs : List (List ℕ) → Option (List ℕ) → Option (List ℕ) → Option (List ℕ) → Option (List ℕ) → ProgramOutcome → Type 0
Performs words before after held holds outcome =
    (IsAnswer words × Answers before after held holds outcome)
    ⊎ (((digits : List ℕ) × IsBehind (codes "loop") words digits × Keeps before after × Calls (IsHex digits) held holds outcome)
    ⊎ (((address : List ℕ) × IsBehind (codes "serve") words address × Keeps before after × Keeps held holds × IsFailed outcome)
    ⊎ (((a s m d t : List ℕ) × IsCall words a s m d t × Keeps before after × Calls (AreRight d t) held holds outcome)
    ⊎ (AreWrong words × (outcome ≡ WrongWords) × Keeps before after × Keeps held holds))))

-- How a run of the program ends, and its report then.
-- Source: this project's.
use Rattle.std.specs.Prelude.{ℕ, List, [], ◌++◌, codes, Option, Some, option_map}
use Rattle.ttrpc_proto.specs.ErrorText.{error_text}
use Rattle.ttrpc_echo.specs.declared.program.outcome.ProgramOutcome.{ProgramOutcome}
use Rattle.ttrpc_echo.specs.declared.program.outcome.ProgramOutcome.TheVariants.{Done, Refused, WrongWords, Failed}

-- the status
abbrev pub status_of : ProgramOutcome → ℕ
status_of Done = 0
status_of Refused = 1
status_of (Failed e) = 1
status_of WrongWords = 2

-- the report on standard error, if its text is known
abbrev pub report_of : ProgramOutcome → Option (List ℕ)
report_of Done = Some []
report_of Refused = Some []
report_of (Failed e) = option_map (λ text. codes "ttrpc-demo: " ++ text ++ codes "\n") (error_text e)
report_of WrongWords = Some (codes "usage: ttrpc-demo answer | serve ADDR | call ADDR SERVICE METHOD HEX TIMEOUT | loop HEX\n")

-- How a run of the engine of `answer` ends, over a reader and a writer with bytes that may be known.
-- Source: this project's.
use Rattle.std.specs.Prelude.{◌≡◌, ◌≢◌, ◌⊎◌, ℕ, ◌+◌, ◌≤◌, ◌^◌, List, [], length, take, codes, Option, ⊤}
use Rattle.std.specs.Io.KnownBytes.{Appends, Consumes, IsAtEnd}
use Rattle.ttrpc_proto.specs.declared.error.Error.{Error}
use Rattle.ttrpc_proto.specs.declared.error.Error.TheVariants.{Socket, Others, NoMemory}
use Rattle.ttrpc_proto.specs.declared.framing.frame.Incoming.{Incoming}
use Rattle.ttrpc_proto.specs.Framing.Frames.{Frames, IsRest}
use Rattle.ttrpc_echo.specs.Echo.{AreAnswers}

-- The input was read to its end, which came after this rest of a frame, and exactly the answers to the frames were
-- written.
pub record AnsweredAll (before after held holds : Option (List ℕ)) (rest : List ℕ) : Type 0 where
  pub bytes : List ℕ
  pub frames : List Incoming
  pub answers : List ℕ
  pub read : Consumes before after bytes
  pub end : IsAtEnd after
  pub are_frames : Frames bytes frames rest
  pub are_answers : AreAnswers frames answers
  pub wrote : Appends held holds answers

-- Some of the input was read, and a beginning of the answers to its frames was written.
pub record AnsweredPart (before after held holds : Option (List ℕ)) : Type 0 where
  pub bytes : List ℕ
  pub frames : List Incoming
  pub rest : List ℕ
  pub answers : List ℕ
  pub count : ℕ
  pub read : Consumes before after bytes
  pub are_frames : Frames bytes frames rest
  pub are_answers : AreAnswers frames answers
  pub wrote : Appends held holds (take count answers)

-- the reader or the writer failed, or memory for the text of its error was refused
abbrev pub IsOfStream : Error → Type 0
IsOfStream (Socket text) = ⊤
IsOfStream NoMemory = ⊤
IsOfStream e = ⊥

-- memory was refused, the reader or the writer failed, or there were more frames than job ids are left after `last`
abbrev pub IsCausePast : ℕ → Error → List Incoming → Type 0
IsCausePast last e frames =
    (e ≡ NoMemory)
    ⊎ IsOfStream e
    ⊎ ((e ≡ Others (codes "job ids are used up")) × (2 ^ 64 ≤ last + length frames))

-- the same for a run in which all frames are among these
abbrev pub IsCause : Error → List Incoming → Type 0
IsCause e frames = IsCausePast 0 e frames

-- a run that stopped before all was answered
pub record StopsEarly (before after held holds : Option (List ℕ)) (e : Error) : Type 0 where
  pub part : AnsweredPart before after held holds
  pub cause : IsCause e part.frames

-- a run in which the input ended inside a frame
pub record EndsInside (before after held holds : Option (List ℕ)) (e : Error) : Type 0 where
  pub rest : List ℕ
  pub inside : rest ≢ []
  pub no_frame : IsRest rest
  pub all : AnsweredAll before after held holds rest
  pub told : e ≡ Socket (codes "socket disconnected inside a frame")

-- a run that failed: it stopped early, or its input ended inside a frame
abbrev pub Fails : Option (List ℕ) → Option (List ℕ) → Option (List ℕ) → Option (List ℕ) → Error → Type 0
Fails before after held holds e = StopsEarly before after held holds e ⊎ EndsInside before after held holds e

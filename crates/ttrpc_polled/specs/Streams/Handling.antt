-- The results of a handler's call for the results of a service's method.
-- Source: the Rust crate's macros.
use Rattle.std.specs.Prelude.{◌≡◌, ⊤, ℕ, List, [], IsSomeAnd, Option, None, Some, Result, Ok, Err}
use Rattle.futures.specs.declared.future.either.Either.{Either}
use Rattle.futures.specs.declared.future.either.Either.TheVariants.{Left, Right}
use Rattle.ttrpc_proto.specs.declared.error.Error.{Error}
use Rattle.ttrpc_proto.specs.declared.error.Error.TheVariants.{LocalClosed, NoMemory}
use Rattle.ttrpc_proto.specs.declared.messages.Response.{Response}
use Rattle.ttrpc_proto.specs.ErrorText.{Tells}
use Rattle.ttrpc_message.specs.Calls.{AnswersWith, IsUnanswered}
use Rattle.ttrpc_polled.specs.declared.streams.handling.HandlingAt.{HandlingAt}
use Rattle.ttrpc_polled.specs.declared.streams.handling.HandlingAt.TheVariants.{Runs, Refused, Done}

-- a stream is ended by the response for the method's result
abbrev pub TellsStreamed : {M E : Type 0} → (M → List ℕ) → (List ℕ → Option M) → (E → Type 0) → (E → Option (List ℕ)) → Result M Error → Result (Option Response) Error → Type 0
TellsStreamed written meaning is_no_memory output given (Ok (Some response)) = AnswersWith written meaning given response
TellsStreamed written meaning is_no_memory output given (Ok None) = ⊥
TellsStreamed written meaning is_no_memory output given (Err e) = IsUnanswered written is_no_memory output given e

-- a stream is closed, or ended by the status that an error carries or that is made of it; an error means that memory for that was refused
abbrev pub TellsClosing : Result (Unit {0}) Error → Result (Option Response) Error → Type 0
TellsClosing (Ok _) told = told ≡ Ok None
TellsClosing (Err e) (Ok (Some response)) = IsSomeAnd response.status (Tells e) × (response.payload ≡ [])
TellsClosing (Err e) (Ok None) = ⊥
TellsClosing (Err e) (Err refused) = refused ≡ NoMemory

-- one of two futures may be polled if it may be polled alone
abbrev pub EitherCanPoll : {F G : Type 0} → (F → Type 0) → (G → Type 0) → Either F G → Type 0
EitherCanPoll {F} {G} one other = elim [ Left f ↦ one f | Right g ↦ other g ]

-- a call may be polled if its method may be
abbrev pub AtCanPoll : {F : Type 0} → (F → Type 0) → HandlingAt F → Type 0
AtCanPoll can (Runs call) = can call
AtCanPoll can (Refused e) = ⊤
AtCanPoll can Done = ⊤

-- the call waits for the things that its method waits for
abbrev pub AtNeeds : {F : Type 0} → (F → ℕ → Type 0) → HandlingAt F → ℕ → Type 0
AtNeeds needs (Runs call) s = needs call s
AtNeeds needs (Refused e) s = ⊥
AtNeeds needs Done s = ⊥

-- the call converts the result of its method, or returns the refusal
abbrev pub AtGives : {F G T : Type 0} → (F → Result G Error → Type 0) → (Result G Error → Result T Error → Type 0) → HandlingAt F → Result T Error → Type 0
AtGives {F} {G} {T} gives tells (Runs call) told = (given : Result G Error) × gives call given × tells given told
AtGives {F} {G} {T} gives tells (Refused e) told = told ≡ Err e
AtGives {F} {G} {T} gives tells Done told = told ≡ Err LocalClosed

-- The results for the values of calls, and the response for a service's answer.
-- Source: PROTOCOL.md of ttrpc, "RPC"; the texts are those of the Rust crate's macros.
use Rattle.std.specs.Prelude.{◌≡◌, ◌≢◌, ◌≤◌, ◌^◌, ℕ, List, [], codes, length, IsSomeAnd, Option, None, Some, Result, Ok, Err}
use Rattle.ttrpc_wire.specs.declared.values.code.Code.TheVariants.{OK, INVALID_ARGUMENT}
use Rattle.ttrpc_proto.specs.declared.messages.Response.{Response}
use Rattle.ttrpc_proto.specs.declared.error.Error.{Error}
use Rattle.ttrpc_proto.specs.declared.error.Error.TheVariants.{Eof, NoMemory, Others, RpcStatus}
use Rattle.ttrpc_proto.specs.ErrorText.{IsOthers, status_of, Tells}

-- the error is `NoMemory`, or `Others` of this prefix and the text that an error of the codec prints; the codec's error isn't one of
-- refused memory
abbrev pub TellsCause : {E : Type 0} → List ℕ → (E → Type 0) → (E → Option (List ℕ)) → Error → Type 0
TellsCause {E} prefix is_no_memory output e = e ≢ NoMemory → (cause : E) × ¬ (is_no_memory cause) × IsOthers prefix (output cause) e

-- the same text, as the message of a status of code INVALID_ARGUMENT
abbrev pub RefusesCause : {E : Type 0} → List ℕ → (E → Type 0) → (E → Option (List ℕ)) → Error → Type 0
RefusesCause prefix is_no_memory output e = e ≢ NoMemory → (text : List ℕ) × (e ≡ RpcStatus (status_of INVALID_ARGUMENT text)) × TellsCause prefix is_no_memory output (Others text)

-- the error for a value with this written form that wasn't written: it is too long, or memory was refused
pub record IsUnwritten {E : Type 0} (prefix : List ℕ) (is_no_memory : E → Type 0) (output : E → Option (List ℕ)) (written : List ℕ) (e : Error) : Type 0 where
  pub told : TellsCause prefix is_no_memory output e
  pub cause : e ≢ NoMemory → 2 ^ 32 ≤ length written

-- the response for an answer: the value under an OK status, from which it is read again, or the status of the error
abbrev pub AnswersWith : {M : Type 0} → (M → List ℕ) → (List ℕ → Option M) → Result M Error → Response → Type 0
AnswersWith written meaning (Ok m) r = (r ≡ record { status = Some (status_of OK []); payload = written m }) × (meaning r.payload ≡ Some m)
AnswersWith written meaning (Err error) r = IsSomeAnd r.status (Tells error) × (r.payload ≡ [])

-- the error if there is no response for an answer
abbrev pub IsUnanswered : {M E : Type 0} → (M → List ℕ) → (E → Type 0) → (E → Option (List ℕ)) → Result M Error → Error → Type 0
IsUnanswered written is_no_memory output (Ok m) e = IsUnwritten (codes "Encoding response ") is_no_memory output (written m) e
IsUnanswered written is_no_memory output (Err error) e = e ≡ NoMemory

-- The result for an item that a stream gave: the value that its bytes mean, or the error.
abbrev pub TellsItem : {M E : Type 0} → (List ℕ → Option M) → (E → Type 0) → (E → Option (List ℕ)) → Result (List ℕ) Error → Result M Error → Type 0
TellsItem meaning is_no_memory output (Err error) told = told ≡ Err error
TellsItem meaning is_no_memory output (Ok bytes) (Ok m) = meaning bytes ≡ Some m
TellsItem meaning is_no_memory output (Ok bytes) (Err e) = (e ≢ NoMemory → meaning bytes ≡ None) × TellsCause (codes "Decode message failed. ") is_no_memory output e

-- the same result, with the item as one that may be missing
abbrev pub as_more : {M : Type 0} → Result M Error → Result (Option M) Error
as_more (Ok m) = Ok (Some m)
as_more (Err e) = Err e

-- The result for an item or the end of a stream. The end is returned as no item.
pub record TellsItemOrEnd {M E : Type 0} (meaning : List ℕ → Option M) (is_no_memory : E → Type 0) (output : E → Option (List ℕ)) (given : Result (List ℕ) Error) (told : Result (Option M) Error) : Type 0 where
  pub end : given ≡ Err Eof → told ≡ Ok None
  pub item : given ≢ Err Eof → (item : Result M Error) × TellsItem meaning is_no_memory output given item × (told ≡ as_more item)

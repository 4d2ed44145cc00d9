-- The results of reading and writing frames, as bytes and as values.
-- Source: PROTOCOL.md of ttrpc, "Message Frame"; what is told of cut input is this project's.
use Rattle.std.specs.Prelude.{◌≡◌, ◌≢◌, ◌==◌, ◌≤◌, ◌^◌, ℕ, List, [], ◌++◌, codes, length, if◌then◌else◌, Option, None, Some, Result, Ok, Err, MatchResult, ⊤}
use Rattle.std.specs.Fmt.{decimal}
use Rattle.std.specs.Global.{Vec}
use Rattle.std.specs.IoError.{error_kind}
use Rattle.std.specs.declared.io.ErrorKind.TheVariants.{WriteZero}
use Rattle.ttrpc_wire.specs.declared.values.code.Code.TheVariants.{INVALID_ARGUMENT}
use Rattle.ttrpc_proto.specs.declared.framing.header.MessageHeader.{MessageHeader}
use Rattle.ttrpc_proto.specs.declared.error.Error.{Error}
use Rattle.ttrpc_proto.specs.declared.error.Error.TheVariants.{Socket, RpcStatus, NoMemory}
use Rattle.ttrpc_proto.specs.ErrorText.{IsOthers, IsSocket, status_of}
use Rattle.ttrpc_proto.specs.declared.framing.failure.StreamFailure.{StreamFailure}
use Rattle.ttrpc_proto.specs.declared.framing.failure.StreamFailure.TheVariants.{Io, NoMemory as Refused}
use Rattle.ttrpc_proto.specs.declared.framing.frame.Incoming.TheVariants.{Frame, Oversize}
use Rattle.ttrpc_proto.specs.declared.framing.reading.Found.{Found}
use Rattle.ttrpc_proto.specs.declared.framing.reading.Found.TheVariants.{Whole, HeaderCut, BodyCut, OversizeCut}
use Rattle.ttrpc_proto.specs.Framing.Streaming.{TellsFailure, TellsOversize}
use Rattle.ttrpc_message.specs.Calls.{TellsCause}
use Rattle.ttrpc_message.specs.declared.message.Message.{Message}

-- the result is an error with this property
abbrev pub Fails : {A : Type 0} → Result A Error → (Error → Type 0) → Type 0
Fails result P = (e : Error) × (result ≡ Err e) × P e

-- the error is this one, or memory for its text was refused
abbrev pub IsErrorOf : Error → Error → Type 0
IsErrorOf error e = e ≢ NoMemory → e ≡ error

-- ---- As bytes

-- the error for input that was cut; if no byte came, the other side is gone
abbrev pub cut_error : ℕ → List ℕ → Error
cut_error n text = if n == 0 then Socket (codes "socket disconnected") else RpcStatus (status_of INVALID_ARGUMENT text)

-- a header was cut after n bytes
abbrev pub header_cut_text : ℕ → List ℕ
header_cut_text n = codes "Message header length " ++ (decimal n ++ codes " is too small")

-- a body was cut after n bytes, while its header states another length
abbrev pub body_cut_text : ℕ → ℕ → List ℕ
body_cut_text n stated = codes "Message length " ++ (decimal n ++ (codes " is not " ++ decimal stated))

-- the header of a message that is too long, with the error that reports this
abbrev pub IsTooLong : Result (MessageHeader × Result (Vec ℕ) Error) Error → MessageHeader → Type 0
IsTooLong result h = (e : Error) × (result ≡ Ok (h, Err e)) × TellsOversize h e

-- the result as a header and its bytes; a message that is too long is reported as such, cut or not
abbrev pub ArePartsOf : Result (MessageHeader × Result (Vec ℕ) Error) Error → Result Found StreamFailure → Type 0
ArePartsOf result (Ok (Whole (Frame m))) = (bytes : Vec ℕ) × (result ≡ Ok (m.header, Ok bytes)) × (bytes.items ≡ m.payload)
ArePartsOf result (Ok (Whole (Oversize h))) = IsTooLong result h
ArePartsOf result (Ok (OversizeCut h)) = IsTooLong result h
ArePartsOf result (Ok (HeaderCut n)) = Fails result (IsErrorOf (cut_error n (header_cut_text n)))
ArePartsOf result (Ok (BodyCut h n)) = Fails result (IsErrorOf (cut_error n (body_cut_text n h.length)))
ArePartsOf result (Err failure) = Fails result (TellsFailure failure)

-- the text for a writer that took nothing
abbrev pub TellsZero : StreamFailure → Error → Type 0
TellsZero (Io failure) e = error_kind failure ≡ WriteZero → IsErrorOf (Socket (codes "failed to write ttrpc frame: write zero")) e
TellsZero Refused e = ⊤

-- the result of sending a message
abbrev pub IsSentMessage : Result (Unit {0}) Error → Result (Unit {0}) StreamFailure → Type 0
IsSentMessage result (Ok done) = result ≡ Ok tt
IsSentMessage result (Err failure) = Fails result (λ e. TellsFailure failure e × TellsZero failure e)

-- ---- As values

-- The result is the value of the bytes, with the header. If the bytes mean nothing, the error is `Others` of this beginning and the text
-- that an error of the codec prints; or the error reports that memory was refused.
abbrev pub Decodes : {C E : Type 0} → (List ℕ → Option C) → (E → Type 0) → (E → Option (List ℕ)) → Result (Message C) Error → MessageHeader → List ℕ → Type 0
Decodes meaning is_no_memory output result h bytes = MatchResult result
    (λ m. (m.header ≡ h) × (meaning bytes ≡ Some m.payload))
    (λ e. IsOthers (codes "Decode payload failed.") None e × TellsCause (codes "Decode payload failed.") is_no_memory output e × (e ≢ NoMemory → meaning bytes ≡ None))

-- the result as a value; a message that is too long has the value of an empty payload
abbrev pub IsValueOf : {C E : Type 0} → (List ℕ → Option C) → (E → Type 0) → (E → Option (List ℕ)) → Result (Message C) Error → Result Found StreamFailure → Type 0
IsValueOf meaning is_no_memory output result (Ok (Whole (Frame m))) = Decodes meaning is_no_memory output result m.header m.payload
IsValueOf meaning is_no_memory output result (Ok (Whole (Oversize h))) = Decodes meaning is_no_memory output result h []
IsValueOf meaning is_no_memory output result (Ok _) = Fails result (IsSocket None)
IsValueOf meaning is_no_memory output result (Err failure) = Fails result (TellsFailure failure)

-- The error for a payload that has no written form. If the payload is too long, the error is `Others` of this beginning and the text that
-- an error of the codec prints; or the error reports that memory was refused.
abbrev pub IsUnwritten : {E : Type 0} → (E → Type 0) → (E → Option (List ℕ)) → List ℕ → Error → Type 0
IsUnwritten is_no_memory output written e = IsOthers (codes "Encode payload failed.") None e × TellsCause (codes "Encode payload failed.") is_no_memory output e × (e ≢ NoMemory → 2 ^ 32 ≤ length written)

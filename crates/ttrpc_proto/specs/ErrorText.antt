-- The text that an error prints, and the status that a response to it has.
-- Source: the Rust crate; the texts on memory and on the ring are this project's.
use Rattle.std.specs.Prelude.{◌≡◌, ◌≢◌, ⊤, ℕ, List, [], ◌++◌, codes, Option, Some, None, IfSome}
use Rattle.std.specs.Fmt.{signed_decimal}
use Rattle.ttrpc_wire.specs.declared.values.code.Code.{Code}
use Rattle.ttrpc_wire.specs.declared.values.code.Code.TheVariants.{UNKNOWN}
use Rattle.ttrpc_proto.specs.declared.error.Error.{Error}
use Rattle.ttrpc_proto.specs.declared.error.Error.TheVariants.{Socket, RpcStatus, Nix, LocalClosed, RemoteClosed, Eof, Others, NoMemory, NoRoom}
use Rattle.ttrpc_proto.specs.declared.messages.Status.{Status}
use Rattle.ttrpc_proto.specs.KindText.{kind_text}
use Rattle.ttrpc_wire.specs.Code.{number_of_code}

-- Returns the text that `{}` writes for an error.
abbrev pub error_text : Error → Option (List ℕ)
error_text (Socket text) = Some (codes "socket err: " ++ text)
error_text (RpcStatus s) = Some (codes "rpc status: " ++ signed_decimal s.code ++ codes " " ++ s.message)
error_text (Nix kind) = Some (codes "Nix error: " ++ kind_text kind)
error_text LocalClosed = Some (codes "ttrpc err: local stream closed")
error_text RemoteClosed = Some (codes "ttrpc err: remote stream closed")
error_text Eof = Some (codes "eof")
error_text (Others text) = Some (codes "ttrpc err: " ++ text)
error_text NoMemory = Some (codes "out of memory")
error_text NoRoom = Some (codes "no room in the outgoing ring")

-- Returns the status of a code with this message and no details.
abbrev pub status_of : Code → List ℕ → Status
status_of code message = record { code = number_of_code code; message = message; details = [] }

-- Holds if the error prints this text.
abbrev pub IsTextOf : Error → List ℕ → Type 0
IsTextOf error text = IfSome (error_text error) (λ bs. text ≡ bs)

-- Holds if the status has the code UNKNOWN and no details.
pub record IsUnknown (s : Status) : Type 0 where
  pub code : s.code ≡ number_of_code UNKNOWN
  pub details : s.details ≡ []

-- Holds if a response to the error has this status: the error's own, or one of code UNKNOWN with the error's text.
abbrev pub Tells : Error → Status → Type 0
Tells (RpcStatus carried) s = s ≡ carried
Tells error s = IsUnknown s × IsTextOf error s.message

-- Holds if a response to the error has this status: as in `Tells`, or with an empty message. The message is empty if memory for the
-- error's text was refused.
abbrev pub StandsFor : Error → Status → Type 0
StandsFor (RpcStatus carried) s = s ≡ carried
StandsFor error s = IsUnknown s × (s.message ≢ [] → IsTextOf error s.message)

-- Holds if the error is `Others` with this prefix and this text, or is NoMemory. If the text isn't known, any text may follow the
-- prefix.
abbrev pub IsOthers : List ℕ → Option (List ℕ) → Error → Type 0
IsOthers prefix text NoMemory = ⊤
IsOthers prefix (Some bs) (Others message) = message ≡ prefix ++ bs
IsOthers prefix None (Others message) = (rest : List ℕ) × (message ≡ prefix ++ rest)
IsOthers prefix text _ = ⊥

-- Holds if the error is `Socket` with this text, or is NoMemory. If the text isn't known, any text may be there.
abbrev pub IsSocket : Option (List ℕ) → Error → Type 0
IsSocket text NoMemory = ⊤
IsSocket (Some bs) (Socket message) = message ≡ bs
IsSocket None (Socket message) = ⊤
IsSocket text _ = ⊥

-- The texts of a hook's error.
-- Source: the Rust crate ttrpc, the texts of its `HookError`.
pub mod Kinds
pub mod Facts
pub mod Admission
use Rattle.std.specs.Prelude.{◌≡◌, ℕ, List, ◌++◌, codes, Option, Some, None, Result, IfSome, IsOk}
use Rattle.std.specs.Fmt.{HasWritten, IsPlainFormatter}
use Rattle.std.specs.IoError.{error_kind}
use Rattle.std.specs.declared.fmt.Error.{Error as FmtError}
use Rattle.std.specs.declared.fmt.Formatter.{Formatter}
use Rattle.std.specs.declared.io.Error.{Error as IoError}
use Rattle.std.specs.declared.io.ErrorKind.TheVariants.{OutOfMemory}
use Rattle.ttrpc_secure.specs.declared.hooks.hook_error.HookError.{HookError}
use Rattle.ttrpc_secure.specs.declared.hooks.hook_error.HookError.TheVariants.{Rejected, Timeout, Io, Other}

-- Returns the text that `{}` writes for a hook's error, or None for an I/O error, since the standard library doesn't state its text.
abbrev pub hook_error_text : HookError → Option (List ℕ)
hook_error_text (Rejected reason) = Some (codes "connection rejected: " ++ reason)
hook_error_text Timeout = Some (codes "handshake timeout")
hook_error_text (Io _) = None
hook_error_text (Other text) = Some text

-- Returns the text that `{:?}` writes for a hook's error, or None for an I/O error. Texts are in it without quotes.
abbrev pub hook_error_debug : HookError → Option (List ℕ)
hook_error_debug (Rejected reason) = Some (codes "Rejected(" ++ reason ++ codes ")")
hook_error_debug Timeout = Some (codes "Timeout")
hook_error_debug (Io _) = None
hook_error_debug (Other text) = Some (codes "Other(" ++ text ++ codes ")")

-- Holds if `{}` may write this text for the error. Of the text of an I/O error, only the beginning is known.
abbrev pub IsHookErrorText : HookError → List ℕ → Type 0
IsHookErrorText (Io _) text = (rest : List ℕ) × (text ≡ codes "I/O error: " ++ rest)
IsHookErrorText error text = IfSome (hook_error_text error) (λ bs. text ≡ bs)

-- Holds if `{:?}` may write this text for the error. Of the text of an I/O error, only `Io(` at the beginning and `)` at the end are
-- known.
abbrev pub IsHookErrorDebug : HookError → List ℕ → Type 0
IsHookErrorDebug (Io _) text = (rest : List ℕ) × (text ≡ codes "Io(" ++ rest ++ codes ")")
IsHookErrorDebug error text = IfSome (hook_error_debug error) (λ bs. text ≡ bs)

-- Holds if f isn't plain, or not all was written, or g is the formatter f after a text with this property.
abbrev pub WritesSuch : {W : Type 0} → (W → List ℕ → W → Type 0) → (List ℕ → Type 0) → Formatter W → Result (Unit {0}) FmtError → Formatter W → Type 0
WritesSuch took P f r g = IsPlainFormatter f → IsOk r → (bs : List ℕ) × P bs × HasWritten took f bs g

-- Holds if the error reports refused memory.
abbrev pub IsRefusedMemory : HookError → Type 0
IsRefusedMemory e = (cause : IoError) × (e ≡ Io cause) × (error_kind cause ≡ OutOfMemory)

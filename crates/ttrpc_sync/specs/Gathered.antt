-- A writer that buffers bytes, to hand them on whole.
-- Source: this project's.
use Rattle.std.specs.Prelude.{◌≡◌, ◌<◌, ◌+◌, ◌-◌, ◌^◌, ◌⊎◌, min, ℕ, List, [], ◌++◌, length, Option, IfSome, Result, Ok, Err}
use Rattle.std.specs.IoError.{error_kind}
use Rattle.std.specs.declared.io.Error.{Error}
use Rattle.std.specs.declared.io.ErrorKind.{ErrorKind}
use Rattle.ttrpc_proto.specs.Framing.Streams.{Answered, Moved, FailsAs}

-- the writer to which bytes are handed on, the bytes that are kept, the number of bytes that there is room for, the number of bytes kept at
-- most, and how often memory was refused
pub record Gathered (W : Type 0) : Type 0 where
  pub writer : W
  pub kept : List ℕ
  pub room : ℕ
  pub limit : ℕ
  pub refusals : ℕ

-- The gathering writer keeps nothing yet, and at most `most` bytes.
pub record IsNewGather {W : Type 0} (most : ℕ) (behind : W) (made : Gathered W) : Type 0 where
  pub writer : made.writer ≡ behind
  pub kept : made.kept ≡ []
  pub limit : made.limit ≡ most
  pub refusals : made.refusals ≡ 0

-- Bytes aren't kept: there are more of them than may be kept, or memory for them was refused.
abbrev pub IsUnkept : {W : Type 0} → Gathered W → Gathered W → List ℕ → Type 0
IsUnkept old new bytes = (old.limit < length bytes) ⊎ (new.refusals ≡ min (old.refusals + 1) (2 ^ 64 - 1))

-- After a write of these bytes, they are kept after the bytes kept before, and the writer is as it was. Or the writer took all bytes kept
-- before, and only the new bytes are kept; or nothing is kept, since the new bytes can't be.
abbrev pub IsGathered : {W : Type 0} → Gathered W → Gathered W → List ℕ → Type 0
IsGathered old new bytes =
    ((new.writer ≡ old.writer) × (new.kept ≡ old.kept ++ bytes)) ⊎ ((new.kept ≡ bytes) ⊎ ((new.kept ≡ []) × IsUnkept old new bytes))

-- by its last answer the writer failed with this kind, or took nothing
abbrev pub IsWriterFailure : Option Answered → ErrorKind → Type 0
IsWriterFailure last kind = IfSome last (λ a. FailsAs a kind)

-- by its last answer the writer was flushed, or failed with the error of this result
abbrev pub IsFlushOf : Option Answered → Result (Unit {0}) Error → Type 0
IsFlushOf last (Ok _) = IfSome last (λ a. a ≡ Moved 0)
IsFlushOf last (Err e) = IsWriterFailure last (error_kind e)

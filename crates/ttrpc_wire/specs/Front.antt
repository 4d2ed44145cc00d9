-- The front of bytes, and the possible answers of a call that reads.
-- Source: the Protocol Buffers encoding guide, "Message Structure".
use Rattle.std.specs.Prelude.{◌≡◌, ◌≢◌, ℕ, List, ◌++◌}
use Rattle.ttrpc_wire.specs.declared.values.codec_error.CodecError.{CodecError}
use Rattle.ttrpc_wire.specs.declared.values.codec_error.CodecError.TheVariants.{NoMemory}

-- Holds if the bytes begin with the bytes of x, and the rest follows them.
pub record Begins {X : Type 0} (Is : List ℕ → X → Type 0) (bytes : List ℕ) (x : X) (rest : List ℕ) : Type 0 where
  pub front : List ℕ
  pub whole : bytes ≡ front ++ rest
  pub is : Is front x

-- Holds if the bytes begin with the bytes of some x, and the rest follows them.
pub record BeginsSome {X : Type 0} (Is : List ℕ → X → Type 0) (bytes rest : List ℕ) : Type 0 where
  pub what : X
  pub begins : Begins Is bytes what rest

-- Holds if the bytes begin with the bytes of no x.
pub record BeginsNone {X : Type 0} (Is : List ℕ → X → Type 0) (bytes : List ℕ) : Type 0 where
  pub none : (x : X) (rest : List ℕ) → Begins Is bytes x rest → ⊥

-- Holds if a call that reads may return this error: nothing of the kind was at the front, nothing was taken, and the error isn't
-- NoMemory. Reading takes no memory.
pub record Refuses {X : Type 0} (Is : List ℕ → X → Type 0) (old new : List ℕ) (e : CodecError) : Type 0 where
  pub none : BeginsNone Is old
  pub unchanged : new ≡ old
  pub not_memory : e ≢ NoMemory

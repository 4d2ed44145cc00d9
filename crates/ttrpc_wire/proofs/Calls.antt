-- What a call of the reader answers, from what the function below it answered. `bytes` are those that it read,
-- and `old` those that the reader had, which are the same.
use Rattle.std.proofs.Common.{◌≡◌, ℕ, ◌<◌, List, length, Option, Some, None, refl, sym, ap, ◌∙◌}
use Rattle.std.specs.Prelude.{◌≢◌}
use Rattle.ttrpc_wire.specs.declared.values.codec_error.CodecError.{CodecError}
use Rattle.ttrpc_wire.specs.declared.values.codec_error.CodecError.TheVariants.{NoMemory}
use Rattle.ttrpc_wire.specs.Front.{Begins, Refuses}
use Rattle.ttrpc_wire.proofs.Agrees.{Agrees, nothing, shortens}

pub taken : {X : Type 0} {Is : List ℕ → X → Type 0} {read : List ℕ → Option (X × List ℕ)} → Agrees Is read → (bytes old rest : List ℕ) (x : X) → bytes ≡ old → read bytes ≡ Some (x, rest) → Begins Is old x rest
taken {read = read} a bytes old rest x same e = a.takes old (x, rest) (ap read (sym same) ∙ e)

pub shorter : {X : Type 0} {Is : List ℕ → X → Type 0} {read : List ℕ → Option (X × List ℕ)} → Agrees Is read → (bytes old rest : List ℕ) (x : X) → bytes ≡ old → read bytes ≡ Some (x, rest) → length rest < length old
shorter a bytes old rest x same e = shortens a old rest x (taken a bytes old rest x same e)

pub refused : {X : Type 0} {Is : List ℕ → X → Type 0} {read : List ℕ → Option (X × List ℕ)} → Agrees Is read → (bytes old : List ℕ) (e : CodecError) → bytes ≡ old → (read bytes ≡ None) × (e ≢ NoMemory) → Refuses Is old old e
refused {read = read} a bytes old e same h = record { none = nothing a old (ap read (sym same) ∙ h.0); unchanged = refl; not_memory = h.1 }

-- The bytes of a polled connection, on their way from a reader to a core and from the core to a writer.
-- Source: this project's.
use Rattle.std.specs.Prelude.{◌≡◌, ◌≢◌, ◌≤◌, ◌<◌, ℕ, List, [], ◌++◌, take, drop, Bool, true, false, Option, None, IfSome, Result, Ok, is_some}
use Rattle.std.specs.Option.{option_map_or}
use Rattle.std.specs.declared.io.Error.{Error}
use Rattle.futures.specs.declared.task.Poll.{Poll}
use Rattle.futures.specs.declared.task.Poll.TheVariants.{Ready}

-- A piece was asked for: the rest of the last one, or, if nothing is left, the bytes that the reader gives now. There is none at the end of
-- the input.
pub record AsksPiece {S : Type 0} (reads : S → List ℕ → S → Type 0) (ends : S → Type 0) (old : S) (left : List ℕ) (polled : Poll (Result Bool Error)) (new : S) (piece : List ℕ) : Type 0 where
  pub rest : left ≢ [] → (new ≡ old) × (piece ≡ left) × (polled ≡ Ready (Ok true))
  pub read : left ≡ [] → reads old piece new
  pub some : polled ≡ Ready (Ok true) → piece ≢ []
  pub none : polled ≢ Ready (Ok true) → piece ≡ []
  pub end : polled ≡ Ready (Ok false) → ends new

-- The writer was offered the kept bytes, and took the first of them.
abbrev pub Writes : {W : Type 0} → (W → List ℕ → W → Type 0) → W → List ℕ → W → List ℕ → Type 0
Writes writes old kept new left = (taken : List ℕ) × (kept ≡ taken ++ left) × writes old taken new

-- A loan of `count` bytes was taken, into a buffer that held other bytes. The loan follows the bytes that were kept.
pub record TakesLoan {H : Type 0} (lends : H → List ℕ → ℕ → List ℕ → H → Type 0) (old : H) (count : ℕ) (kept_before : List ℕ) (new : H) (kept_after : List ℕ) : Type 0 where
  pub before : List ℕ
  pub after : List ℕ
  pub lent : lends old before count after new
  pub kept : kept_after ≡ kept_before ++ take count after

-- A loan was asked for, and had no bytes.
abbrev pub LendsNone : {H : Type 0} → (H → List ℕ → ℕ → List ℕ → H → Type 0) → H → Type 0
LendsNone {H} lends new = (old : H) × (before : List ℕ) × (after : List ℕ) × lends old before 0 after new

-- Loans were taken one after the other, with these bytes in order.
pub data Gathers {H : Type 0} (lends : H → List ℕ → ℕ → List ℕ → H → Type 0) (first : H) : List ℕ → H → Type 0 where
  nothing : Gathers lends first [] first
  one_more : (bytes : List ℕ) (held : H) (gathered : Gathers lends first bytes held) (before : List ℕ) (count : ℕ) (after : List ℕ) (last : H)
      → lends held before count after last → Gathers lends first (bytes ++ take count after) last

-- The core was asked at which moment something expires. If that moment has come, it was reported to the core.
pub record TellsMoment {H : Type 0} (expires : H → Option ℕ → Type 0) (ticks : H → ℕ → H → Type 0) (old : H) (now : ℕ) (new : H) : Type 0 where
  pub at : Option ℕ
  pub asked : expires old at
  pub due : IfSome at (λ moment. moment ≤ now → ticks old now new)
  pub early : IfSome at (λ moment. now < moment → new ≡ old)
  pub never : at ≡ None → new ≡ old

-- A piece was handed to a core at a moment. The core took the first bytes, or none as long as it lacks room. More is wanted unless the core
-- takes no more.
pub record IsHandedOn {H : Type 0} (takes : H → List ℕ → ℕ → Option ℕ → H → Type 0) (old : H) (piece : List ℕ) (now : ℕ) (wants : Bool) (new : H) (left : List ℕ) : Type 0 where
  pub count : Option ℕ
  pub taken : takes old piece now count new
  pub rest : left ≡ drop (option_map_or (λ n. n) count 0) piece
  pub wants_more : wants ≡ is_some count

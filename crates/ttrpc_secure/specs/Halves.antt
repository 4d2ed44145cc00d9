-- The calls of the two halves of a transform, as relations on any types of states, and the meaning of paired halves.
-- Source: this project's.
use Rattle.std.specs.Prelude.{◌≡◌, ◌+◌, ◌≤◌, ℕ, zero, suc, List, length, Bool, false}
use Rattle.ttrpc_proto.specs.declared.framing.header.TheConstants.{MESSAGE_LENGTH_MAX}
use Rattle.ttrpc_secure.specs.declared.transform.TransformError.{TransformError}
use Rattle.ttrpc_secure.specs.declared.transform.TransformError.TheVariants.{Refused, NoMemory}

-- The possible calls of a half: its state before, the given data, the associated bytes, the returned data, and its state after.
abbrev pub Moves : Type 0 → Type 1
Moves S = S → List ℕ → List ℕ → List ℕ → S → Type 0

-- The possible refusals of a half: its state, the given data, the associated bytes, and the reason.
abbrev pub Refusals : Type 0 → Type 1
Refusals S = S → List ℕ → List ℕ → List ℕ → Type 0

-- Holds if the half may return this error: a refusal that it may give, or NoMemory.
abbrev pub MayFail : {S : Type 0} → Refusals S → S → List ℕ → List ℕ → TransformError → Type 0
MayFail refuses s given aad (Refused why) = refuses s given aad why
MayFail refuses s given aad NoMemory = Unit {0}

-- Never holds: a half with these refusals refuses nothing.
abbrev pub RefusesNothing : {S : Type 0} → Refusals S
RefusesNothing s given aad why = ⊥

-- Holds if a half that seals is lawful.
pub record IsLawful {S : Type 0} (seals_always : Bool) (overhead : S → ℕ) (seals : Moves S) : Type 0 where
  -- Sealing adds no more bytes than the overhead.
  pub longer : (s t : S) (plain aad sealed : List ℕ) → seals s plain aad sealed t → length sealed ≤ length plain + overhead s
  -- Sealing doesn't change the overhead.
  pub fixed : (s t : S) (plain aad sealed : List ℕ) → seals s plain aad sealed t → overhead t ≡ overhead s
  -- The overhead is at most MESSAGE_LENGTH_MAX.
  pub small : (s : S) → overhead s ≤ MESSAGE_LENGTH_MAX
  -- Sealing doesn't change a half for which `seals_always` is false.
  pub still : seals_always ≡ false → (s t : S) (plain aad sealed : List ℕ) → seals s plain aad sealed t → t ≡ s

-- Holds if the halves agree on the next n calls. The half in state t doesn't refuse what the half in state s seals, under the same
-- associated bytes, and opens it to the same data. After that, their states agree on the n - 1 calls that follow.
abbrev pub PairedFor : {S T : Type 0} → Moves S → Moves T → Refusals T → ℕ → S → T → Type 0
PairedFor seals opens refuses zero s t = Unit {0}
PairedFor seals opens refuses (suc n) s t =
    (plain aad sealed : List ℕ) (s_after : _) → seals s plain aad sealed s_after
    → ((why : List ℕ) → refuses t sealed aad why → ⊥)
    × ((opened : List ℕ) (t_after : _) → opens t sealed aad opened t_after → (opened ≡ plain) × PairedFor seals opens refuses n s_after t_after)

-- Holds if the halves agree on any number of calls.
abbrev pub IsPaired : {S T : Type 0} → Moves S → Moves T → Refusals T → S → T → Type 0
IsPaired seals opens refuses s t = (n : ℕ) → PairedFor seals opens refuses n s t

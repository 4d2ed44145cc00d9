-- Loans that are taken one after the other.
use Rattle.std.proofs.Common.{◌≡◌, ◌≢◌, ℕ, List, [], ◌∷◌, ◌++◌, length, take, arith, refl, sym, ap, ◌∙◌, append_assoc}
use Rattle.std.proofs.lemmas.List.{append-nil}
use Rattle.ttrpc_polled.specs.Passing.{Gathers, TakesLoan, nothing, one_more}

-- some loans were taken, and stand behind what was kept first
abbrev pub Gathered : {H : Type 0} → (H → List ℕ → ℕ → List ℕ → H → Type 0) → H → List ℕ → H → List ℕ → Type 0
Gathered lends first before held kept = (bytes : List ℕ) × Gathers lends first bytes held × (kept ≡ before ++ bytes)

-- none so far
pub gathers_none : {H : Type 0} (lends : H → List ℕ → ℕ → List ℕ → H → Type 0) (first : H) (before : List ℕ) → Gathered lends first before first before
gathers_none lends first before = ([], nothing, sym (append-nil before))

-- what is kept stays behind a gathering
pub still_some : (before bytes after : List ℕ) → before ≢ [] → after ≡ before ++ bytes → after ≢ []
still_some [] bytes after some same none = some refl
still_some (b ∷ before) bytes after some same none = grind (arith, ap length (sym same ∙ none))

-- and one more
pub gathers_more : {H : Type 0} (lends : H → List ℕ → ℕ → List ℕ → H → Type 0) (first : H) (before : List ℕ) (held : H) (kept : List ℕ) (count : ℕ) (last : H) (after : List ℕ)
    → Gathered lends first before held kept → TakesLoan lends held count kept last after → Gathered lends first before last after
gathers_more lends first before held kept count last after so_far loan = (
  so_far.0 ++ take count loan.after,
  one_more so_far.0 held so_far.1 loan.before count loan.after last loan.lent,
  loan.kept ∙ ap (λ bytes. bytes ++ take count loan.after) so_far.2 ∙ append_assoc before so_far.0 (take count loan.after),
)

-- Plain halves are paired, whatever their states.
use Rattle.std.proofs.Common.{◌∙◌, ℕ, zero, suc}
use Rattle.ttrpc_secure.specs.Halves.{RefusesNothing, PairedFor}
use Rattle.ttrpc_secure.specs.Plain.{Keeps}

pub PairedFor-Keeps : {S T : Type 0} (n : ℕ) (s : S) (t : T) → PairedFor (Keeps {S = S}) (Keeps {S = T}) (RefusesNothing {S = T}) n s t
PairedFor-Keeps zero s t = tt
PairedFor-Keeps (suc n) s t =
    λ plain aad sealed s_after sealing. (
      (λ why refused. refused),
      (λ opened t_after opening. (opening.0 ∙ sealing.0, PairedFor-Keeps n s_after t_after)),
    )

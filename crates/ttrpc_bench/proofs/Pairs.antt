-- Halves with stamps are paired where their next stamps are the same.
use Rattle.std.proofs.Common.{◌≡◌, ◌∙◌, ◌+◌, ◌%◌, ℕ, zero, suc, [], ◌∷◌, ◌++◌, ap, sym}
use Rattle.std.proofs.lemmas.List.{append_cancel_right}
use Rattle.ttrpc_secure.specs.Halves.{PairedFor}
use Rattle.ttrpc_bench.specs.Stamp.{AppendsStamp, TakesStampOff, HasWrongStamp}

pub PairedFor-stamps : (n s t : ℕ) → s ≡ t → PairedFor AppendsStamp TakesStampOff HasWrongStamp n s t
PairedFor-stamps zero s t same = tt
PairedFor-stamps (suc n) s t same =
    λ plain aad sealed s_after sealing. (
      (λ why refused. refused.0 plain (sealing.0 ∙ ap (λ stamp. plain ++ stamp ∷ []) same)),
      (λ opened t_after opening. (
        append_cancel_right opened plain (s ∷ []) (ap (λ stamp. opened ++ stamp ∷ []) same ∙ sym opening.0 ∙ sealing.0),
        PairedFor-stamps n s_after t_after (sealing.1 ∙ ap (λ stamp. (stamp + 1) % 256) same ∙ sym opening.1),
      )),
    )

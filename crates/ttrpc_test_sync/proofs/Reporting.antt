-- What a worker reported, by the jobs that it took.
use Rattle.std.proofs.Common.{◌≡◌, ap, sym, ◌∙◌, List, [], ◌∷◌, Option, Some, map, refl}
use Rattle.ttrpc_sync.specs.Work.{Passage, Reports, Worked}

same_keys : {Key Request Outcome : Type 0} (gives : Request → Outcome → Type 0) (jobs : List (Key × Request)) (reports : List (Key × Outcome))
    → Reports gives jobs reports → map (λ (r : Key × Outcome). r.0) reports ≡ map (λ (j : Key × Request). j.0) jobs
same_keys gives [] [] all = refl
same_keys gives [] (r ∷ rs) all = absurd all
same_keys gives (j ∷ js) [] all = absurd all
same_keys gives (j ∷ js) (r ∷ rs) all = rw all.0 (ap (λ keys. j.0 ∷ keys) (same_keys gives js rs all.2))

-- where nothing was taken or reported before
pub reported_under_keys : {Key Request Outcome : Type 0} (gives : Request → Outcome → Type 0) (last : List Passage)
    (old_taken taken : List (Key × Request)) (old_reported reported : List (Key × Outcome)) (p q : Option (List Passage))
    → old_taken ≡ [] → old_reported ≡ [] → Worked gives last (Some old_taken) (Some taken) (Some old_reported) (Some reported) p q
    → map (λ (r : Key × Outcome). r.0) reported ≡ map (λ (j : Key × Request). j.0) taken
reported_under_keys gives last old_taken taken old_reported reported p q none_taken none_reported so =
    let all_taken : taken ≡ so.jobs = rw none_taken at so.taken in
    let all_reported : reported ≡ so.reports = rw none_reported at so.reported in
    rw (all_taken, all_reported) (same_keys gives so.jobs so.reports so.handled)

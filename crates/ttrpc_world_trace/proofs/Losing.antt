-- Flights as lists: what a throw leaves of them. No bytes, no seals, no queue, no streams.
use Rattle.ttrpc_world_trace.proofs.FlightWords.{not, ℕ, Bool, List, [], ◌∷◌, ◌++◌, take, drop, ap, subst, ◌∙◌, append_assoc, AllByRecursion, filter, take-append-drop, is_request_of, Flying, flying_without, cond_both}

-- whether a flight stays
abbrev pub stays : (ℕ → Bool) → Flying → Bool
stays owners x = not (is_request_of owners x.frame)

-- A throw leaves a front of the flights, and of those behind it some, in order.
pub left_behind : (R : List Flying → List Flying → Type 0) (owners : ℕ → Bool) (n : ℕ) (transit queued : List Flying)
    → ((front back : List Flying) → R (front ++ back) (front ++ filter (stays owners) back)) → R (transit ++ queued) (transit ++ flying_without owners n queued)
left_behind R owners n transit queued each =
    let front = transit ++ take n queued in
    let back = drop n queued in
    let whole = append_assoc transit (take n queued) back ∙ ap (λ xs. transit ++ xs) (take-append-drop n queued) in
    let left = append_assoc transit (take n queued) (filter (stays owners) back) in
    subst (λ xs. R xs (transit ++ flying_without owners n queued)) whole (subst (R (front ++ back)) left (each front back))

pub all_kept : (P : Flying → Type 0) (keep : Flying → Bool) (front back : List Flying) → AllByRecursion P (front ++ back) → AllByRecursion P (front ++ filter keep back)
all_kept P keep [] [] all = tt
all_kept P keep [] (y ∷ ys) all = let later = all_kept P keep [] ys all.1 in cond_both (keep y) (y ∷ filter keep ys) (filter keep ys) (AllByRecursion P) (λ _. (all.0, later)) (λ _. later)
all_kept P keep (x ∷ xs) ys all = (all.0, all_kept P keep xs ys all.1)

pub all_thrown : (P : Flying → Type 0) (owners : ℕ → Bool) (n : ℕ) (transit queued : List Flying) → AllByRecursion P (transit ++ queued) → AllByRecursion P (transit ++ flying_without owners n queued)
all_thrown P owners n transit queued =
    left_behind (λ all left. AllByRecursion P all → AllByRecursion P left) owners n transit queued (all_kept P (stays owners))

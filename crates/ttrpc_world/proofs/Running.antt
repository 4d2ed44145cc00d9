-- A run goes on by one step.
use Rattle.ttrpc_world.proofs.Words.{[], ap, Bool, Entry, Event, Halves, List, map, Net, refl, Reply, Runs, Steps, subst, ◌++◌, ◌∷◌, ◌≡◌}

pub run_more : {CO CI SO SI : Type 0} (c : Halves CO CI) (s : Halves SO SI) (seals : Bool) (w : Net CO CI SO SI) (trace : List Entry) (x : Net CO CI SO SI) (event : Event) (reply : Reply) (v : Net CO CI SO SI)
    → Runs c s seals w trace x → Steps c s seals x event reply v → Runs c s seals w (trace ++ record { event = event; reply = reply } ∷ []) v
run_more c s seals w [] x event reply v p q = (v, subst (λ (y : Net _ _ _ _). Steps c s seals y event reply v) p q, refl)
run_more c s seals w (e ∷ trace) x event reply v p q = (p.0, p.1, run_more c s seals p.0 trace x event reply v p.2 q)

-- the events of a trace with one more entry
pub events_more : (trace : List Entry) (event : Event) (reply : Reply) → map Entry.event (trace ++ record { event = event; reply = reply } ∷ []) ≡ map Entry.event trace ++ event ∷ []
events_more [] event reply = refl
events_more (e ∷ trace) event reply = ap (λ xs. e.event ∷ xs) (events_more trace event reply)

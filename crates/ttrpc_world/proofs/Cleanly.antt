-- What is right of each step of a clean run that ends drained: it is clean, both sides live before and behind it, both pipes are
-- whole, and the deadlines are those of the trace.
use Rattle.ttrpc_world.proofs.Living.{fresh_open, lived, lives_at_end, stays_open}
use Rattle.ttrpc_world.proofs.Timed.{fresh_timed, IsTimed, timed}
use Rattle.ttrpc_world.proofs.Words.{[], AreClean, Bool, Entry, Event, Halves, IsClean, IsCleanAt, IsDrained, IsFresh, IsOpen, List, Lives, Net, Reply, Rules, Runs, ℕ, ◌++◌, ◌∷◌}

module _ {CO CI SO SI : Type 0} (c : Halves CO CI) (s : Halves SO SI) (seals : Bool) (rules : Rules) (f : ℕ → ℕ) where
  -- OF A STEP, behind this trace.
  pub record IsCleanStep (t : List Entry) (w : Net CO CI SO SI) (event : Event) (reply : Reply) (v : Net CO CI SO SI) : Type 0 where
    pub at : IsCleanAt rules f t event reply
    pub before : Lives w
    pub behind : Lives v
    pub whole : IsOpen w
    pub timed : IsTimed c s seals t w

  -- of what is left of a run
  pub record IsCleanRun (t : List Entry) (w : Net CO CI SO SI) (rest : List Entry) (v : Net CO CI SO SI) : Type 0 where
    pub clean : AreClean rules f t rest
    pub lives : Lives v
    pub whole : IsOpen w
    pub timed : IsTimed c s seals t w

  pub first_step : {t : List Entry} {w : Net CO CI SO SI} {e : Entry} {rest : List Entry} {v : Net CO CI SO SI} → IsCleanRun t w (e ∷ rest) v → (r : Runs c s seals w (e ∷ rest) v) → IsCleanStep t w e.event e.reply r.0
  first_step {w = w} {e} {rest} {v} z r = record { at = z.clean.0; before = lived c s seals w (e ∷ rest) v r z.lives; behind = lived c s seals r.0 rest v r.2 z.lives; whole = z.whole; timed = z.timed }

  pub later_run : {t : List Entry} {w : Net CO CI SO SI} {e : Entry} {rest : List Entry} {v : Net CO CI SO SI} → IsCleanRun t w (e ∷ rest) v → (r : Runs c s seals w (e ∷ rest) v) → IsCleanRun (t ++ e ∷ []) r.0 rest v
  later_run {t} {w} {e} z r =
      let at = z.clean.0 in
      record {
        clean = z.clean.1;
        lives = z.lives;
        whole = stays_open c s seals w e.event e.reply r.0 at.event_is at.reply_is r.1 z.whole;
        timed = timed c s seals t w e.event e.reply r.0 at.event_is at.reply_is r.1 z.timed;
      }

  pub fresh_run : (w : Net CO CI SO SI) (trace : List Entry) (v : Net CO CI SO SI) → IsFresh c s w → IsClean rules f trace → IsDrained trace → Runs c s seals w trace v → IsCleanRun [] w trace v
  fresh_run w trace v n clean drained run = record {
    clean = clean;
    lives = lives_at_end c s seals rules f w trace v (fresh_open n) clean drained run;
    whole = fresh_open n;
    timed = fresh_timed c s seals w n;
  }

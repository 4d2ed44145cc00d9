-- What holds behind the last bytes that a side took: what an entry there starts, and the steps behind it keep. By induction
-- over a clean run that ends drained.
use Rattle.ttrpc_world.proofs.Cleanly.{first_step, IsCleanStep}
use Rattle.ttrpc_world.proofs.Sentences.{Stands, step_on}
use Rattle.ttrpc_world.proofs.Keeps.{AreSteady, Keeps}
use Rattle.ttrpc_world.proofs.Numbers.{AreRight}
use Rattle.ttrpc_world.proofs.Words.{[], append-nil, append_assoc, Bool, Entry, Event, false, Halves, if◌then◌else◌, List, Net, refl, Reply, Settings, Side, since, Steps, subst, sym, takes_bytes, true, with_entry, ℕ, ◌++◌, ◌||◌, ◌∷◌, ◌≡◌}

since_next : (P Q : Type 0) (takes is before : Bool) → (is ≡ true → Q) → (takes ≡ false → P → Q) → (before ≡ true → P) → (if takes then false else (is || before)) ≡ true → Q
since_next P Q true is before start on had h = cc
since_next P Q false true before start on had h = start refl
since_next P Q false false before start on had h = on refl (had h)

module _ {CO CI SO SI : Type 0} (c : Halves CO CI) (s : Halves SO SI) (seals : Bool) (steady : AreSteady c s seals) (set : Settings) (f : ℕ → ℕ) where
  -- WHAT IS KNOWN OF A STEP of such a run
  pub record IsKnown (t : List Entry) (w : Net CO CI SO SI) (event : Event) (reply : Reply) (v : Net CO CI SO SI) : Type 0 where
    pub does : Steps c s seals w event reply v
    pub cleanly : IsCleanStep c s seals set.rules f t w event reply v
    pub right : AreRight f w.server.state.jobs.list
    pub before : Keeps c s set f t w
    pub behind : Keeps c s set f (with_entry t event reply) v

  -- a step by which this side takes no bytes keeps it
  abbrev pub Stays : Side → (List Entry → Net CO CI SO SI → Type 0) → Type 0
  Stays at P = (t : List Entry) (w : Net CO CI SO SI) (event : Event) (reply : Reply) (v : Net CO CI SO SI) → IsKnown t w event reply v → takes_bytes at event reply ≡ false → P t w → P (with_entry t event reply) v

  -- such an entry starts it
  abbrev pub Starts : (Event → Reply → Bool) → (List Entry → Net CO CI SO SI → Type 0) → Type 0
  Starts is_it P = (t : List Entry) (w : Net CO CI SO SI) (event : Event) (reply : Reply) (v : Net CO CI SO SI) → IsKnown t w event reply v → is_it event reply ≡ true → P (with_entry t event reply) v

  -- IT HOLDS AT THE END, where such an entry stands behind the last bytes that this side took; or it held at first.
  pub since_holds : (at : Side) (is_it : Event → Reply → Bool) (P : List Entry → Net CO CI SO SI → Type 0) → Stays at P → Starts is_it P → set.clean → (t rest : List Entry) (w v : Net CO CI SO SI) (before : Bool) → Stands c s seals steady set f t w rest v
      → (before ≡ true → P t w) → since at is_it before rest ≡ true → P (t ++ rest) v
  since_holds at is_it P stays starts clean t [] w v before x had h = subst (λ (y : List Entry). P y v) (sym (append-nil t)) (subst (λ (y : Net CO CI SO SI). P t y) (sym x.run) (had h))
  since_holds at is_it P stays starts clean t (e ∷ rest) w v before x had h =
      let next = step_on c s seals steady set f x in
      let step = first_step c s seals set.rules f (x.clean clean) x.run in
      let known : IsKnown t w e.event e.reply x.run.0 = record { does = x.run.1; cleanly = step; right = x.right.0; before = x.kept; behind = next.kept } in
      let takes : Bool = takes_bytes at e.event e.reply in
      let is : Bool = is_it e.event e.reply in
      subst (λ (y : List Entry). P y v) (append_assoc t (e ∷ []) rest)
      (since_holds at is_it P stays starts clean (t ++ e ∷ []) rest x.run.0 v (if takes then false else (is || before)) next
      (since_next (P t w) (P (t ++ e ∷ []) x.run.0) takes is before (λ it. starts t w e.event e.reply x.run.0 known it) (λ none was. stays t w e.event e.reply x.run.0 known none was) had) h)

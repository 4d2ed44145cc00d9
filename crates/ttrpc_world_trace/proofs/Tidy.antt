-- A call of a method in a clean run, by how far its work has come: it waits while nothing was answered; once it was answered,
-- exactly its response is under way, then kept, then given. So at a quiet end it is whole.
use Rattle.ttrpc_world_trace.proofs.StoryWords.{[], Act, ActiveJob, all_work, Answered, append-nil, CallState, Called, deadline_in, Ended, Error, false, Flying, Gave, gave_of, Gives, GivesOutcome, LandsOn, left_of, is_stream, call_result_of, List, None, OpenedPayload, Option, outcomes, outcomes_append, Ran, refl, Request, Response, Result, Rules, Some, subst, sym, SyncRules, Waiting, work, ℕ, ◌++◌, ◌∙◌, ◌∷◌, ◌≡◌, ◌≤◌, ◌⊎◌, ap, inl, inr, nat_eq, ◌%◌, Body}
use Rattle.ttrpc_world_trace.proofs.Here.{Asking, Born, ByCall, Idle, Left, no_cons, Over, Runs, ups_of, Waits, Work, works_of}
use Rattle.ttrpc_world_trace.specs.Trace.{some_of}
use Rattle.ttrpc_world_trace.specs.Flows.{Tells}
use Rattle.ttrpc_world_trace.specs.Clean.{IsWholeCall}
use Rattle.std.specs.Prelude.{◌≢◌}

-- Of the acts, of what is in flight to the client, and of what it keeps of the call. Nothing was answered: the call waits, and nothing
-- is in flight to it.
pub record Unanswered (a : List Act) (d : List Flying) (e : Option CallState) : Type 0 where
  pub downs : d ≡ []
  pub deadline : Option ℕ
  pub call : e ≡ Some (Waiting deadline)
  pub ungiven : outcomes a ≡ []

-- a job of this deadline is due no earlier than a call of that one
abbrev pub IsPatient : (call job : Option ℕ) → Type 0
IsPatient call None = Unit {0}
IsPatient call (Some at) = (sooner : ℕ) × (call ≡ Some sooner) × (sooner ≤ at)

-- its job: it is no stream's, and it is due no earlier than the call, under sync rules never
pub record IsOwed (rules : Rules) (body : Body) (a : List Act) (d : List Flying) (e : Option CallState) : Type 0 where
  pub un : Unanswered a d e
  pub unary : is_stream body ≡ false
  pub patient : IsPatient un.deadline (deadline_in body)
  pub untimed : rules ≡ SyncRules → deadline_in body ≡ None

-- these acts answered it, and this is told of the answer: the response is under way
pub record IsUnderWay (done : List Act) (outcome : Result Response Error) (a : List Act) (d : List Flying) (e : Option CallState) : Type 0 where
  pub x : Flying
  pub downs : d ≡ x ∷ []
  pub lands : call_result_of x.frame.message.header (OpenedPayload x.plain) ≡ Gives outcome
  pub deadline : Option ℕ
  pub call : e ≡ Some (Waiting deadline)
  pub acts : a ≡ done

-- or it is kept; or it was given
abbrev pub IsKept : List Act → Result Response Error → List Act → List Flying → Option CallState → Type 0
IsKept done outcome a d e = (d ≡ []) × (e ≡ Some (Ended outcome)) × (a ≡ done)

abbrev pub IsGiven : List Act → Result Response Error → List Act → List Flying → Option CallState → Type 0
IsGiven done outcome a d e = (d ≡ []) × (e ≡ None) × (a ≡ done ++ Gave outcome ∷ [])

-- one run, of exactly its request
abbrev pub once : Request → ℕ → List Act
once q job = Called q ∷ Ran job false q ∷ []

-- one of the three
abbrev Comes : List Act → Result Response Error → List Act → List Flying → Option CallState → Type 0
Comes done outcome a d e = IsUnderWay done outcome a d e ⊎ (IsKept done outcome a d e ⊎ IsGiven done outcome a d e)

-- a job was answered by this, and this is told of it
pub record Replied (rules : Rules) (limit : ℕ) : Type 0 where
  pub job : ℕ
  pub answer : Result Response Error
  pub outcome : Result Response Error
  pub told : Tells rules limit answer outcome

-- the call was answered by it
abbrev pub IsAnsweredCall : Rules → ℕ → Request → List Act → List Flying → Option CallState → Type 0
IsAnsweredCall rules limit q a d e = (r : Replied rules limit) × Comes (once q r.job ++ Answered false (some_of r.answer) ∷ []) r.outcome a d e

-- or that run ended without an answer
pub record IsUnfinished (q : Request) (done a : List Act) (d : List Flying) (e : Option CallState) : Type 0 where
  pub un : Unanswered a d e
  pub job : ℕ
  pub ran : done ≡ once q job

-- TIDY: the call of a method, where its work has come this far. A job that goes on behind its response is never due.
abbrev pub Tidy : Rules → ℕ → Request → Work → List Act → List Flying → Option CallState → Type 0
Tidy rules limit q Idle a d e = ⊥
Tidy rules limit q (Asking x) a d e = Unanswered a d e × (nat_eq (x.frame.message.header.stream_id % 2) 0 ≡ false)
Tidy rules limit q (Waits j) a d e = IsOwed rules j.body a d e
Tidy rules limit q (Runs j) a d e = IsOwed rules j.body a d e
Tidy rules limit q (Left j response) a d e = IsAnsweredCall rules limit q a d e × (deadline_in j.body ≡ None)
Tidy rules limit q (Over done) a d e = IsAnsweredCall rules limit q a d e ⊎ IsUnfinished q done a d e

-- ---- at a quiet end

-- the outcome was given, or is none that is kept
abbrev pub IsAsked : List Act → Option CallState → Type 0
IsAsked a e = (outcomes a ≢ []) ⊎ ((o : Result Response Error) → e ≡ Some (Ended o) → ⊥)

answered_whole : (rules : Rules) (limit : ℕ) (q : Request) (a : List Act) (d : List Flying) (e : Option CallState) → d ≡ [] → IsAsked a e → IsAnsweredCall rules limit q a d e → IsWholeCall rules limit q a
answered_whole rules limit q a d e none asked t = elim t.1 [
  | inl w ↦ absurd (no_cons w.x [] (sym w.downs ∙ none))
  | inr (inl w) ↦ elim asked [
    | inl some ↦ absurd (some (ap outcomes w.2))
    | inr never ↦ absurd (never t.0.outcome w.1)
  ]
  | inr (inr w) ↦ (t.0.job, t.0.answer, t.0.outcome, w.2, t.0.told)
]

-- what a run of a job that is no stream's is
ran_once : (q : Request) (j : ActiveJob) (done : List Act) → is_stream j.body ≡ false → done ≡ works_of (Born (ByCall q)) (Runs j) → done ≡ once q j.id
ran_once q j done unary is = is ∙ rw unary refl

-- THE CALL IS WHOLE where nothing is in flight, no job waits, no run was left without an answer, and it was asked for.
pub whole_call : (rules : Rules) (limit : ℕ) (q : Request) (p : Work) (a : List Act) (d : List Flying) (e : Option CallState) → Tidy rules limit q p a d e → work a ≡ works_of (Born (ByCall q)) p → ups_of p ≡ [] → d ≡ [] → ((j : ActiveJob) → p ≡ Waits j → ⊥)
    → ((job : ℕ) → work a ≡ once q job → ⊥) → IsAsked a e → IsWholeCall rules limit q a
whole_call rules limit q Idle a d e t works up down wait run asked = absurd t
whole_call rules limit q (Asking x) a d e t works up down wait run asked = absurd (no_cons x [] up)
whole_call rules limit q (Waits j) a d e t works up down wait run asked = absurd (wait j refl)
whole_call rules limit q (Runs j) a d e t works up down wait run asked = absurd (run j.id (ran_once q j (work a) t.unary works))
whole_call rules limit q (Left j response) a d e t works up down wait run asked = answered_whole rules limit q a d e down asked t.0
whole_call rules limit q (Over done) a d e (inl t) works up down wait run asked = answered_whole rules limit q a d e down asked t
whole_call rules limit q (Over done) a d e (inr t) works up down wait run asked = absurd (run t.job (works ∙ t.ran))

-- ---- its turns

-- Its job is handed out.
pub tidy_taken : {rules : Rules} {body : Body} {a : List Act} {d : List Flying} {e : Option CallState} (x : Act) → outcomes (x ∷ []) ≡ [] → IsOwed rules body a d e → IsOwed rules body (a ++ x ∷ []) d e
tidy_taken {a = a} x none o =
    let ungiven : outcomes (a ++ x ∷ []) ≡ [] = outcomes_append a (x ∷ []) ∙ ap (λ (xs : List (Result Response Error)). outcomes a ++ xs) none ∙ append-nil (outcomes a) ∙ o.un.ungiven in
    record { un = record { downs = o.un.downs; deadline = o.un.deadline; call = o.un.call; ungiven = ungiven }; unary = o.unary; patient = o.patient; untimed = o.untimed }

-- what goes down for an answer: one response, of which is told what is told of the answer
pub record IsSentBack (rules : Rules) (limit : ℕ) (result : Result (Option Response) Error) (down : List Flying) : Type 0 where
  pub answer : Result Response Error
  pub is : result ≡ some_of answer
  pub outcome : Result Response Error
  pub told : Tells rules limit answer outcome
  pub x : Flying
  pub down_is : down ≡ x ∷ []
  pub lands : call_result_of x.frame.message.header (OpenedPayload x.plain) ≡ Gives outcome

-- It is answered: the response that is told so goes down.
pub tidy_answers : (rules : Rules) (limit : ℕ) (q : Request) (j : ActiveJob) (a : List Act) (d : List Flying) (e : Option CallState) (result : Result (Option Response) Error) (down : List Flying) → IsOwed rules j.body a d e → work a ≡ works_of (Born (ByCall q)) (Runs j)
    → IsSentBack rules limit result down → IsAnsweredCall rules limit q (a ++ Answered false result ∷ []) (d ++ down) e
tidy_answers rules limit q j a d e result down o works b = (
  record { job = j.id; answer = b.answer; outcome = b.outcome; told = b.told },
  inl (record {
    x = b.x;
    downs = ap (λ (xs : List Flying). xs ++ down) o.un.downs ∙ b.down_is;
    lands = b.lands;
    deadline = o.un.deadline;
    call = o.un.call;
    acts = ap (λ (xs : List Act). xs ++ Answered false result ∷ []) (all_work a o.un.ungiven ∙ ran_once q j (work a) o.unary works) ∙ ap (λ (r : Result (Option Response) Error). once q j.id ++ Answered false r ∷ []) b.is;
  }),
)

-- The response lands: the call that waits keeps what it is told.
answered_lands : (rules : Rules) (limit : ℕ) (q : Request) (a : List Act) (e e2 : Option CallState) (x : Flying) (ds d : List Flying) → IsAnsweredCall rules limit q a ds e → ds ≡ x ∷ d → LandsOn (call_result_of x.frame.message.header (OpenedPayload x.plain)) e e2
    → IsAnsweredCall rules limit q a d e2
answered_lands rules limit q a e e2 x ds d t was l = (
  t.0,
  elim t.1 [
    | inl w ↦
        let both : w.x ∷ [] ≡ x ∷ d = sym w.downs ∙ was in
        let same : w.x ≡ x = cc in
        let none : [] ≡ d = cc in
        let lands : call_result_of x.frame.message.header (OpenedPayload x.plain) ≡ Gives t.0.outcome = subst (λ (y : Flying). call_result_of y.frame.message.header (OpenedPayload y.plain) ≡ Gives t.0.outcome) same w.lands in
        let on = subst (λ (c : Option CallState). LandsOn (call_result_of x.frame.message.header (OpenedPayload x.plain)) c e2) w.call l in
        let given = subst (λ g. LandsOn g (Some (Waiting w.deadline)) e2) lands on in
        inr (inl (sym none, given.2 ∙ ap (λ (o : Result Response Error). Some (Ended o)) given.1, w.acts))
    | inr (inl w) ↦ absurd (no_cons x d (sym was ∙ w.0))
    | inr (inr w) ↦ absurd (no_cons x d (sym was ∙ w.0))
  ],
)

pub tidy_lands : (rules : Rules) (limit : ℕ) (q : Request) (p : Work) (a : List Act) (e e2 : Option CallState) (x : Flying) (ds d : List Flying) → ds ≡ x ∷ d → LandsOn (call_result_of x.frame.message.header (OpenedPayload x.plain)) e e2
    → Tidy rules limit q p a ds e → Tidy rules limit q p a d e2
tidy_lands rules limit q p a e e2 x ds d was l t = by p t
  where
    none : Unanswered a ds e → ⊥
    none u = no_cons x d (sym was ∙ u.downs)

    by : (p : Work) → Tidy rules limit q p a ds e → Tidy rules limit q p a d e2
    by Idle t = absurd t
    by (Asking y) t = absurd (none t.0)
    by (Waits j) t = absurd (none t.un)
    by (Runs j) t = absurd (none t.un)
    by (Left j response) t = (answered_lands rules limit q a e e2 x ds d t.0 was l, t.1)
    by (Over done) (inl t) = inl (answered_lands rules limit q a e e2 x ds d t was l)
    by (Over done) (inr t) = absurd (none t.un)

-- Its outcome is asked for, while the client lives: what is kept is given.
pub tidy_asked : (rules : Rules) (limit : ℕ) (q : Request) (p : Work) (a : List Act) (d : List Flying) (e : Option CallState) (given : Option (Result Response Error)) → GivesOutcome None e given → Tidy rules limit q p a d e → Tidy rules limit q p (a ++ gave_of given) d (left_of false e)
tidy_asked rules limit q p a d e given g t = by p t
  where
    -- a call that waits goes on to
    waits : (P : List Act → Option CallState → Type 0) (x : Option ℕ) → e ≡ Some (Waiting x) → P a e → P (a ++ gave_of given) (left_of false e)
    waits P x is h =
        let none : given ≡ None = subst (λ (c : Option CallState). GivesOutcome None c given) is g in
        subst (λ (c : Option CallState). P (a ++ gave_of given) (left_of false c)) (sym is) (subst (λ (y : Option (Result Response Error)). P (a ++ gave_of y) (Some (Waiting x))) (sym none)
        (subst (λ (b : List Act). P b (Some (Waiting x))) (sym (append-nil a)) (subst (P a) is h)))

    an : IsAnsweredCall rules limit q a d e → IsAnsweredCall rules limit q (a ++ gave_of given) d (left_of false e)
    an t = (
      t.0,
      elim t.1 [
        | inl w ↦ waits (λ x y. Comes (once q t.0.job ++ Answered false (some_of t.0.answer) ∷ []) t.0.outcome x d y) w.deadline w.call (inl w)
        | inr (inl w) ↦
            let some : given ≡ Some t.0.outcome = subst (λ (c : Option CallState). GivesOutcome None c given) w.1 g in
            inr (inr (w.0, ap (left_of false) w.1, ap (λ (x : Option (Result Response Error)). a ++ gave_of x) some ∙ ap (λ (xs : List Act). xs ++ Gave t.0.outcome ∷ []) w.2))
        | inr (inr w) ↦
            let none : given ≡ None = subst (λ (c : Option CallState). GivesOutcome None c given) w.1 g in
            inr (inr (w.0, ap (left_of false) w.1, ap (λ (x : Option (Result Response Error)). a ++ gave_of x) none ∙ append-nil a ∙ w.2))
      ],
    )

    by : (p : Work) → Tidy rules limit q p a d e → Tidy rules limit q p (a ++ gave_of given) d (left_of false e)
    by Idle t = absurd t
    by (Asking x) t = waits (λ y c. Tidy rules limit q (Asking x) y d c) t.0.deadline t.0.call t
    by (Waits j) t = waits (λ y c. Tidy rules limit q (Waits j) y d c) t.un.deadline t.un.call t
    by (Runs j) t = waits (λ y c. Tidy rules limit q (Runs j) y d c) t.un.deadline t.un.call t
    by (Left j response) t = (an t.0, t.1)
    by (Over done) (inl t) = inl (an t)
    by (Over done) (inr t) = waits (λ y c. Tidy rules limit q (Over done) y d c) t.un.deadline t.un.call (inr t)

-- ---- its job is gone

-- a job that has a deadline, but a later one than a call that waits
abbrev pub IsTooSoon : Option CallState → ActiveJob → Type 0
IsTooSoon call job = (deadline_in job.body ≡ None → ⊥) × ((d : Option ℕ) → call ≡ Some (Waiting d) → IsPatient d (deadline_in job.body) → ⊥)

-- It was taken and ends without an answer, or it expires, which it can't.
abbrev pub MayGo : List Flying → Option CallState → ActiveJob → Type 0
MayGo down call job = ((down ≡ []) × (job.request ≡ None)) ⊎ IsTooSoon call job

pub never_gone : {rules : Rules} {a : List Act} {d : List Flying} {e : Option CallState} (job : ActiveJob) → IsTooSoon e job → IsOwed rules job.body a d e → ⊥
never_gone job f o = f.1 o.un.deadline o.un.call o.patient

-- nothing goes down
pub down_none : {d down : List Flying} (P : List Flying → Type 0) → down ≡ [] → P d → P (d ++ down)
down_none {d} P is h = subst (λ (x : List Flying). P (d ++ x)) (sym is) (subst P (sym (append-nil d)) h)

pub ran_gone : {rules : Rules} {a : List Act} {d : List Flying} {e : Option CallState} (q : Request) (job : ActiveJob) (down : List Flying) → down ≡ [] → IsOwed rules job.body a d e → IsUnfinished q (works_of (Born (ByCall q)) (Runs job)) a (d ++ down) e
ran_gone {a = a} {e = e} q job down none o = record { un = down_none (λ x. Unanswered a x e) none o.un; job = job.id; ran = ran_once q job (works_of (Born (ByCall q)) (Runs job)) o.unary refl }

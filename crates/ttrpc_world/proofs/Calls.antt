-- EACH CALL OF A CLEAN QUIET RUN IS WHOLE, if it names a method of the server and was asked for.
use Rattle.ttrpc_world.proofs.Behind.{idle_still, kept_before, none_kept, none_waits}
use Rattle.ttrpc_world.proofs.Cleanly.{fresh_run}
use Rattle.ttrpc_world.proofs.Ending.{empty_at_end, none_flies}
use Rattle.ttrpc_world.proofs.Delivers.{around}
use Rattle.ttrpc_world.proofs.Keeps.{AreSteady}
use Rattle.ttrpc_world.proofs.Sentences.{begins, kept_at_end, Stands}
use Rattle.ttrpc_world.proofs.Living.{stay_open}
use Rattle.ttrpc_world.proofs.Numbers.{IsRightRun, stream_of_run}
use Rattle.ttrpc_world.proofs.Since.{since_holds, Starts, Stays}
use Rattle.ttrpc_world_trace.proofs.Tidy.{IsAsked}
use Rattle.ttrpc_world_trace.proofs.StoryWords.{Opened}
use Rattle.ttrpc_world.proofs.Words.{[], Act, act_of, ActiveJob, acts, AllByRecursion, Answer, Answered, ap, AreWholeCalls, Around, asked_by, asks_outcome, begun_calls, Bool, Born, ByCall, ByOpen, call_at, Called, CallEvent, calls, calls_work, ClientSide, Done, Ended, EndStream, Entry, eq-eqb, eqb-true, Error, Event, false, Gave, Given, Halves, Handed, has_method, has_response, Here, here_at, if◌then◌else◌, inl, inr, is_answer_of, is_done, is_stream, IsAnsweredIn, IsAskedFor, IsClean, IsDrained, IsEmpty, IsFresh, IsQuiet, IsRightAt, IsStreamOf, IsWholeCall, Job, jobs_at, Known, List, list_any, list_any-append, Named, nat_eq, Net, nil_parts, None, NoneWaits, Ok, once, only_if, OpenEvent, or_cases, or_left, or_right, Origin, Outcome, parcels, Ran, refl, Reply, Request, Respond, Response, Result, Runs, safe_limit, ServerCore, ServerSide, Settings, Some, some_of, subst, sym, Take, takes_nothing, true, Unborn, ups_of, Waits, whole_call, Work, work, ℕ, ◌||◌, ◌∙◌, ◌∷◌, ◌≡◌}

-- ---- what a run of a job says of the trace

-- an answer of a job, and a run of this job
abbrev is_answer : Act → Bool
is_answer (Answered stream result) = true
is_answer act = false

abbrev is_run : ℕ → Act → Bool
is_run job (Ran id stream request) = nat_eq id job
is_run job act = false

any_work : (p : Act → Bool) → ((o : Result Response Error) → p (Gave o) ≡ false) → (a : List Act) → list_any p (work a) ≡ list_any p a
any_work p none [] = refl
any_work p none (Gave o ∷ a) = any_work p none a ∙ ap (λ (b : Bool). b || list_any p a) (sym (none o))
any_work p none (act ∷ a) = ap (λ (b : Bool). p act || b) (any_work p none a)

no_run : (job : ℕ) (b : Bool) (x : Act) → is_run job x ≡ false → list_any (is_run job) (only_if b x) ≡ true → ⊥
no_run job true x none h = let bad : false ≡ true = sym (rw none refl) ∙ h in cc
no_run job false x none h = cc

or_false : (a : Bool) → (a || false) ≡ true → a ≡ true
or_false true h = refl
or_false false h = h

module _ (f : ℕ → ℕ) (k : ℕ) where
  one_answer : (job : ℕ) (event : Event) (reply : Reply) → f job ≡ k → is_answer_of job event reply ≡ true → list_any is_answer (act_of f k event reply) ≡ true
  one_answer job (Answer j result) Done at is = rw (eqb-true j job is, eq-eqb (f job) k at) refl
  one_answer job (Respond j response) Done at is = rw (eqb-true j job is, eq-eqb (f job) k at) refl
  one_answer job (EndStream j result) Done at is = rw (eqb-true j job is, eq-eqb (f job) k at) refl
  one_answer job event reply at is = let bad : false ≡ true = is in cc

  abbrev HasAnswer : ℕ → List Entry → Type 0
  HasAnswer job es = list_any (λ (e : Entry). is_answer_of job e.event e.reply) es ≡ true

  -- a job that was answered has an answer among the acts of its id
  was_answered : (job : ℕ) (es : List Entry) → f job ≡ k → HasAnswer job es → list_any is_answer (acts f k es) ≡ true
  was_answered job [] at h = cc
  was_answered job (e ∷ es) at h = list_any-append is_answer (act_of f k e.event e.reply) (acts f k es) ∙ elim (or_cases (is_answer_of job e.event e.reply) (list_any (λ (x : Entry). is_answer_of job x.event x.reply) es) h) [
    | inl is ↦ or_left (list_any is_answer (act_of f k e.event e.reply)) (list_any is_answer (acts f k es)) (one_answer job e.event e.reply at is)
    | inr later ↦ or_right (list_any is_answer (act_of f k e.event e.reply)) (list_any is_answer (acts f k es)) (was_answered job es at later)
  ]

  -- a run is of a job that was handed out, under this id, and answered
  abbrev WasAnswered : List Entry → ℕ → Type 0
  WasAnswered trace job = (f job ≡ k) × HasAnswer job trace

  given_run : (trace : List Entry) (job : ℕ) (given : Job) (b : Bool) → nat_eq given.header.stream_id k ≡ b → HasAnswer given.id trace → f given.id ≡ given.header.stream_id → list_any (is_run job) (only_if b (Ran given.id given.stream given.request)) ≡ true → WasAnswered trace job
  given_run trace job given false at answered right h = cc
  given_run trace job given true at answered right h =
      let same : given.id ≡ job = eqb-true given.id job (or_false (nat_eq given.id job) h) in
      subst (λ (n : ℕ). WasAnswered trace n) same (right ∙ eqb-true given.header.stream_id k at, answered)

  ran_at : (trace : List Entry) (job : ℕ) (event : Event) (reply : Reply) → IsAnsweredIn trace event reply → IsRightAt f event reply → list_any (is_run job) (act_of f k event reply) ≡ true → WasAnswered trace job
  ran_at trace job Take (Handed (Some given)) answered right h = given_run trace job given (nat_eq given.header.stream_id k) refl answered right h
  ran_at trace job (CallEvent request) (Named id) answered right h = absurd (no_run job (nat_eq id k) (Called request) refl h)
  ran_at trace job (OpenEvent request up down) (Named id) answered right h = absurd (no_run job (nat_eq id k) (Opened request up down) refl h)
  ran_at trace job (Outcome id) (Given (Some outcome)) answered right h = absurd (no_run job (nat_eq id k) (Gave outcome) refl h)
  ran_at trace job (Answer j result) Done answered right h = absurd (no_run job (nat_eq (f j) k) (Answered false (some_of result)) refl h)
  ran_at trace job (Respond j response) Done answered right h = absurd (no_run job (nat_eq (f j) k) (Answered false (Ok (Some response))) refl h)
  ran_at trace job (EndStream j result) Done answered right h = absurd (no_run job (nat_eq (f j) k) (Answered true result) refl h)
  ran_at trace job event reply answered right h = cc

  ran_in : (trace : List Entry) (job : ℕ) (es : List Entry) → AllByRecursion (λ (e : Entry). IsAnsweredIn trace e.event e.reply) es → IsStreamOf f es → list_any (is_run job) (acts f k es) ≡ true → WasAnswered trace job
  ran_in trace job [] answered right h = cc
  ran_in trace job (e ∷ es) answered right h =
      elim (or_cases (list_any (is_run job) (act_of f k e.event e.reply)) (list_any (is_run job) (acts f k es)) (sym (list_any-append (is_run job) (act_of f k e.event e.reply) (acts f k es)) ∙ h)) [
        | inl here ↦ ran_at trace job e.event e.reply answered.0 right.0 here
        | inr later ↦ ran_in trace job es answered.1 right.1 later
      ]

  -- In a quiet run no job ran without an answer.
  none_unanswered : (trace : List Entry) → IsQuiet trace → IsStreamOf f trace → (q : Request) (job : ℕ) → work (acts f k trace) ≡ once q job → ⊥
  none_unanswered trace quiet right q job is =
      let ran : list_any (is_run job) (acts f k trace) ≡ true = sym (any_work (is_run job) (λ o. refl) (acts f k trace)) ∙ ap (list_any (is_run job)) is ∙ ap (λ (b : Bool). b || false) (eq-eqb job job refl) in
      let was = ran_in trace job trace quiet.answered right ran in
      let bad : false ≡ true = ap (list_any is_answer) (sym is) ∙ any_work is_answer (λ o. refl) (acts f k trace) ∙ was_answered job trace was.0 was.1 in
      cc

-- ---- the call of an id

-- an id that has a call was used by it
called_by : {w : Around} {k : ℕ} {h : Here} (o : Origin) (p : Work) (q : Request) → Known w k h o p → calls h.acts ≡ q ∷ [] → o ≡ Born (ByCall q)
called_by {h = h} Unborn p q n one = let bad : [] ≡ q ∷ [] = sym (calls_work h.acts ∙ ap calls n.server.works_is) ∙ one in cc
called_by {w} {k} {h} (Born (ByOpen r up down)) p q n one =
    let bad : [] ≡ q ∷ [] = sym (calls_work h.acts ∙ ap calls n.server.works_is ∙ begun_calls (ByOpen r up down) (is_done w.set.rules w.had k (ByOpen r up down) p n.server.is_work)) ∙ one in
    cc
called_by {w} {k} {h} (Born (ByCall r)) p q n one =
    let both : r ∷ [] ≡ q ∷ [] = sym (calls_work h.acts ∙ ap calls n.server.works_is ∙ begun_calls (ByCall r) (is_done w.set.rules w.had k (ByCall r) p n.server.is_work)) ∙ one in
    let same : r ≡ q = cc in
    ap (λ (x : Request). Born (ByCall x)) same

filtered_idle : (k : ℕ) (js : List ActiveJob) → NoneWaits js → NoneWaits (jobs_at js k)
filtered_idle k [] h = tt
filtered_idle k (j ∷ js) h = by (nat_eq j.header.stream_id k) (filtered_idle k js h.1)
  where
    by : (b : Bool) → NoneWaits (jobs_at js k) → NoneWaits (if b then j ∷ jobs_at js k else jobs_at js k)
    by true later = (h.0, later)
    by false later = later

-- it is whole where nothing is in flight, no job waits, none that ran is without an answer, and it was asked for
whole_of : {w : Around} {k : ℕ} {h : Here} (q : Request) (p : Work) → Known w k h (Born (ByCall q)) p → w.set.clean → has_method w.set.services q.service q.method ≡ true → h.ups ≡ [] → h.downs ≡ [] → NoneWaits h.jobs
    → ((job : ℕ) → work h.acts ≡ once q job → ⊥) → IsAsked h.acts h.call → IsWholeCall w.set.rules w.set.limit q h.acts
whole_of {w} {k} {h} q p n clean method ups downs idle run asked =
    whole_call w.set.rules w.set.limit q p h.acts h.downs h.call (n.tidy clean method) n.server.works_is (nil_parts (ups_of p) n.server.items (sym n.server.ups_is ∙ ups)).0 downs waiting run asked
  where
    waiting : (j : ActiveJob) → p ≡ Waits j → ⊥
    waiting j is =
        let m = subst (λ (x : Work). Known w k h (Born (ByCall q)) x) is n in
        let bad : Some (asked_by (is_stream j.body) q) ≡ None = sym m.server.is_work.request ∙ (subst NoneWaits m.server.jobs_is idle).0 in
        cc

module _ {CO CI SO SI : Type 0} (c : Halves CO CI) (s : Halves SO SI) (seals : Bool) (steady : AreSteady c s seals) (set : Settings) (f : ℕ → ℕ) (clean : set.clean) where
  -- no job waits
  abbrev NoneWaiting : List Entry → Net CO CI SO SI → Type 0
  NoneWaiting t w = NoneWaits w.server.state.jobs.list

  idle_stays : Stays c s seals steady set f ServerSide NoneWaiting
  idle_stays t w event reply v i none h = idle_still c s seals set f t w event reply v i.before i.cleanly.whole i.cleanly.at.event_is i.cleanly.at.reply_is none i.does h

  idle_starts : Starts c s seals steady set f takes_nothing NoneWaiting
  idle_starts t w event reply v i is = none_waits c s seals w event reply v i.cleanly.before is i.does

  -- no outcome of this call is kept
  abbrev NoneKept : ℕ → List Entry → Net CO CI SO SI → Type 0
  NoneKept k t w = (o : Result Response Error) → call_at w.client.state k ≡ Some (Ended o) → ⊥

  asked_stays : (k : ℕ) → Stays c s seals steady set f ClientSide (NoneKept k)
  asked_stays k t w event reply v i none h o is = h o (kept_before c s seals set f t w event reply v k o i.before i.cleanly.whole i.cleanly.at.event_is i.cleanly.at.reply_is none i.does is)

  asked_starts : (k : ℕ) → Starts c s seals steady set f (asks_outcome k) (NoneKept k)
  asked_starts k t w event reply v i is o = none_kept c s seals w event reply v k o i.cleanly.at.reply_is is i.does

  -- A CALL IS WHOLE at the end of the run.
  pub whole_at_end : (w : Net CO CI SO SI) (trace : List Entry) (v : Net CO CI SO SI) → IsFresh c s w → (x : Stands c s seals steady set f [] w trace v) → IsEmpty v
      → IsQuiet trace → (k : ℕ) (q : Request) → calls (acts f k trace) ≡ q ∷ [] → has_method set.services q.service q.method ≡ true → IsAskedFor f k trace → IsWholeCall set.rules set.limit q (acts f k trace)
  whole_at_end w trace v n x empty quiet k q one method asked =
      let z = x.clean clean in
      let i = kept_at_end c s seals steady set f [] trace w v x in
      let whole = stay_open c s seals set.rules f [] w trace v z.clean x.run z.whole in
      let idle : NoneWaits v.server.state.jobs.list = since_holds c s seals steady set f ServerSide takes_nothing NoneWaiting idle_stays idle_starts clean [] trace w v true x
      (λ e. subst (λ (y : ServerCore SO SI). NoneWaits y.state.jobs.list) (sym n.server) tt) quiet.taken in
      let place = i.stories k in
      let known = subst (λ (o : Origin). Known (around set (has_response v) v.client.state.next) k (here_at f trace i.up i.down v.server.state.jobs.list v.client.state k) o place.so_far) (called_by place.origin place.so_far q place.known one) place.known in
      whole_of q place.so_far known clean method
      (ap (parcels k) (none_flies i.upward z.lives.server whole.up empty.up_queue empty.up)) (ap (parcels k) (none_flies i.downward z.lives.client whole.down empty.down_queue empty.down)) (filtered_idle k v.server.state.jobs.list idle)
      (λ job is. none_unanswered f k trace quiet (stream_of_run c s seals f w trace v x.run x.right) q job is)
      (elim asked [
        | inl some ↦ inl some
        | inr late ↦ inr (since_holds c s seals steady set f ClientSide (asks_outcome k) (NoneKept k) (asked_stays k) (asked_starts k) clean [] trace w v false x (λ e. cc) late)
      ])

-- EACH CALL OF A CLEAN QUIET RUN IS WHOLE: of any run from a fresh start.
pub whole_calls : {CO CI SO SI : Type 0} (c : Halves CO CI) (s : Halves SO SI) (seals : Bool) (steady : AreSteady c s seals)
    (w v : Net CO CI SO SI) (trace : List Entry) (f : ℕ → ℕ) → IsFresh c s w → (r : Runs c s seals w trace v) → IsRightRun c s seals f w trace v r → AreWholeCalls w.server.state.rules w.server.state.services (safe_limit s.out w.server.connection.outbox.half) f trace
whole_calls c s seals steady w v trace f n r right clean quiet k q one method asked =
    let set : Settings = record { rules = w.server.state.rules; services = w.server.state.services; limit = safe_limit s.out w.server.connection.outbox.half; clean = IsClean w.server.state.rules f trace × IsDrained trace } in
    let x = begins c s seals steady set f w trace v (refl, refl, refl) n r right (λ z. fresh_run c s seals set.rules f w trace v n z.0 z.1 r) in
    whole_at_end c s seals steady set f (clean, quiet.drained) w trace v n x (empty_at_end c s seals steady w v trace w.server.state.rules f n r clean quiet.drained) quiet k q one method asked

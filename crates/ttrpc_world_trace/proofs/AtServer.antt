-- The server's side of one id: its request and the data behind it in flight, its job, what is in flight to the client, and the
-- acts but for the outcome. It knows no outcome, and nothing of what the client keeps.
use Rattle.ttrpc_world_trace.proofs.StoryWords.{◌⊎◌, ◌++◌, ◌∙◌, ◌∷◌, ◌≡◌, ◌≤◌, ℕ, [], Act, ActiveJob, all_joined, AllByRecursion, Answered, ap, arith, asked_by, Bool, calls, calls_work, Err, Error, false, Flying, Gives, HasOkStatus, inl, inr, IsBegun, is_stream, IsRequest, IsWorkOf, call_result_of, last_id, length, List, map, MESSAGE_LENGTH_MAX, MESSAGE_TYPE_DATA, MESSAGE_TYPE_REQUEST, MessageHeader, None, Ok, OpenedPayload, Option, Ran, refl, Request, request_bytes, Response, Result, Rules, Some, StaysFound, subst, sym, SyncRules, true, work}
use Rattle.ttrpc_world_trace.proofs.Here.{Asking, Birth, Born, ByCall, ByOpen, first_act, Idle, IsAnswer, jobs_of, Left, Origin, Over, request_of, Runs, Unborn, ups_of, Waits, Work, works_of}

-- ---- what is in flight, and what is left to be done

-- a request in flight
pub record IsSent (k : ℕ) (request : Request) (x : Flying) : Type 0 where
  pub known : IsRequest request
  pub plain : x.plain ≡ request_bytes request
  pub short : length (request_bytes request) ≤ MESSAGE_LENGTH_MAX
  pub stream : x.frame.message.header.stream_id ≡ k
  pub type_ : x.frame.message.header.type_ ≡ MESSAGE_TYPE_REQUEST

-- data in flight to the server
pub record IsItem (k : ℕ) (x : Flying) : Type 0 where
  pub short : length x.plain ≤ MESSAGE_LENGTH_MAX
  pub stream : x.frame.message.header.stream_id ≡ k
  pub type_ : x.frame.message.header.type_ ≡ MESSAGE_TYPE_DATA

abbrev pub AreItems : ℕ → List Flying → Type 0
AreItems k items = AllByRecursion (IsItem k) items

-- data are sent on a stream alone
abbrev pub MayHave : Origin → List Flying → Type 0
MayHave (Born (ByOpen request up down)) items = Unit {0}
MayHave o items = items ≡ []

-- an id that was used is one
abbrev pub IsWithin : Origin → ℕ → Type 0
IsWithin Unborn k = Unit {0}
IsWithin (Born b) k = k ≤ last_id

-- a job, waiting with what is asked, or taken; under sync rules it is no stream's
pub record IsJob (rules : Rules) (k : ℕ) (asked : Option Request) (j : ActiveJob) : Type 0 where
  pub request : j.request ≡ asked
  pub stream : j.header.stream_id ≡ k
  pub kind : rules ≡ SyncRules → is_stream j.body ≡ false

-- what was done for this call or stream
abbrev pub IsDone : Birth → List Act → Type 0
IsDone b done = IsBegun (first_act b) (request_of b) done

-- What is right of the work. A job goes on only behind its response, and is no stream's; `had` says which jobs have one.
abbrev pub IsWork : Rules → (ℕ → Bool) → ℕ → Origin → Work → Type 0
IsWork rules had k Unborn p = p ≡ Idle
IsWork rules had k (Born b) Idle = ⊥
IsWork rules had k (Born b) (Asking x) = IsSent k (request_of b) x
IsWork rules had k (Born b) (Waits j) = IsJob rules k (Some (asked_by (is_stream j.body) (request_of b))) j
IsWork rules had k (Born b) (Runs j) = IsJob rules k None j
IsWork rules had k (Born b) (Left j response) = IsJob rules k None j × (had j.id ≡ true) × (is_stream j.body ≡ false)
IsWork rules had k (Born b) (Over done) = IsDone b done

-- whether nothing is answered any more
abbrev pub is_over : Work → Bool
is_over (Left j response) = true
is_over (Over done) = true
is_over p = false

-- A frame in flight to the client. If it gives a call an outcome that is OK, that is the answer of the one run, and no more
-- acts come but the outcome.
pub record IsDown (k : ℕ) (over : Bool) (o : Origin) (done : List Act) (x : Flying) : Type 0 where
  pub stream : x.frame.message.header.stream_id ≡ k
  pub outcome : Result Response Error
  pub lands : call_result_of x.frame.message.header (OpenedPayload x.plain) ≡ Gives outcome
  pub answer : (r : Response) → outcome ≡ Ok r → HasOkStatus r.status × ((over ≡ true) × IsAnswer o done r)

-- one that gives a call an error: data, or a response that isn't OK
pub record IsNever (k : ℕ) (x : Flying) : Type 0 where
  pub stream : x.frame.message.header.stream_id ≡ k
  pub error : Error
  pub lands : call_result_of x.frame.message.header (OpenedPayload x.plain) ≡ Gives (Err error)

abbrev pub AreDown : ℕ → Origin → Work → List Flying → Type 0
AreDown k o p downs = AllByRecursion (IsDown k (is_over p) o (works_of o p)) downs

-- THE SERVER'S SIDE, where the work has come this far: of the acts but for the outcome, of what is in flight to it, of its jobs, and
-- of what is in flight to the client. Any number of frames may be.
pub record AtServer (rules : Rules) (had : ℕ → Bool) (k : ℕ) (o : Origin) (p : Work) (works : List Act) (ups : List Flying) (jobs : List ActiveJob) (downs : List Flying) : Type 0 where
  pub within : IsWithin o k
  pub is_work : IsWork rules had k o p
  pub works_is : works ≡ works_of o p
  pub items : List Flying
  pub are_items : AreItems k items
  pub may_have : MayHave o items
  pub ups_is : ups ≡ ups_of p ++ items
  pub jobs_is : jobs ≡ jobs_of p
  pub down : AreDown k o p downs

-- ---- its turns

work_later : (rules : Rules) {had had2 : ℕ → Bool} → ((i : ℕ) → had i ≡ true → had2 i ≡ true) → (k : ℕ) (o : Origin) (p : Work) → IsWork rules had k o p → IsWork rules had2 k o p
work_later rules more k Unborn p h = h
work_later rules more k (Born b) (Left j response) h = (h.0, more j.id h.1, h.2)
work_later rules more k (Born b) p h = h

-- it never ends a call well
pub never_down : {k : ℕ} {over : Bool} {o : Origin} {done : List Act} {x : Flying} → IsNever k x → IsDown k over o done x
never_down d = record { stream = d.stream; outcome = Err d.error; lands = d.lands; answer = λ r e. let bad : Err d.error ≡ Ok r = e in cc }

pub never_downs : (k : ℕ) (over : Bool) (o : Origin) (done : List Act) (xs : List Flying) → AllByRecursion (IsNever k) xs → AllByRecursion (IsDown k over o done) xs
never_downs k over o done [] h = tt
never_downs k over o done (x ∷ xs) h = (never_down h.0, never_downs k over o done xs h.1)

-- The work stays: more jobs may have a response, other data may be in flight, and other frames to the client.
pub goes_on : {rules : Rules} {had had2 : ℕ → Bool} {k : ℕ} {o : Origin} {p : Work} {works : List Act} {ups downs ups2 : List Flying} {jobs : List ActiveJob} (items downs2 : List Flying) → ((i : ℕ) → had i ≡ true → had2 i ≡ true) → AtServer rules had k o p works ups jobs downs
    → AreItems k items → MayHave o items → ups2 ≡ ups_of p ++ items → AreDown k o p downs2 → AtServer rules had2 k o p works ups2 jobs downs2
goes_on {rules} {k = k} {o = o} {p = p} items downs2 more s are may hu down = record {
  within = s.within;
  is_work = work_later rules more k o p s.is_work;
  works_is = s.works_is;
  items = items;
  are_items = are;
  may_have = may;
  ups_is = hu;
  jobs_is = s.jobs_is;
  down = down;
}

-- Before the work is over no frame ends a call well, so all stay right whatever the acts.
kept_downs : (k : ℕ) (o o2 : Origin) (a a2 : List Act) (over : Bool) (d : List Flying) → AllByRecursion (IsDown k false o a) d → AllByRecursion (IsDown k over o2 a2) d
kept_downs k o o2 a a2 over [] h = tt
kept_downs k o o2 a a2 over (x ∷ d) h =
    (record { stream = h.0.stream; outcome = h.0.outcome; lands = h.0.lands; answer = λ r e. let bad : false ≡ true = (h.0.answer r e).1.0 in cc }, kept_downs k o o2 a a2 over d h.1)

-- THE TURN of work that isn't over, by acts and by what goes down with it.
pub moves : {rules : Rules} {had had2 : ℕ → Bool} {k : ℕ} {o o2 : Origin} {p q : Work} {works works2 : List Act} {ups downs ups2 downs2 : List Flying} {jobs jobs2 : List ActiveJob} (more : List Act) (items down : List Flying) → AtServer rules had k o p works ups jobs downs → is_over p ≡ false
    → IsWithin o2 k → IsWork rules had2 k o2 q → AreItems k items → MayHave o2 items → works_of o2 q ≡ works_of o p ++ more → works2 ≡ works ++ more → ups2 ≡ ups_of q ++ items → jobs2 ≡ jobs_of q → downs2 ≡ downs ++ down → AreDown k o2 q down
    → AtServer rules had2 k o2 q works2 ups2 jobs2 downs2
moves {k = k} {o = o} {o2 = o2} {p = p} {q = q} {downs = downs} more items down s undone within is are may grows hw hu hj hd new =
    let old : AllByRecursion (IsDown k false o (works_of o p)) downs = subst (λ (b : Bool). AllByRecursion (IsDown k b o (works_of o p)) downs) undone s.down in
    record {
      within = within;
      is_work = is;
      works_is = hw ∙ ap (λ xs. xs ++ more) s.works_is ∙ sym grows;
      items = items;
      are_items = are;
      may_have = may;
      ups_is = hu;
      jobs_is = hj;
      down = subst (λ (d : List Flying). AreDown k o2 q d) (sym hd) (all_joined (IsDown k (is_over q) o2 (works_of o2 q)) downs down (kept_downs k o o2 (works_of o p) (works_of o2 q) (is_over q) downs old) new);
    }

-- what goes down stays right once the work is over
done_downs : (k : ℕ) (over : Bool) (o : Origin) (a : List Act) (d : List Flying) → AllByRecursion (IsDown k over o a) d → AllByRecursion (IsDown k true o a) d
done_downs k over o a [] h = tt
done_downs k over o a (x ∷ d) h =
    (record { stream = h.0.stream; outcome = h.0.outcome; lands = h.0.lands; answer = λ r e. let y = h.0.answer r e in (y.0, (refl, y.1.1)) }, done_downs k over o a d h.1)

-- the work so far is a name, or that and a run, or both and an answer
pub is_done : (rules : Rules) (had : ℕ → Bool) (k : ℕ) (b : Birth) (p : Work) → IsWork rules had k (Born b) p → IsDone b (works_of (Born b) p)
is_done rules had k b Idle h = absurd h
is_done rules had k b (Asking x) h = inl refl
is_done rules had k b (Waits j) h = inl refl
is_done rules had k b (Runs j) h = inr (j.id, is_stream j.body, inl refl)
is_done rules had k b (Left j response) h = inr (j.id, is_stream j.body, inr (false, Ok (Some response), refl))
is_done rules had k b (Over done) h = h

-- The work is over, and nothing more was done: no request and no job is left, and what may go down ends no call well.
pub concludes : {rules : Rules} {had : ℕ → Bool} {k : ℕ} {b : Birth} {p : Work} {works : List Act} {ups downs ups2 : List Flying} {jobs jobs2 : List ActiveJob} (items down : List Flying) → AtServer rules had k (Born b) p works ups jobs downs → AreItems k items → MayHave (Born b) items
    → ups2 ≡ items → jobs2 ≡ [] → AllByRecursion (IsNever k) down → AtServer rules had k (Born b) (Over (works_of (Born b) p)) works ups2 jobs2 (downs ++ down)
concludes {rules} {had} {k} {b} {p} {downs = downs} items down s are may hu hj new = record {
  within = s.within;
  is_work = is_done rules had k b p s.is_work;
  works_is = s.works_is;
  items = items;
  are_items = are;
  may_have = may;
  ups_is = hu;
  jobs_is = hj;
  down = all_joined (IsDown k true (Born b) (works_of (Born b) p)) downs down (done_downs k (is_over p) (Born b) (works_of (Born b) p) downs s.down) (never_downs k true (Born b) (works_of (Born b) p) down new);
}

-- ---- mailboxes change

abbrev pub mapped : (ActiveJob → ActiveJob) → Work → Work
mapped g (Waits j) = Waits (g j)
mapped g (Runs j) = Runs (g j)
mapped g (Left j response) = Left (g j) response
mapped g p = p

module _ (g : ActiveJob → ActiveJob) (found : StaysFound g) where
  mapped_job : (rules : Rules) (k : ℕ) (asked : Option Request) (j : ActiveJob) → IsJob rules k asked j → IsJob rules k asked (g j)
  mapped_job rules k asked j h = record { request = found.request j ∙ h.request; stream = ap (λ (x : MessageHeader). x.stream_id) (found.header j) ∙ h.stream; kind = λ sync. found.stream j ∙ h.kind sync }

  mapped_work : (rules : Rules) (had : ℕ → Bool) (k : ℕ) (o : Origin) (p : Work) → IsWork rules had k o p → IsWork rules had k o (mapped g p)
  mapped_work rules had k Unborn p h = ap (mapped g) h
  mapped_work rules had k (Born b) (Waits j) h =
      subst (λ (t : Bool). IsJob rules k (Some (asked_by t (request_of b))) (g j)) (sym (found.stream j)) (mapped_job rules k (Some (asked_by (is_stream j.body) (request_of b))) j h)
  mapped_work rules had k (Born b) (Runs j) h = mapped_job rules k None j h
  mapped_work rules had k (Born b) (Left j response) h = (mapped_job rules k None j h.0, ap had (found.id j) ∙ h.1, found.stream j ∙ h.2)
  mapped_work rules had k (Born b) p h = h

  same_ran : (b : Birth) (j : ActiveJob) → Ran (g j).id (is_stream (g j).body) (asked_by (is_stream (g j).body) (request_of b)) ≡ Ran j.id (is_stream j.body) (asked_by (is_stream j.body) (request_of b))
  same_ran b j = ap (λ (n : ℕ). Ran n (is_stream (g j).body) (asked_by (is_stream (g j).body) (request_of b))) (found.id j) ∙ ap (λ (t : Bool). Ran j.id t (asked_by t (request_of b))) (found.stream j)

  same_works : (o : Origin) (p : Work) → works_of o (mapped g p) ≡ works_of o p
  same_works Unborn p = refl
  same_works (Born b) (Runs j) = ap (λ (a : Act). first_act b ∷ a ∷ []) (same_ran b j)
  same_works (Born b) (Left j response) = ap (λ (a : Act). first_act b ∷ a ∷ Answered false (Ok (Some response)) ∷ []) (same_ran b j)
  same_works (Born b) p = refl

  pub same_over : (p : Work) → is_over (mapped g p) ≡ is_over p
  same_over (Waits j) = refl
  same_over p = refl

  same_ups : (p : Work) → ups_of (mapped g p) ≡ ups_of p
  same_ups (Waits j) = refl
  same_ups p = refl

  same_jobs : (p : Work) → map g (jobs_of p) ≡ jobs_of (mapped g p)
  same_jobs (Waits j) = refl
  same_jobs p = refl

  -- Mailboxes change, and nothing else.
  pub maps : {rules : Rules} {had : ℕ → Bool} {k : ℕ} {o : Origin} {p : Work} {works : List Act} {ups downs : List Flying} {jobs : List ActiveJob} → AtServer rules had k o p works ups jobs downs → AtServer rules had k o (mapped g p) works ups (map g jobs) downs
  maps {rules} {had} {k} {o} {p} s = record {
    within = s.within;
    is_work = mapped_work rules had k o p s.is_work;
    works_is = s.works_is ∙ sym (same_works o p);
    items = s.items;
    are_items = s.are_items;
    may_have = s.may_have;
    ups_is = s.ups_is ∙ ap (λ (xs : List Flying). xs ++ s.items) (sym (same_ups p));
    jobs_is = ap (map g) s.jobs_is ∙ same_jobs p;
    down = rw (same_over p, same_works o p) s.down;
  }

-- ---- what follows

-- work that isn't over has no answer
pub unanswered : (o : Origin) (p : Work) (r : Response) → is_over p ≡ false → IsAnswer o (works_of o p) r → ⊥
unanswered Unborn p r e h = h
unanswered (Born b) (Left j x) r e h = let bad : true ≡ false = e in cc
unanswered (Born b) (Over done) r e h = let bad : true ≡ false = e in cc
unanswered (Born b) p r e h = let bad : works_of (Born b) p ≡ first_act b ∷ Ran h.0 h.1 (asked_by h.1 (request_of b)) ∷ Answered h.1 (Ok (Some r)) ∷ [] = h.2 in cc

-- the calls among these acts are the one that they were done for
abbrev pub calls_of : Birth → List Request
calls_of (ByCall request) = request ∷ []
calls_of (ByOpen request up down) = []

pub begun_calls : (b : Birth) {xs : List Act} → IsDone b xs → calls xs ≡ calls_of b
begun_calls (ByCall q) (inl e) = ap calls e
begun_calls (ByCall q) (inr (job, stream, inl e)) = ap calls e
begun_calls (ByCall q) (inr (job, stream, inr (kind, result, e))) = ap calls e
begun_calls (ByOpen q up down) (inl e) = ap calls e
begun_calls (ByOpen q up down) (inr (job, stream, inl e)) = ap calls e
begun_calls (ByOpen q up down) (inr (job, stream, inr (kind, result, e))) = ap calls e

-- What was done is nothing, or is done for one call or stream.
pub acts_begun : {rules : Rules} {had : ℕ → Bool} {k : ℕ} {o : Origin} {p : Work} {ups downs : List Flying} {jobs : List ActiveJob} (acts : List Act) → AtServer rules had k o p (work acts) ups jobs downs → (work acts ≡ []) ⊎ IsWorkOf (work acts)
acts_begun {o = Unborn} acts s = inl s.works_is
acts_begun {rules = rules} {had = had} {k = k} {o = Born (ByCall q)} {p = p} acts s = inr (subst IsWorkOf (sym s.works_is) (inl (q, is_done rules had k (ByCall q) p s.is_work)))
acts_begun {rules = rules} {had = had} {k = k} {o = Born (ByOpen q up down)} {p = p} acts s = inr (subst IsWorkOf (sym s.works_is) (inr (q, up, down, is_done rules had k (ByOpen q up down) p s.is_work)))

-- who has no call is no call
pub uncalled : {rules : Rules} {had : ℕ → Bool} {k : ℕ} {q : Request} {p : Work} {ups downs : List Flying} {jobs : List ActiveJob} (acts : List Act) → AtServer rules had k (Born (ByCall q)) p (work acts) ups jobs downs → calls acts ≡ [] → ⊥
uncalled {rules} {had} {k} {q} {p} acts s e =
    let bad : q ∷ [] ≡ [] = sym (calls_work acts ∙ ap calls s.works_is ∙ begun_calls (ByCall q) (is_done rules had k (ByCall q) p s.is_work)) ∙ e in
    cc

-- a call has at most its request in flight
pub one_up : {rules : Rules} {had : ℕ → Bool} {k : ℕ} {q : Request} {p : Work} {works : List Act} {ups downs : List Flying} {jobs : List ActiveJob} → AtServer rules had k (Born (ByCall q)) p works ups jobs downs → length ups ≤ 1
one_up {p = Asking x} s = rw (s.ups_is, s.may_have) (omega arith)
one_up {p = p} s = rw (s.ups_is, s.may_have) (omega arith)

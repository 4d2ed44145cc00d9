-- What the headline says of a call whose outcome is Ok: its one job has its own request, if that names a method, and the outcome is
-- what an accepted answer to this job was Ok of.
use Rattle.std.proofs.Common.{◌≡◌, ◌≤◌, ◌∷◌, ◌∙◌, ℕ, List, [], Any, Bool, Contains, Err, None, Ok, Option, Result, Some, ap, arith, codes, false, inl, inr, length, nat_eq, refl, subst, sym, true, unwrap_or}
use Rattle.std.proofs.lemmas.Bool.{eqb-true, eq-eqb}
use Rattle.std.proofs.lemmas.List.Elements.{Contains-append_cases, Contains-append_left, Contains-append_right}
use Rattle.std.specs.List.{AllByRecursion}
use Rattle.std.specs.Result.{result_ok}
use Rattle.ttrpc_proto.specs.declared.error.Error.{Error}
use Rattle.ttrpc_proto.specs.declared.messages.Request.{Request}
use Rattle.ttrpc_proto.specs.declared.messages.Response.{Response}
use Rattle.ttrpc_server.specs.State.{Services, has_method}
use Rattle.ttrpc_server.specs.declared.job.Job.{Job}
use Rattle.ttrpc_world_trace.specs.Told.{HasOkStatus, IsExactlyOnce, asked_by, outcomes}
use Rattle.ttrpc_world_trace.specs.Trace.{Act, Answered, Called, Gave, IsOneToOne, IsRightAt, IsStreamOf, Opened, Ran, act_of, acts, only_if, some_of}
use Rattle.ttrpc_world_trace.specs.declared.events.Entry.{Entry}
use Rattle.ttrpc_world_trace.specs.declared.events.Event.{Event}
use Rattle.ttrpc_world_trace.specs.declared.events.Event.TheVariants.{Answer, Call, EndStream, Open, Outcome, Respond, Take}
use Rattle.ttrpc_world_trace.specs.declared.events.Reply.{Reply}
use Rattle.ttrpc_world_trace.specs.declared.events.Reply.TheVariants.{Done, Handed, Named, Outcome as Given}
use Rattle.health_stub.specs.Report.{AnswersWith, IsCheckCall, WasHanded, WasTold, answered}
use Rattle.health_stub.proofs.Members.{first, first_or_later, later, no_member}

-- ---- members of lists

pub all_at : {X : Type 0} (P : X → Type 0) (xs : List X) (x : X) → AllByRecursion P xs → Contains xs x → P x
all_at P [] x all h = absurd (no_member x h)
all_at P (y ∷ xs) x all h = elim (first_or_later y x xs h) [ inl is ↦ subst P is all.0 | inr rest ↦ all_at P xs x all.1 rest ]

only_member : {X : Type 0} (xs : List X) (x : X) → Contains xs x → length xs ≤ 1 → xs ≡ x ∷ []
only_member [] x h short = absurd (no_member x h)
only_member (y ∷ []) x h short = elim (first_or_later y x [] h) [ inl is ↦ ap (λ z. z ∷ []) is | inr none ↦ absurd (no_member x none) ]
only_member (y ∷ z ∷ xs) x h short = absurd (let no : ⊥ = omega (arith, short) in no)

if_member : {X : Type 0} (b : Bool) (x y : X) → Contains (only_if b x) y → (b ≡ true) × (x ≡ y)
if_member true x y h = elim (first_or_later x y [] h) [ inl is ↦ (refl, is) | inr none ↦ absurd (no_member y none) ]
if_member false x y h = absurd (no_member y h)

gave_in : (xs : List Act) (o : Result Response Error) → Contains xs (Gave o) → Contains (outcomes xs) o
gave_in [] o h = absurd (no_member (Gave o) h)
gave_in (Gave p ∷ xs) o h = elim (first_or_later (Gave p) (Gave o) xs h) [
  | inl is ↦ let same : p ≡ o = cc in subst (Contains (p ∷ outcomes xs)) same (first p (outcomes xs))
  | inr rest ↦ later p o (outcomes xs) (gave_in xs o rest)
]
gave_in (act ∷ xs) o h = elim (first_or_later act (Gave o) xs h) [ inl is ↦ cc | inr rest ↦ gave_in xs o rest ]

-- ---- acts and entries

module _ (f : ℕ → ℕ) (id : ℕ) where
  in_acts : (trace : List Entry) (e : Entry) (a : Act) → Contains trace e → Contains (act_of f id e.event e.reply) a → Contains (acts f id trace) a
  in_acts [] e a h i = absurd (no_member e h)
  in_acts (x ∷ trace) e a h i = elim (first_or_later x e trace h) [
    | inl is ↦ Contains-append_left (act_of f id x.event x.reply) (acts f id trace) a (subst (λ (y : Entry). Contains (act_of f id y.event y.reply) a) (sym is) i)
    | inr rest ↦ Contains-append_right (act_of f id x.event x.reply) (acts f id trace) a (in_acts trace e a rest i)
  ]

  -- the entry of which an act is
  record IsOf (trace : List Entry) (a : Act) : Type 0 where
    e : Entry
    stands : Contains trace e
    is : Contains (act_of f id e.event e.reply) a

  of_entry : (trace : List Entry) (a : Act) → Contains (acts f id trace) a → IsOf trace a
  of_entry [] a h = absurd (no_member a h)
  of_entry (x ∷ trace) a h = elim (Contains-append_cases (act_of f id x.event x.reply) (acts f id trace) a h) [
    | inl one ↦ record { e = x; stands = first x trace; is = one }
    | inr rest ↦ let o = of_entry trace a rest in record { e = o.e; stands = later x o.e trace o.stands; is = o.is }
  ]

  -- an entry of this event and reply
  entry_is : (e : Entry) (event : Event) (reply : Reply) → e.event ≡ event → e.reply ≡ reply → e ≡ record { event = event; reply = reply }
  entry_is e event reply p q = subst (λ (v : Event). e ≡ record { event = v; reply = reply }) p (subst (λ (r : Reply). e ≡ record { event = e.event; reply = r }) q refl)

  -- a run is of a job that was handed out
  record IsRun (event : Event) (reply : Reply) (job : ℕ) (stream : Bool) (request : Request) : Type 0 where
    handed : Job
    event_is : event ≡ Take
    reply_is : reply ≡ Handed (Some handed)
    under : handed.header.stream_id ≡ id
    job_is : handed.id ≡ job
    stream_is : handed.stream ≡ stream
    request_is : handed.request ≡ request

  run_of : (event : Event) (reply : Reply) (job : ℕ) (stream : Bool) (request : Request) → Contains (act_of f id event reply) (Ran job stream request) → IsRun event reply job stream request
  run_of Take (Handed (Some j)) job stream request h =
      let m = if_member (nat_eq j.header.stream_id id) (Ran j.id j.stream j.request) (Ran job stream request) h in
      record { handed = j; event_is = refl; reply_is = refl; under = eqb-true j.header.stream_id id m.0; job_is = (cc m.1); stream_is = (cc m.1); request_is = (cc m.1) }
  run_of (Call r) (Named n) job stream request h = let bad : Called r ≡ Ran job stream request = (if_member (nat_eq n id) _ _ h).1 in cc
  run_of (Open r up down) (Named n) job stream request h = let bad : Opened r up down ≡ Ran job stream request = (if_member (nat_eq n id) _ _ h).1 in cc
  run_of (Outcome n) (Given (Some o)) job stream request h = let bad : Gave o ≡ Ran job stream request = (if_member (nat_eq n id) _ _ h).1 in cc
  run_of (Answer j r) Done job stream request h = let bad : Answered false (some_of r) ≡ Ran job stream request = (if_member (nat_eq (f j) id) _ _ h).1 in cc
  run_of (Respond j r) Done job stream request h = let bad : Answered false (Ok (Some r)) ≡ Ran job stream request = (if_member (nat_eq (f j) id) _ _ h).1 in cc
  run_of (EndStream j r) Done job stream request h = let bad : Answered true r ≡ Ran job stream request = (if_member (nat_eq (f j) id) _ _ h).1 in cc
  run_of event reply job stream request h = absurd (no_member _ h)

  -- an answer that is Ok of a response, of a job under this id
  IsAnswered : Event → Reply → Response → Type 0
  IsAnswered event reply r = (job : ℕ) × (f job ≡ id) × (answered event reply ≡ Some (job, Some r))

  ok_of : (given : Result Response Error) (r : Response) → some_of given ≡ Ok (Some r) → result_ok given ≡ Some r
  ok_of (Ok x) r is = cc
  ok_of (Err e) r is = cc

  answer_of : (event : Event) (reply : Reply) (stream : Bool) (r : Response) → Contains (act_of f id event reply) (Answered stream (Ok (Some r))) → IsAnswered event reply r
  unfolding IsAnswered
  answer_of (Answer j given) Done stream r h =
      let m = if_member (nat_eq (f j) id) (Answered false (some_of given)) (Answered stream (Ok (Some r))) h in
      let same : some_of given ≡ Ok (Some r) = cc m.1 in
      (j, eqb-true (f j) id m.0, ap (λ (x : Option Response). Some (j, x)) (ok_of given r same))
  answer_of (Respond j given) Done stream r h =
      let m = if_member (nat_eq (f j) id) (Answered false (Ok (Some given))) (Answered stream (Ok (Some r))) h in
      let same : given ≡ r = cc m.1 in
      (j, eqb-true (f j) id m.0, ap (λ (x : Response). Some (j, Some x)) same)
  answer_of (EndStream j given) Done stream r h =
      let m = if_member (nat_eq (f j) id) (Answered true given) (Answered stream (Ok (Some r))) h in
      let same : given ≡ Ok (Some r) = cc m.1 in
      (j, eqb-true (f j) id m.0, ap (λ (x : Result (Option Response) Error). Some (j, unwrap_or (result_ok x) None)) same)
  answer_of (Call q) (Named n) stream r h = let bad : Called q ≡ Answered stream (Ok (Some r)) = (if_member (nat_eq n id) _ _ h).1 in cc
  answer_of (Open q up down) (Named n) stream r h = let bad : Opened q up down ≡ Answered stream (Ok (Some r)) = (if_member (nat_eq n id) _ _ h).1 in cc
  answer_of (Outcome n) (Given (Some o)) stream r h = let bad : Gave o ≡ Answered stream (Ok (Some r)) = (if_member (nat_eq n id) _ _ h).1 in cc
  answer_of Take (Handed (Some j)) stream r h = let bad : Ran j.id j.stream j.request ≡ Answered stream (Ok (Some r)) = (if_member (nat_eq j.header.stream_id id) _ _ h).1 in cc
  answer_of event reply stream r h = absurd (no_member _ h)

-- ---- one call

called_is : (p q : Request) (job : ℕ) (stream : Bool) (asked : Request) (r : Response) → Contains (Called p ∷ Ran job stream asked ∷ Answered stream (Ok (Some r)) ∷ Gave (Ok r) ∷ []) (Called q) → p ≡ q
called_is p q job stream asked r h =
    let ran : Act = Ran job stream asked in
    let answer : Act = Answered stream (Ok (Some r)) in
    let gave : Act = Gave (Ok r) in
    elim (first_or_later (Called p) (Called q) (ran ∷ answer ∷ gave ∷ []) h) [
      | inl is ↦ cc
      | inr h2 ↦ elim (first_or_later ran (Called q) (answer ∷ gave ∷ []) h2) [
        | inl is ↦ cc
        | inr h3 ↦ elim (first_or_later answer (Called q) (gave ∷ []) h3) [
          | inl is ↦ cc
          | inr h4 ↦ elim (first_or_later gave (Called q) [] h4) [ inl is ↦ cc | inr none ↦ absurd (no_member (Called q) none) ]
        ]
      ]
    ]

-- a job of one response has the call's request
own_request : (stream : Bool) (q : Request) → stream ≡ false → asked_by stream q ≡ q
own_request true q is = cc
own_request false q is = refl

named_alike : (services : Services) (stream : Bool) (q : Request) → has_method services (asked_by stream q).service (asked_by stream q).method ≡ has_method services q.service q.method
named_alike services true q = refl
named_alike services false q = refl

-- WHAT AN OK OUTCOME IS: there is a job that was handed out, of the call's own request, and an accepted answer to it was Ok of this
-- response, which has an OK status.
pub record IsOwn (trace : List Entry) (request : Request) (r : Response) : Type 0 where
  pub job : Job
  pub handed : WasHanded trace job
  pub request_is : job.request ≡ request
  pub answers : Any (AnswersWith job.id (Some r)) trace
  pub ok : HasOkStatus r.status

-- no job that was handed out for a request of a method is a stream's
abbrev pub AreOfMethods : Services → List Entry → Type 0
AreOfMethods services trace = (job : Job) → WasHanded trace job → has_method services job.request.service job.request.method ≡ true → job.stream ≡ false

pub own : (services : Services) (f : ℕ → ℕ) (trace : List Entry) (id : ℕ) (request : Request) (r : Response) → IsStreamOf f trace → IsOneToOne f → IsExactlyOnce (acts f id trace) → AreOfMethods services trace
    → has_method services (codes "demo.Health") (codes "Check") ≡ true → IsCheckCall trace id request → WasTold trace id r → IsOwn trace request r
unfolding IsAnswered
own services f trace id request r agrees one_to_one once named is_method call told =
    let xs : List Act = acts f id trace in
    let here : nat_eq id id ≡ true = eq-eqb id id refl in
    let gave : Contains xs (Gave (Ok r)) = in_acts f id trace (record { event = Outcome id; reply = Given (Some (Ok r)) }) (Gave (Ok r)) told (rw here (first (Gave (Ok r)) [])) in
    let called : Contains xs (Called request) = in_acts f id trace (record { event = Call request; reply = Named id }) (Called request) call.called (rw here (first (Called request) [])) in
    let whole = once.whole r (only_member (outcomes xs) (Ok r) (gave_in xs (Ok r) gave) once.one_outcome) in
    let p = whole.1.0 in
    let job = whole.1.1 in
    let stream = whole.1.2 in
    let shape = whole.1.3 in
    let same : p ≡ request = called_is p request job stream (asked_by stream p) r (subst (λ (ys : List Act). Contains ys (Called request)) shape called) in
    let ran_act : Act = Ran job stream (asked_by stream p) in
    let answer_act : Act = Answered stream (Ok (Some r)) in
    let rest : List Act = Gave (Ok r) ∷ [] in
    let ran : Contains xs ran_act = subst (λ (ys : List Act). Contains ys ran_act) (sym shape) (later (Called p) ran_act (ran_act ∷ answer_act ∷ rest) (first ran_act (answer_act ∷ rest))) in
    let answer : Contains xs answer_act =
    subst (λ (ys : List Act). Contains ys answer_act) (sym shape) (later (Called p) answer_act (ran_act ∷ answer_act ∷ rest) (later ran_act answer_act (answer_act ∷ rest) (first answer_act rest))) in
    let run_at = of_entry f id trace ran_act ran in
    let run = run_of f id run_at.e.event run_at.e.reply job stream (asked_by stream p) run_at.is in
    let is_take : run_at.e ≡ record { event = Take; reply = Handed (Some run.handed) } = entry_is f id run_at.e Take (Handed (Some run.handed)) run.event_is run.reply_is in
    let handed : WasHanded trace run.handed = subst (λ (e : Entry). Contains trace e) is_take run_at.stands in
    let answer_at = of_entry f id trace answer_act answer in
    let a = answer_of f id answer_at.e.event answer_at.e.reply stream r answer_at.is in
    let method : has_method services run.handed.request.service run.handed.request.method ≡ true =
    ap (λ (q : Request). has_method services q.service q.method) run.request_is ∙ named_alike services stream p ∙ ap (λ (q : Request). has_method services q.service q.method) same
    ∙ ap (λ (n : List ℕ). has_method services n request.method) call.is_check.service ∙ ap (λ (n : List ℕ). has_method services (codes "demo.Health") n) call.is_check.method ∙ is_method in
    let no_stream : stream ≡ false = sym run.stream_is ∙ named run.handed handed method in
    let job_is : a.0 ≡ run.handed.id = one_to_one a.0 run.handed.id (a.1 ∙ sym run.under ∙ sym (all_at (λ (e : Entry). IsRightAt f e.event e.reply) trace (record { event = Take; reply = Handed (Some run.handed) }) agrees handed)) in
    record {
      job = run.handed;
      handed = handed;
      request_is = run.request_is ∙ own_request stream p no_stream ∙ same;
      answers = (answer_at.stands.0, answer_at.e, answer_at.stands.1, answer_at.stands.2, a.2 ∙ ap (λ (j : ℕ). Some (j, Some r)) job_is);
      ok = whole.0;
    }

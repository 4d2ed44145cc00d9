-- The client's side of one id: what it keeps of the call or stream, and what it gave. Of the acts it reads the outcomes, and
-- whether the others are an answer; it knows no frame and no job.
use Rattle.ttrpc_world_trace.proofs.StoryWords.{◌++◌, ◌∙◌, ◌∷◌, ◌≡◌, ◌≤◌, ◌⊎◌, ℕ, ℤ, [], Act, all_work, Answered, ap, append-nil, arith, asked_by, Bool, by_code, by_status, CallState, Called, Ended, Err, Error, expired_at, Expired, Failure, false, Gave, gave_of, Gives, GivesOutcome, HasOkStatus, if◌then◌else◌, inl, inr, is_due, is_ok_code, is_some, LandsOn, left_of, length, List, None, Ok, Option, outcomes, outcomes_append, pos, Ran, refl, Request, Response, Result, Some, StreamState, subst, sym, TellsOutcome, true, Waiting, work}
use Rattle.std.proofs.Common.{zero}
use Rattle.ttrpc_proto.specs.declared.error.Error.TheVariants.{RpcStatus}
use Rattle.ttrpc_proto.specs.declared.messages.Status.{Status}
use Rattle.ttrpc_world_trace.proofs.Here.{Birth, Born, ByCall, ByOpen, first_act, IsAnswer, Origin, Unborn}

-- the whole story of a call of this request whose outcome was given, and is this response
abbrev pub IsWhole : Request → List Act → Response → Type 0
IsWhole q a r = HasOkStatus r.status × ((job : ℕ) × (stream : Bool) × (a ≡ Called q ∷ Ran job stream (asked_by stream q) ∷ Answered stream (Ok (Some r)) ∷ Gave (Ok r) ∷ []))

-- its acts but the outcome are the answer
abbrev IsAnswered : Request → List Act → Response → Type 0
IsAnswered q a r = IsAnswer (Born (ByCall q)) a r

-- what was given: nothing, an error, or the answer of the one run
abbrev pub Given : Request → List Act → Type 0
Given q a = (outcomes a ≡ []) ⊎ (((e : Error) × (outcomes a ≡ Err e ∷ [])) ⊎ ((r : Response) × IsWhole q a r))

-- what is kept of a call says of its acts: before its outcome is given there is none, and one that is Ok is the answer
abbrev pub Keeps : Request → List Act → Option CallState → Type 0
Keeps q a None = Given q a
Keeps q a (Some (Ended (Ok r))) = (outcomes a ≡ []) × (HasOkStatus r.status × IsAnswered q (work a) r)
Keeps q a (Some call) = outcomes a ≡ []

-- THE CLIENT'S SIDE: of a call it keeps no stream, and of a stream no call.
abbrev pub AtClient : Origin → List Act → Option CallState → Option StreamState → Type 0
AtClient Unborn a e st = (e ≡ None) × (st ≡ None) × (outcomes a ≡ [])
AtClient (Born (ByCall q)) a e st = Keeps q a e × (st ≡ None)
AtClient (Born (ByOpen q up down)) a e st = (e ≡ None) × (outcomes a ≡ [])

-- ---- acts that give no outcome

quiet : (a more : List Act) → outcomes more ≡ [] → outcomes (a ++ more) ≡ outcomes a
quiet a more h = outcomes_append a more ∙ ap (λ xs. outcomes a ++ xs) h ∙ append-nil (outcomes a)

grows_kept : (q : Request) (a more : List Act) (e : Option CallState) → outcomes more ≡ [] → ((r : Response) → IsAnswered q (work a) r → ⊥) → Keeps q a e → Keeps q (a ++ more) e
grows_kept q a more None h never (inl k) = inl (quiet a more h ∙ k)
grows_kept q a more None h never (inr (inl k)) = inr (inl (k.0, quiet a more h ∙ k.1))
grows_kept q a more None h never (inr (inr k)) = absurd (never k.0 (k.1.1.0, k.1.1.1, ap work k.1.1.2))
grows_kept q a more (Some (Ended (Ok r))) h never k = absurd (never r k.1.1)
grows_kept q a more (Some call) h never k = quiet a more h ∙ k

-- Acts grow, where they are no answer yet.
pub grows : (o : Origin) (a more : List Act) (e : Option CallState) (st : Option StreamState) → outcomes more ≡ [] → ((r : Response) → IsAnswer o (work a) r → ⊥) → AtClient o a e st → AtClient o (a ++ more) e st
grows Unborn a more e st h never k = (k.0, k.1, quiet a more h ∙ k.2)
grows (Born (ByCall q)) a more e st h never k = (grows_kept q a more e h never k.0, k.1)
grows (Born (ByOpen q up down)) a more e st h never k = (k.0, quiet a more h ∙ k.1)

-- what is kept once the id is used: the call, which waits, or the stream alone
abbrev pub IsBegun : Birth → Option CallState → Option StreamState → Type 0
IsBegun (ByCall q) e st = ((deadline : Option ℕ) × (e ≡ Some (Waiting deadline))) × (st ≡ None)
IsBegun (ByOpen q up down) e st = e ≡ None

-- The id is used.
pub begins : (b : Birth) (a : List Act) (e e2 : Option CallState) (st st2 : Option StreamState) → IsBegun b e2 st2 → AtClient Unborn a e st → AtClient (Born b) (a ++ first_act b ∷ []) e2 st2
begins (ByCall q) a e e2 st st2 is k =
    (subst (λ (x : Option CallState). Keeps q (a ++ Called q ∷ []) x) (sym is.0.1) (quiet a (Called q ∷ []) refl ∙ k.2), is.1)
begins (ByOpen q up down) a e e2 st st2 is k = (is, quiet a (first_act (ByOpen q up down) ∷ []) refl ∙ k.2)

-- ---- a frame lands

-- a response is an outcome that is Ok, or none that is
code_cases : (code : ℤ) (s : Status) (r : Response) → ((is_ok_code code ≡ true) × (by_code code s r ≡ Ok r)) ⊎ ((e : Error) × (by_code code s r ≡ Err e))
code_cases (pos zero) s r = inl (refl, refl)
code_cases code s r = inr (RpcStatus s, refl)

pub status_cases : (status : Option Status) (r : Response) → (HasOkStatus status × (by_status status r ≡ Ok r)) ⊎ ((e : Error) × (by_status status r ≡ Err e))
status_cases None r = inl (tt, refl)
status_cases (Some s) r = code_cases s.code s r

-- an outcome says: if it is Ok, it has such a status, and the acts are its answer
abbrev pub IsOutcomeOf : Origin → List Act → Result Response Error → Type 0
IsOutcomeOf o a outcome = (r : Response) → outcome ≡ Ok r → HasOkStatus r.status × IsAnswer o a r

ends_by : (q : Request) (a : List Act) (outcome : Result Response Error) → outcomes a ≡ [] → IsOutcomeOf (Born (ByCall q)) (work a) outcome → Keeps q a (Some (Ended outcome))
ends_by q a (Ok r) none answer = (none, answer r refl)
ends_by q a (Err e) none answer = none

lands_kept : (q : Request) (a : List Act) (outcome : Result Response Error) (e e2 : Option CallState) → IsOutcomeOf (Born (ByCall q)) (work a) outcome → LandsOn (Gives outcome) e e2 → Keeps q a e → Keeps q a e2
lands_kept q a outcome (Some (Waiting deadline)) e2 answer l k =
    let given : (o : Result Response Error) × (o ≡ outcome) × (e2 ≡ Some (Ended o)) = l in
    subst (λ (z : Option CallState). Keeps q a z) (sym (given.2 ∙ ap (λ (o : Result Response Error). Some (Ended o)) given.1)) (ends_by q a outcome k answer)
lands_kept q a outcome e e2 answer l k = subst (λ (z : Option CallState). Keeps q a z) (sym l) k

-- A frame lands: a call that waits takes its outcome, and anything else ignores it.
pub lands : (o : Origin) (a : List Act) (outcome : Result Response Error) (e e2 : Option CallState) (st st2 : Option StreamState) → IsOutcomeOf o (work a) outcome → LandsOn (Gives outcome) e e2 → (st ≡ None → st2 ≡ None)
    → AtClient o a e st → AtClient o a e2 st2
lands Unborn a outcome e e2 st st2 answer l none k = (subst (λ (z : Option CallState). LandsOn (Gives outcome) z e2) k.0 l, none k.1, k.2)
lands (Born (ByCall q)) a outcome e e2 st st2 answer l none k = (lands_kept q a outcome e e2 answer l k.0, none k.1)
lands (Born (ByOpen q up down)) a outcome e e2 st st2 answer l none k = (subst (λ (z : Option CallState). LandsOn (Gives outcome) z e2) k.0 l, k.1)

-- What is kept of a stream changes.
pub streams : (o : Origin) (a : List Act) (e : Option CallState) (st st2 : Option StreamState) → (st ≡ None → st2 ≡ None) → AtClient o a e st → AtClient o a e st2
streams Unborn a e st st2 none k = (k.0, none k.1, k.2)
streams (Born (ByCall q)) a e st st2 none k = (k.0, none k.1)
streams (Born (ByOpen q up down)) a e st st2 none k = k

-- ---- outcomes

given_kept : (q : Request) (a : List Act) (e : Option CallState) → Keeps q a e → Given q a
given_kept q a None k = k
given_kept q a (Some (Ended (Ok r))) k = inl k.0
given_kept q a (Some call) k = inl k

-- an error was given
gives_error : (q : Request) (a : List Act) (x : Error) → outcomes a ≡ [] → Given q (a ++ Gave (Err x) ∷ [])
gives_error q a x none = inr (inl (x, outcomes_append a (Gave (Err x) ∷ []) ∙ ap (λ xs. xs ++ Err x ∷ []) none))

-- what was told is given, and nothing is kept
tells : (q : Request) (a : List Act) (error : Error) (given : Option (Result Response Error)) → outcomes a ≡ [] → TellsOutcome error given → Given q (a ++ gave_of given)
tells q a error given none t = subst (λ (g : Option (Result Response Error)). Given q (a ++ gave_of g)) (sym t.2) (gives_error q a t.0 none)

-- the outcome that was kept is given
gives_ended : (q : Request) (a : List Act) (o : Result Response Error) → Keeps q a (Some (Ended o)) → Given q (a ++ Gave o ∷ [])
gives_ended q a (Ok r) k = inr (inr (r, (k.1.0, (k.1.1.0, k.1.1.1, ap (λ (xs : List Act). xs ++ Gave (Ok r) ∷ []) (all_work a k.0 ∙ k.1.1.2)))))
gives_ended q a (Err x) k = gives_error q a x k

gives_nothing : (q : Request) (a : List Act) (e : Option CallState) (given : Option (Result Response Error)) → given ≡ None → Keeps q a e → Keeps q (a ++ gave_of given) e
gives_nothing q a e given none k =
    subst (λ (g : Option (Result Response Error)). Keeps q (a ++ gave_of g) e) (sym none) (subst (λ (b : List Act). Keeps q b e) (sym (append-nil a)) k)

asks_kept : (q : Request) (a : List Act) (failure : Option Failure) (e : Option CallState) (given : Option (Result Response Error)) → GivesOutcome failure e given → Keeps q a e → Keeps q (a ++ gave_of given) (left_of (is_some failure) e)
asks_kept q a failure None given g k = gives_nothing q a None given g k
asks_kept q a None (Some (Waiting deadline)) given g k = gives_nothing q a (Some (Waiting deadline)) given g k
asks_kept q a (Some why) (Some (Waiting deadline)) given g k = tells q a _ given k g
asks_kept q a failure (Some Expired) given g k = tells q a _ given k g
asks_kept q a failure (Some (Ended o)) given g k = subst (λ (x : Option (Result Response Error)). Given q (a ++ gave_of x)) (sym g) (gives_ended q a o k)

none_asked : (a : List Act) (failed : Bool) (e : Option CallState) (given : Option (Result Response Error)) → e ≡ None → given ≡ None → outcomes a ≡ [] → (left_of failed e ≡ None) × (outcomes (a ++ gave_of given) ≡ [])
none_asked a failed e given gone none k = (ap (left_of failed) gone, ap (λ (g : Option (Result Response Error)). outcomes (a ++ gave_of g)) none ∙ ap outcomes (append-nil a) ∙ k)

-- The outcome is asked for.
pub asks : (o : Origin) (a : List Act) (failure : Option Failure) (e : Option CallState) (st : Option StreamState) (given : Option (Result Response Error)) → GivesOutcome failure e given → AtClient o a e st
    → AtClient o (a ++ gave_of given) (left_of (is_some failure) e) st
asks Unborn a failure e st given g k = let n = none_asked a (is_some failure) e given k.0 (subst (λ (z : Option CallState). GivesOutcome failure z given) k.0 g) k.2 in (n.0, k.1, n.1)
asks (Born (ByCall q)) a failure e st given g k = (asks_kept q a failure e given g k.0, k.1)
asks (Born (ByOpen q up down)) a failure e st given g k = none_asked a (is_some failure) e given k.0 (subst (λ (z : Option CallState). GivesOutcome failure z given) k.0 g) k.1

-- ---- calls that expire or are dropped

due_kept : (q : Request) (a : List Act) (due : Bool) (c : CallState) → Keeps q a (Some c) → Keeps q a (Some (if due then Expired else c))
due_kept q a false c k = k
due_kept q a true (Ended (Ok r)) k = k.0
due_kept q a true c k = k

expires_kept : (q : Request) (a : List Act) (now : ℕ) (e : Option CallState) → Keeps q a e → Keeps q a (expired_at now e)
expires_kept q a now None k = k
expires_kept q a now (Some c) k = due_kept q a (is_due now c) c k

-- It expires, if it is due.
pub expires : (o : Origin) (a : List Act) (now : ℕ) (e : Option CallState) (st : Option StreamState) → AtClient o a e st → AtClient o a (expired_at now e) st
expires Unborn a now e st k = (ap (expired_at now) k.0, k.1, k.2)
expires (Born (ByCall q)) a now e st k = (expires_kept q a now e k.0, k.1)
expires (Born (ByOpen q up down)) a now e st k = (ap (expired_at now) k.0, k.1)

-- It is forgotten.
pub forgets : (o : Origin) (a : List Act) (e : Option CallState) (st : Option StreamState) → AtClient o a e st → AtClient o a None st
forgets Unborn a e st k = (refl, k.1, k.2)
forgets (Born (ByCall q)) a e st k = (given_kept q a e k.0, k.1)
forgets (Born (ByOpen q up down)) a e st k = (refl, k.1)

-- ---- what was given, at the end

one_given : (q : Request) (a : List Act) → Given q a → length (outcomes a) ≤ 1
one_given q a (inl h) = rw h (omega arith)
one_given q a (inr (inl h)) = rw h.1 (omega arith)
one_given q a (inr (inr h)) = let e = h.1.1.2 in rw e (omega arith)

whole_of : (q : Request) (a : List Act) (r : Response) → Given q a → outcomes a ≡ Ok r ∷ [] → IsWhole q a r
whole_of q a r (inl h) g = let bad : [] ≡ Ok r ∷ [] = sym h ∙ g in cc
whole_of q a r (inr (inl h)) g = let bad : Err h.0 ∷ [] ≡ Ok r ∷ [] = sym h.1 ∙ g in cc
whole_of q a r (inr (inr h)) g =
    let same : Ok h.0 ∷ [] ≡ Ok r ∷ [] = sym (ap outcomes h.1.1.2) ∙ g in
    let e : h.0 ≡ r = cc in
    subst (λ (x : Response). IsWhole q a x) e h.1

pub one_outcome : (o : Origin) (a : List Act) (e : Option CallState) (st : Option StreamState) → AtClient o a e st → length (outcomes a) ≤ 1
one_outcome Unborn a e st k = rw k.2 (omega arith)
one_outcome (Born (ByCall q)) a e st k = one_given q a (given_kept q a e k.0)
one_outcome (Born (ByOpen q up down)) a e st k = rw k.1 (omega arith)

-- the whole story of a call, some request's
abbrev pub IsSomeWhole : List Act → Response → Type 0
IsSomeWhole a r = HasOkStatus r.status × ((q : Request) × (job : ℕ) × (stream : Bool) × (a ≡ Called q ∷ Ran job stream (asked_by stream q) ∷ Answered stream (Ok (Some r)) ∷ Gave (Ok r) ∷ []))

none_given : (a : List Act) (r : Response) → outcomes a ≡ [] → outcomes a ≡ Ok r ∷ [] → IsSomeWhole a r
none_given a r none g = let bad : [] ≡ Ok r ∷ [] = sym none ∙ g in cc

pub whole_given : (o : Origin) (a : List Act) (e : Option CallState) (st : Option StreamState) (r : Response) → AtClient o a e st → outcomes a ≡ Ok r ∷ [] → IsSomeWhole a r
whole_given Unborn a e st r k g = none_given a r k.2 g
whole_given (Born (ByCall q)) a e st r k g = let w = whole_of q a r (given_kept q a e k.0) g in (w.0, (q, w.1.0, w.1.1, w.1.2))
whole_given (Born (ByOpen q up down)) a e st r k g = none_given a r k.1 g

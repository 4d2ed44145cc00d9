-- What each event does to what is tidy of one id, in a clean run.
use Rattle.ttrpc_world_trace.proofs.StoryWords.{[], Act, ActiveJob, Answered, CallState, asked_by, Bool, Error, Failure, false, Flying, gave_of, GivesOutcome, is_some, is_stream, call_result_of, LandsOn, left_of, List, None, Ok, OpenedPayload, Option, outcomes, Response, Result, Some, subst, sym, SyncRules, true, work, ℕ, ◌++◌, ◌∙◌, ◌∷◌, ◌≡◌, inl, inr}
use Rattle.ttrpc_world_trace.proofs.Here.{answered_work, Birth, Born, ByCall, ByOpen, Here, Left, no_cons, Origin, Over, Runs, Unborn, Waits, Work, works_of}
use Rattle.ttrpc_world_trace.proofs.Tidy.{down_none, IsAnsweredCall, IsSentBack, MayGo, never_gone, ran_gone, Tidy, tidy_answers, tidy_asked, tidy_lands, tidy_taken}
use Rattle.ttrpc_world_trace.proofs.Place.{Around, Holds, InRest, InRun, InWait, Settings, TidyOf, work_in}

-- it is handed out
pub taken_tidy : (set : Settings) (b : Birth) (job : ActiveJob) (x : Act) (a : List Act) (d : List Flying) (e : Option CallState) → outcomes (x ∷ []) ≡ [] → TidyOf set (Born b) (Waits job) a d e → TidyOf set (Born b) (Runs (record job { request = None })) (a ++ x ∷ []) d e
taken_tidy set (ByCall q) job x a d e none t = λ method. tidy_taken x none (t method)
taken_tidy set (ByOpen q up down) job x a d e none t = tt

-- a job of one response is answered as one, and the response that is told so goes down
abbrev pub IsAnsweredBy : Settings → ActiveJob → Bool → Result (Option Response) Error → List Flying → Type 0
IsAnsweredBy set job kind result down = is_stream job.body ≡ false → (kind ≡ false) × IsSentBack set.rules set.limit result down

pub answered_tidy : (set : Settings) (b : Birth) (job : ActiveJob) (kind : Bool) (result : Result (Option Response) Error) (down : List Flying) (a : List Act) (d : List Flying) (e : Option CallState) → IsAnsweredBy set job kind result down → work a ≡ works_of (Born b) (Runs job)
    → TidyOf set (Born b) (Runs job) a d e → TidyOf set (Born b) (Over (answered_work b job kind result)) (a ++ Answered kind result ∷ []) (d ++ down) e
answered_tidy set (ByCall q) job kind result down a d e by works t = λ method.
    let s = by (t method).unary in
    inl (subst (λ (c : Bool). IsAnsweredCall set.rules set.limit q (a ++ Answered c result ∷ []) (d ++ down) e) (sym s.0) (tidy_answers set.rules set.limit q job a d e result down (t method) works s.1))
answered_tidy set (ByOpen q up down_) job kind result down a d e by works t = tt

-- a response is queued for it, and it goes on: under sync rules
pub responded_tidy : (set : Settings) (b : Birth) (job : ActiveJob) (response : Response) (down : List Flying) (a : List Act) (d : List Flying) (e : Option CallState) → set.rules ≡ SyncRules → IsAnsweredBy set job false (Ok (Some response)) down → work a ≡ works_of (Born b) (Runs job)
    → TidyOf set (Born b) (Runs job) a d e → TidyOf set (Born b) (Left job response) (a ++ Answered false (Ok (Some response)) ∷ []) (d ++ down) e
responded_tidy set (ByCall q) job response down a d e sync by works t = λ method.
    let o = t method in
    (tidy_answers set.rules set.limit q job a d e (Ok (Some response)) down o works (by o.unary).1, o.untimed sync)
responded_tidy set (ByOpen q up down_) job response down a d e sync by works t = tt

-- it is gone
pub gone_tidy : {w : Around} {k : ℕ} {h : Here} (b : Birth) (job : ActiveJob) (down : List Flying) (x : Holds w k h b job) → MayGo down h.call job
    → TidyOf w.set (Born b) (work_in x) h.acts h.downs h.call → TidyOf w.set (Born b) (Over (works_of (Born b) (work_in x))) h.acts (h.downs ++ down) h.call
gone_tidy (ByCall q) job down (InWait n) (inl f) t = let bad : None ≡ Some (asked_by (is_stream job.body) q) = sym f.1 ∙ n.server.is_work.request in cc
gone_tidy (ByCall q) job down (InWait n) (inr f) t = λ method. absurd (never_gone job f (t method))
gone_tidy (ByCall q) job down (InRun n) (inl f) t = λ method. inr (ran_gone q job down f.0 (t method))
gone_tidy (ByCall q) job down (InRun n) (inr f) t = λ method. absurd (never_gone job f (t method))
gone_tidy {w} {h = h} (ByCall q) job down (InRest response n) (inl f) t = λ method. inl (down_none (λ d. IsAnsweredCall w.set.rules w.set.limit q h.acts d h.call) f.0 (t method).0)
gone_tidy (ByCall q) job down (InRest response n) (inr f) t = λ method. absurd (f.0 (t method).1)
gone_tidy (ByOpen q up down_) job down x may t = tt

-- a stream's job is no method's
pub stream_tidy : {w : Around} {k : ℕ} {h : Here} (b : Birth) (job : ActiveJob) (q : Work) (d : List Flying) (x : Holds w k h b job) → is_stream job.body ≡ true → TidyOf w.set (Born b) (work_in x) h.acts h.downs h.call → TidyOf w.set (Born b) q h.acts d h.call
stream_tidy (ByCall r) job q d (InWait n) stream t = λ method. let bad : false ≡ true = sym (t method).unary ∙ stream in cc
stream_tidy (ByCall r) job q d (InRun n) stream t = λ method. let bad : false ≡ true = sym (t method).unary ∙ stream in cc
stream_tidy (ByCall r) job q d (InRest response n) stream t = let bad : true ≡ false = sym stream ∙ n.server.is_work.2 in cc
stream_tidy (ByOpen r up down) job q d x stream t = tt

-- a frame lands
pub landed_tidy : (set : Settings) (o : Origin) (p : Work) (a : List Act) (e e2 : Option CallState) (x : Flying) (ds d : List Flying) → ds ≡ x ∷ d → LandsOn (call_result_of x.frame.message.header (OpenedPayload x.plain)) e e2 → TidyOf set o p a ds e → TidyOf set o p a d e2
landed_tidy set Unborn p a e e2 x ds d was on t = absurd (no_cons x d (sym was ∙ t))
landed_tidy set (Born (ByCall q)) p a e e2 x ds d was on t = λ method. tidy_lands set.rules set.limit q p a e e2 x ds d was on (t method)
landed_tidy set (Born (ByOpen q up down)) p a e e2 x ds d was on t = tt

-- its outcome is asked for
pub asked_tidy : (set : Settings) (o : Origin) (p : Work) (a : List Act) (d : List Flying) (e : Option CallState) (failure : Option Failure) (given : Option (Result Response Error)) → failure ≡ None → GivesOutcome failure e given → TidyOf set o p a d e
    → TidyOf set o p (a ++ gave_of given) d (left_of (is_some failure) e)
asked_tidy set Unborn p a d e failure given alive g t = t
asked_tidy set (Born (ByCall q)) p a d e failure given alive g t = λ method.
    subst (λ (x : Option Failure). Tidy set.rules set.limit q p (a ++ gave_of given) d (left_of (is_some x) e)) (sym alive) (tidy_asked set.rules set.limit q p a d e given (subst (λ (x : Option Failure). GivesOutcome x e given) alive g) (t method))
asked_tidy set (Born (ByOpen q up down)) p a d e failure given alive g t = tt

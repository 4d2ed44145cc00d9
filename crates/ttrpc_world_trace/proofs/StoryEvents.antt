-- What each event does to one id: to a job of it, at the client, and to the items of both receivers.
use Rattle.ttrpc_world_trace.proofs.StoryWords.{[], Act, CallState, ActiveJob, all_joined, AllByRecursion, Answered, ap, append-nil, append_assoc, AreInOrder, arith, asked_by, Bool, calls, closed, Dropped, EndedDown, ending_thing, Err, Error, expired_at, Failure, false, Flow, Flying, gave_of, Gives, GivesOutcome, heard_down, heard_up, HeardDown, HeardUp, is_entered, is_some, is_stream, IsExactlyOnce, LandsOn, last_id, left_of, length, List, Mail, map, None, Ok, OpenedPayload, Option, outcomes, put_down, put_up, Ran, Reaches, Receiver, Receives, ReceivesAt, refl, Request, Response, Result, Rules, Sender, SenderDropped, SentDown, Some, StaysFound, StreamState, StreamBody, subst, sym, SyncRules, taken, MailboxEntry, ThingEnd, ThingItem, ThingLast, told_of, true, unless_dropped, unless_unheard, unsendable, without_reader, without_receiver, without_sender, Word, words_of, work, work_append, ℕ, ◌++◌, ◌∙◌, ◌∷◌, ◌≡◌, ◌≤◌, SentUp, ClosedUp, inl, inr, heard_down_append, heard_up_append, put_down_append, put_up_append}
use Rattle.ttrpc_world_trace.proofs.Here.{answered_work, Birth, Born, ByCall, ByOpen, first_act, Here, IsAnswer, jobs_of, Left, never_empty, only_one, Origin, Over, request_of, Runs, Unborn, ups_of, Waits, Work, works_of}
use Rattle.ttrpc_world_trace.proofs.AtServer.{acts_begun, AtServer, goes_on, is_over, IsDown, IsItem, IsNever, mapped, never_down, one_up, uncalled}
use Rattle.ttrpc_world_trace.proofs.AtClient.{whole_given}
use Rattle.ttrpc_world_trace.proofs.Reading.{closed_item, IsPlain}
use Rattle.ttrpc_world_trace.proofs.Flowing.{Follows, IsPlainFailure}
use Rattle.ttrpc_world_trace.proofs.Upward.{box_up, gone_mail, IsDeaf, IsFit, thing_up, up_order}
use Rattle.ttrpc_world_trace.proofs.Downward.{box_down, down_order, Goes, IsSentAs, IsTurned, wants}
use Rattle.ttrpc_world_trace.proofs.Place.{Around, concludes_here, down_as, DownOf, flows_grow, flows_stay, Holds, InRest, InRun, InWait, Known, known_in, Later, maps_here, only_in, Place, Settings, TidyOf, turned, turns, unchanged, up_as, UpOf, work_in}
use Rattle.ttrpc_world_trace.proofs.AtClient as client
use Rattle.ttrpc_world_trace.proofs.Upward as upward
use Rattle.ttrpc_world_trace.proofs.Tidy.{MayGo}
use Rattle.ttrpc_world_trace.proofs.Turns.{answered_tidy, asked_tidy, gone_tidy, IsAnsweredBy, landed_tidy, responded_tidy, stream_tidy, taken_tidy}
use Rattle.ttrpc_world_trace.proofs.Downward as downward

-- ---- a job of the id

-- a job says of its id: it is the only one
pub record IsOnly (w : Around) (k : ℕ) (h : Here) (front back : List ActiveJob) (job : ActiveJob) : Type 0 where
  pub b : Birth
  pub holds : Holds w k h b job
  pub front_is : front ≡ []
  pub back_is : back ≡ []

only_by : {w : Around} {k : ℕ} {h : Here} (front back : List ActiveJob) (job : ActiveJob) (b : Birth) (j : ActiveJob) → Holds w k h b j → front ++ job ∷ back ≡ j ∷ [] → IsOnly w k h front back job
only_by {w} {k} {h} front back job b j holds was = let o = only_one front back job j was in record { b = b; holds = subst (λ (x : ActiveJob). Holds w k h b x) (sym o.1) holds; front_is = o.0; back_is = o.2 }

only_at : {w : Around} {k : ℕ} {h : Here} (front back : List ActiveJob) (job : ActiveJob) (o : Origin) (p : Work) → Known w k h o p → h.jobs ≡ front ++ job ∷ back → IsOnly w k h front back job
only_at front back job Unborn p n was = absurd (never_empty front back job (sym was ∙ n.server.jobs_is ∙ ap jobs_of n.server.is_work))
only_at front back job (Born b) (Waits j) n was = only_by front back job b j (InWait n) (sym was ∙ n.server.jobs_is)
only_at front back job (Born b) (Runs j) n was = only_by front back job b j (InRun n) (sym was ∙ n.server.jobs_is)
only_at front back job (Born b) (Left j response) n was = only_by front back job b j (InRest response n) (sym was ∙ n.server.jobs_is)
only_at front back job (Born b) p n was = absurd (never_empty front back job (sym was ∙ n.server.jobs_is))

pub only_of : {w : Around} {k : ℕ} {h : Here} (front back : List ActiveJob) (job : ActiveJob) → Place w k h → h.jobs ≡ front ++ job ∷ back → IsOnly w k h front back job
only_of front back job s was = only_at front back job s.origin s.so_far s.known was

-- nothing is left around it
around_it : {w : Around} {k : ℕ} {h : Here} {front back : List ActiveJob} {job : ActiveJob} → IsOnly w k h front back job → front ++ back ≡ []
around_it {back = back} i = ap (λ (xs : List ActiveJob). xs ++ back) i.front_is ∙ i.back_is

-- It is handed out.
takes_in : {w : Around} {k : ℕ} {h : Here} {jobs : List ActiveJob} (job : ActiveJob) (request : Request) (b : Birth) → Holds w k h b job → job.request ≡ Some request → jobs ≡ record job { request = None } ∷ []
    → Place w k (record h { acts = h.acts ++ Ran job.id (is_stream job.body) request ∷ []; jobs = jobs })
takes_in {w} {k} {h} job request b (InWait n) asked hj =
    let taken : ActiveJob = record job { request = None } in
    let ran : Act = Ran job.id (is_stream job.body) request in
    let same_some : Some request ≡ Some (asked_by (is_stream job.body) (request_of b)) = sym asked ∙ n.server.is_work.request in
    let is : request ≡ asked_by (is_stream job.body) (request_of b) = cc in
    turns (Runs taken) (ran ∷ []) [] n (unchanged w k) refl refl (record { request = refl; stream = n.server.is_work.stream; kind = n.server.is_work.kind }) (ap (λ (q : Request). first_act b ∷ Ran job.id (is_stream job.body) q ∷ []) (sym is)) refl n.server.ups_is
    hj (sym (append-nil h.downs)) tt (upward.takes job n.up) (downward.stays (Runs taken) h.stream (λ e. refl) refl refl n.down) (λ clean. taken_tidy w.set b job ran h.acts h.downs h.call refl (n.tidy clean))
takes_in job request b (InRun n) asked hj = let bad : Some request ≡ None = sym asked ∙ n.server.is_work.request in cc
takes_in job request b (InRest response n) asked hj = let bad : Some request ≡ None = sym asked ∙ n.server.is_work.0.request in cc

pub takes_here : {w : Around} {k : ℕ} {h : Here} (front back : List ActiveJob) (job : ActiveJob) (request : Request) → Place w k h → h.jobs ≡ front ++ job ∷ back → job.request ≡ Some request
    → Place w k (record h { acts = h.acts ++ Ran job.id (is_stream job.body) request ∷ []; jobs = front ++ record job { request = None } ∷ back })
takes_here front back job request s was asked =
    let i = only_of front back job s was in
    let taken : ActiveJob = record job { request = None } in
    takes_in job request i.b i.holds asked (ap (λ (xs : List ActiveJob). xs ++ taken ∷ back) i.front_is ∙ ap (λ (xs : List ActiveJob). taken ∷ xs) i.back_is)

-- ---- a job that runs

-- a job that was taken, and has no response yet, says of its id
pub record IsRunning (w : Around) (k : ℕ) (h : Here) (front back : List ActiveJob) (job : ActiveJob) : Type 0 where
  pub b : Birth
  pub known : Known w k h (Born b) (Runs job)
  pub left : front ++ back ≡ []

-- it isn't one that goes on behind its response, which is no stream's
abbrev pub HasNone : Around → ActiveJob → Type 0
HasNone w job = w.had job.id ≡ true → is_stream job.body ≡ false → ⊥

running_by : {w : Around} {k : ℕ} {h : Here} {front back : List ActiveJob} (job : ActiveJob) (b : Birth) → Holds w k h b job → front ++ back ≡ [] → job.request ≡ None → HasNone w job → IsRunning w k h front back job
running_by job b (InWait n) left taken none = let bad : None ≡ Some (asked_by (is_stream job.body) (request_of b)) = sym taken ∙ n.server.is_work.request in cc
running_by job b (InRun n) left taken none = record { b = b; known = n; left = left }
running_by job b (InRest response n) left taken none = absurd (none n.server.is_work.1 n.server.is_work.2)

pub running_of : {w : Around} {k : ℕ} {h : Here} (front back : List ActiveJob) (job : ActiveJob) → Place w k h → h.jobs ≡ front ++ job ∷ back → job.request ≡ None → HasNone w job → IsRunning w k h front back job
running_of front back job s was taken none = let i = only_of front back job s was in running_by job i.b i.holds (around_it i) taken none

-- what an answer does to the ways of its items: it is put in downwards, and goes as this; upwards nothing is received any more
answered_down : {w : Around} {k : ℕ} {h : Here} {b : Birth} {p : Work} (q : Work) (result : Result (Option Response) Error) (down : List Flying) → Known w k h (Born b) p → is_over p ≡ false → is_over q ≡ true
    → Goes (ending_thing w.set.rules w.set.limit result) down → DownOf w.set (Born b) q (record h { flows = h.flows ++ EndedDown result ∷ []; downs = h.downs ++ down })
answered_down {w} {h = h} q result down n undone over goes =
    let x : MailboxEntry = ending_thing w.set.rules w.set.limit result in
    down_as (flows_grow (put_down w.set.rules w.set.limit) (put_down_append w.set.rules w.set.limit) h.flows (EndedDown result ∷ []) (x ∷ []) refl) (flows_stay heard_down heard_down_append h.flows (EndedDown result ∷ []) refl)
    (downward.goes q x down undone (λ e. let bad : true ≡ false = sym over ∙ e in cc) goes n.down)

answered_up : {w : Around} {k : ℕ} {h : Here} {b : Birth} {p : Work} (q : Work) (result : Result (Option Response) Error) → box_up q ≡ gone_mail → IsFit k b q → Known w k h (Born b) p → UpOf k (Born b) q (record h { flows = h.flows ++ EndedDown result ∷ [] })
answered_up {h = h} q result gone fit n =
    up_as (flows_stay put_up put_up_append h.flows (EndedDown result ∷ []) refl) (flows_stay heard_up heard_up_append h.flows (EndedDown result ∷ []) refl) (upward.gone q h.ups gone fit n.up)

-- The job is answered or ends by what its handler gave, and this is sent, if anything is.
pub answers_here : {w : Around} {k : ℕ} {h : Here} {front back : List ActiveJob} (job : ActiveJob) (kind : Bool) (result : Result (Option Response) Error) (down : List Flying) → (i : IsRunning w k h front back job)
    → AllByRecursion (IsDown k true (Born i.b) (answered_work i.b job kind result)) down → Goes (ending_thing w.set.rules w.set.limit result) down → (w.set.clean → IsAnsweredBy w.set job kind result down)
    → Place w k (record h { acts = h.acts ++ Answered kind result ∷ []; flows = h.flows ++ EndedDown result ∷ []; jobs = front ++ back; downs = h.downs ++ down })
answers_here {w} {k} {h} job kind result down i new goes back =
    let q : Work = Over (answered_work i.b job kind result) in
    turns q (Answered kind result ∷ []) down i.known (unchanged w k) refl refl (inr (job.id, is_stream job.body, inr (kind, result, refl))) refl refl i.known.server.ups_is i.left refl new
    (answered_up q result refl tt i.known) (answered_down q result down i.known refl refl goes) (λ clean. answered_tidy w.set i.b job kind result down h.acts h.downs h.call (back clean) i.known.server.works_is (i.known.tidy clean))

-- A response is queued for the job, which goes on.
pub responds_here : {w w2 : Around} {k : ℕ} {h : Here} {front back : List ActiveJob} (job : ActiveJob) (response : Response) (y : Flying) → (i : IsRunning w k h front back job) → Later w w2 k → w2.had job.id ≡ true → is_stream job.body ≡ false
    → IsDown k true (Born i.b) (answered_work i.b job false (Ok (Some response))) y → IsSentAs (ending_thing w.set.rules w.set.limit (Ok (Some response))) y → w.set.rules ≡ SyncRules → IsAnsweredBy w.set job false (Ok (Some response)) (y ∷ [])
    → Place w2 k (record h { acts = h.acts ++ Answered false (Ok (Some response)) ∷ []; flows = h.flows ++ EndedDown (Ok (Some response)) ∷ []; downs = h.downs ++ y ∷ [] })
responds_here {w} {h = h} job response y i l has unary down goes sync back =
    let q : Work = Left job response in
    let result = Ok (Some response) in
    turns q (Answered false result ∷ []) (y ∷ []) i.known l refl refl (i.known.server.is_work, has, unary) refl refl i.known.server.ups_is i.known.server.jobs_is refl (down, tt)
    (answered_up q result refl tt i.known) (answered_down q result (y ∷ []) i.known refl refl goes) (λ clean. responded_tidy w.set i.b job response (y ∷ []) h.acts h.downs h.call sync back i.known.server.works_is (i.known.tidy clean))

-- ---- a job is gone, or sends

-- The job is gone, waiting or taken, and no act says so.
pub ends_here : {w : Around} {k : ℕ} {h : Here} (front back : List ActiveJob) (job : ActiveJob) (down : List Flying) → Place w k h → h.jobs ≡ front ++ job ∷ back → AllByRecursion (IsNever k) down → AllByRecursion IsTurned down → (w.set.clean → MayGo down h.call job)
    → Place w k (record h { jobs = front ++ back; downs = h.downs ++ down })
ends_here front back job down s was new goes may =
    let i = only_of front back job s was in
    let n = known_in i.holds in
    concludes_here n.server.items down n n.server.are_items n.server.may_have (n.server.ups_is ∙ ap (λ (xs : List Flying). xs ++ n.server.items) (only_in i.holds).1) (around_it i) new goes (λ clean. gone_tidy i.b job down i.holds (may clean) (n.tidy clean))

-- a stream's job that is there isn't over
stream_goes_on : {w : Around} {k : ℕ} {h : Here} {b : Birth} (job : ActiveJob) (x : Holds w k h b job) → is_stream job.body ≡ true → is_over (work_in x) ≡ false
stream_goes_on job (InRest response n) stream = let bad : true ≡ false = sym stream ∙ n.server.is_work.2 in cc
stream_goes_on job x stream = refl

-- The job's stream sends an item.
pub sends_down_here : {w : Around} {k : ℕ} {h : Here} (front back : List ActiveJob) (job : ActiveJob) (bytes : List ℕ) (y : Flying) → Place w k h → h.jobs ≡ front ++ job ∷ back → is_stream job.body ≡ true → IsNever k y → IsSentAs (ThingItem bytes) y
    → Place w k (record h { flows = h.flows ++ SentDown bytes ∷ []; downs = h.downs ++ y ∷ [] })
sends_down_here {w} {k} {h} front back job bytes y s was stream_is new goes =
    let i = only_of front back job s was in
    let n = known_in i.holds in
    let p = work_in i.holds in
    let more : List Flow = SentDown bytes ∷ [] in
    let works = works_of (Born i.b) p in
    let undone = stream_goes_on job i.holds stream_is in
    turned n (goes_on n.server.items (h.downs ++ y ∷ []) (λ j had. had) n.server n.server.are_items n.server.may_have n.server.ups_is (all_joined (IsDown k (is_over p) (Born i.b) works) h.downs (y ∷ []) n.server.down (never_down new, tt))) n.client
    (up_as (flows_stay put_up put_up_append h.flows more refl) (flows_stay heard_up heard_up_append h.flows more refl) n.up)
    (down_as (flows_grow (put_down w.set.rules w.set.limit) (put_down_append w.set.rules w.set.limit) h.flows more (ThingItem bytes ∷ []) refl) (flows_stay heard_down heard_down_append h.flows more refl)
    (downward.goes p (ThingItem bytes) (y ∷ []) undone (λ e. closed_item (put_down w.set.rules w.set.limit h.flows) bytes ∙ n.down.is.unended undone) goes n.down))
    (λ clean. stream_tidy i.b job p (h.downs ++ y ∷ []) i.holds stream_is (n.tidy clean))

-- the id of a job is one
pub job_within : {w : Around} {k : ℕ} {h : Here} (front back : List ActiveJob) (job : ActiveJob) → Place w k h → h.jobs ≡ front ++ job ∷ back → k ≤ last_id
job_within front back job s was = (known_in (only_of front back job s was).holds).server.within

-- ---- a frame lands

-- what a frame in flight says
pub down_of : {w : Around} {k : ℕ} {h : Here} (x : Flying) (d : List Flying) → (s : Place w k h) → h.downs ≡ x ∷ d → IsDown k (is_over s.so_far) s.origin (works_of s.origin s.so_far) x
down_of {k = k} x d s e = (subst (λ (ds : List Flying). AllByRecursion (IsDown k (is_over s.so_far) s.origin (works_of s.origin s.so_far)) ds) e s.known.server.down).0

-- what it makes of a stream leaves its sender
reached_sender : (old new : Option StreamState) (entered : Bool) (x : Flying) → Reaches entered x.frame.message.header (OpenedPayload x.plain) old new → unsendable new ≡ unsendable old
reached_sender old new false x r = ap unsendable r
reached_sender None new true x r = ap unsendable r
reached_sender (Some s) new true x r = ap unsendable r.3

-- It lands. A call that was forgotten stays so.
pub lands_here : {w : Around} {k : ℕ} {h : Here} {e : Option CallState} {st : Option StreamState} (x : Flying) (d : List Flying) → (s : Place w k h) → (was : h.downs ≡ x ∷ d) → LandsOn (Gives (down_of x d s was).outcome) h.call e
    → Reaches (is_entered h.stream) x.frame.message.header (OpenedPayload x.plain) h.stream st → Place w k (record h { downs = d; call = e; stream = st })
lands_here {w} {k} {h} {e} {st} x d s was on reaches =
    let down = down_of x d s was in
    let n = s.known in
    let left = (subst (λ (ds : List Flying). AllByRecursion (IsDown k (is_over s.so_far) s.origin (works_of s.origin s.so_far)) ds) was n.server.down).1 in
    turned n (goes_on n.server.items d (λ j had. had) n.server n.server.are_items n.server.may_have n.server.ups_is left)
    (client.lands s.origin h.acts down.outcome h.call e h.stream st
    (λ r is. let y = down.answer r is in (y.0, subst (λ (a : List Act). IsAnswer s.origin a r) (sym n.server.works_is) y.1.1)) on (λ none. subst (λ (z : Option StreamState). Reaches (is_entered z) x.frame.message.header (OpenedPayload x.plain) z st) none reaches) n.client)
    (upward.stays st (λ is. sym (reached_sender h.stream st (is_entered h.stream) x reaches) ∙ is) n.up) (downward.comes x was reaches n.down)
    (λ clean. landed_tidy w.set s.origin s.so_far h.acts h.call e x h.downs d was (subst (λ g. LandsOn g h.call e) (sym down.lands) on) (n.tidy clean))

-- ---- what is asked of the client

work_gave : (a : List Act) (given : Option (Result Response Error)) → work (a ++ gave_of given) ≡ work a
work_gave a None = ap work (append-nil a)
work_gave a (Some outcome) = work_append a (gave_of (Some outcome)) ∙ append-nil (work a)

-- The outcome is asked for.
pub asks_here : {w : Around} {k : ℕ} {h : Here} (failure : Option Failure) (given : Option (Result Response Error)) → Place w k h → GivesOutcome failure h.call given → (w.set.clean → failure ≡ None)
    → Place w k (record h { acts = h.acts ++ gave_of given; call = left_of (is_some failure) h.call })
asks_here {w} {k} {h} failure given s g alive =
    let n = s.known in
    turned n (subst (λ (a : List Act). AtServer w.set.rules w.had k s.origin s.so_far a h.ups h.jobs h.downs) (sym (work_gave h.acts given)) n.server) (client.asks s.origin h.acts failure h.call h.stream given g n.client) n.up n.down
    (λ clean. asked_tidy w.set s.origin s.so_far h.acts h.downs h.call failure given (alive clean) g (n.tidy clean))

-- The call is forgotten, which is not clean.
pub drops_here : {w : Around} {k : ℕ} {h : Here} → Place w k h → (w.set.clean → ⊥) → Place w k (record h { call = None })
drops_here {h = h} s never = turned s.known s.known.server (client.forgets s.origin h.acts h.call h.stream s.known.client) s.known.up s.known.down (λ clean. absurd (never clean))

-- The call expires, if it is due; in a clean run none is.
pub expires_here : {w : Around} {k : ℕ} {h : Here} (now : ℕ) → Place w k h → (w.set.clean → expired_at now h.call ≡ h.call) → Place w k (record h { call = expired_at now h.call })
expires_here {w} {h = h} now s undue =
    turned s.known s.known.server (client.expires s.origin h.acts now h.call h.stream s.known.client) s.known.up s.known.down
    (λ clean. subst (λ (e : Option CallState). TidyOf w.set s.origin s.so_far h.acts h.downs e) (sym (undue clean)) (s.known.tidy clean))

-- what is kept of its stream changes
streams_here : {w : Around} {k : ℕ} {h : Here} {f : List Flow} {st : Option StreamState} → (s : Place w k h) → (h.stream ≡ None → st ≡ None) → UpOf k s.origin s.so_far (record h { flows = f; stream = st }) → DownOf w.set s.origin s.so_far (record h { flows = f; stream = st })
    → Place w k (record h { flows = f; stream = st })
streams_here {h = h} {st = st} s none up down = turned s.known s.known.server (client.streams s.origin h.acts h.call h.stream st none s.known.client) up down s.known.tidy

unborn_none : {w : Around} {k : ℕ} {h : Here} (o : Origin) (p : Work) → Known w k h o p → o ≡ Unborn → h.stream ≡ None
unborn_none Unborn p n e = n.client.1
unborn_none (Born b) p n e = cc

told_sender : (failure : Option Failure) (given : Option Word) (new old : Option StreamState) → ReceivesAt failure old given new → unsendable new ≡ unsendable old
told_sender failure given new None h = ap unsendable h.1
told_sender failure given new (Some s) h = ap unsendable h.2

-- what was told says nothing but that
told_says : (set : Settings) (given : Option Word)
    → ((put_up (told_of HeardDown given) ≡ []) × (heard_up (told_of HeardDown given) ≡ []) × (put_down set.rules set.limit (told_of HeardDown given) ≡ []) × (heard_down (told_of HeardDown given) ≡ words_of given))
    × ((put_up (told_of HeardUp given) ≡ []) × (heard_up (told_of HeardUp given) ≡ words_of given) × (put_down set.rules set.limit (told_of HeardUp given) ≡ []) × (heard_down (told_of HeardUp given) ≡ []))
told_says set None = ((refl, refl, refl, refl), (refl, refl, refl, refl))
told_says set (Some word) = ((refl, refl, refl, refl), (refl, refl, refl, refl))

-- The client's receiver is told something.
pub hears_here : {w : Around} {k : ℕ} {h : Here} {st : Option StreamState} (failure : Option Failure) (given : Option Word) → Place w k h → IsPlainFailure failure → ReceivesAt failure h.stream given st → Place w k (record h { flows = h.flows ++ told_of HeardDown given; stream = st })
hears_here {w} {h = h} {st} failure given s plain r =
    let more = told_of HeardDown given in
    let t = (told_says w.set given).0 in
    streams_here s (λ none. (subst (λ (x : Option StreamState). ReceivesAt failure x given st) none r).1)
    (up_as (flows_stay put_up put_up_append h.flows more t.0) (flows_stay heard_up heard_up_append h.flows more t.1) (upward.stays st (λ e. sym (told_sender failure given st h.stream r) ∙ e) s.known.up))
    (down_as (flows_stay (put_down w.set.rules w.set.limit) (put_down_append w.set.rules w.set.limit) h.flows more t.2) (flows_grow heard_down heard_down_append h.flows more (words_of given) t.3)
    (downward.hears h.stream failure given (unborn_none s.origin s.so_far s.known) plain r s.known.down))

reader_sends : (old : Option StreamState) → unsendable (without_reader old) ≡ None → unsendable old ≡ None
reader_sends None e = e
reader_sends (Some s) e = by s.sender refl
  where
    by : (x : Sender) → s.sender ≡ x → unsendable (Some s) ≡ None
    by SenderDropped is = let bad : unsendable None ≡ None = subst (λ (y : Sender). unsendable (unless_dropped y (record s { mailbox = without_receiver s.mailbox })) ≡ None) is e in cc
    by x is = subst (λ (y : Sender). unsendable (unless_dropped y (record s { mailbox = without_receiver s.mailbox })) ≡ None) is e

-- It is dropped.
pub unheard_here : {w : Around} {k : ℕ} {h : Here} → Place w k h → Place w k (record h { stream = without_reader h.stream })
unheard_here {h = h} s = streams_here s (ap without_reader) (upward.stays (without_reader h.stream) (reader_sends h.stream) s.known.up) (downward.unheard h.stream s.known.down)

dropped_sends : (s : StreamState) (wanted : Bool) → unsendable (Some (record s { streaming_client = wanted; sender = SenderDropped })) ≡ None → ⊥
dropped_sends s true e = cc
dropped_sends s false e = cc

sender_gone : (old : Option StreamState) → unsendable (without_sender old) ≡ None → ⊥
sender_gone None e = let bad : unsendable None ≡ None = e in cc
sender_gone (Some s) e = by s.mailbox.receiver e
  where
    by : (x : Receiver) → unsendable (unless_unheard x (record s { sender = SenderDropped })) ≡ None → ⊥
    by Dropped f = let bad : unsendable None ≡ None = f in cc
    by x f = dropped_sends s s.streaming_client f

-- The sender is.
pub unsent_here : {w : Around} {k : ℕ} {h : Here} → Place w k h → Place w k (record h { stream = without_sender h.stream })
unsent_here {h = h} s = streams_here s (ap without_sender) (upward.stays (without_sender h.stream) (λ e. absurd (sender_gone h.stream e)) s.known.up) (downward.unsent h.stream s.known.down)

-- ---- what is told at the server

-- The server's receiver is told something.
pub hears_up_here : {w : Around} {k : ℕ} {h : Here} (g : ActiveJob → ActiveJob) → StaysFound g → (front back : List ActiveJob) (job : ActiveJob) (failure : Option Failure) (m left : Mail) (given : Option Word) → Place w k h → h.jobs ≡ front ++ job ∷ back
    → job.body ≡ StreamBody m → (g job).body ≡ StreamBody left → IsPlainFailure failure → Receives failure m given left → Place w k (record h { flows = h.flows ++ told_of HeardUp given; jobs = map g h.jobs })
hears_up_here {w} {h = h} g found front back job failure m left given s was is now plain r =
    let i = only_of front back job s was in
    let n = known_in i.holds in
    let p = work_in i.holds in
    let more = told_of HeardUp given in
    let t = (told_says w.set given).1 in
    let goes = stream_goes_on job i.holds (ap is_stream is) in
    maps_here g found n
    (up_as (flows_stay put_up put_up_append h.flows more t.0) (flows_grow heard_up heard_up_append h.flows more (words_of given) t.1)
    (upward.hears g found p job failure m left given (only_in i.holds).0 (λ j response last. let bad : true ≡ false = sym (ap is_over last) ∙ goes in cc) is now plain r n.up))
    (λ clean. stream_tidy i.b job (mapped g p) h.downs i.holds (ap is_stream is) (n.tidy clean)) (flows_stay (put_down w.set.rules w.set.limit) (put_down_append w.set.rules w.set.limit) h.flows more t.2) (flows_stay heard_down heard_down_append h.flows more t.3)

-- It is told an error, and nothing else changes.
pub errs_up_here : {w : Around} {k : ℕ} {h : Here} (e : Error) → IsPlain e → Place w k h → Place w k (record h { flows = h.flows ++ HeardUp (Err e) ∷ [] })
errs_up_here {w} {h = h} e plain s =
    let more : List Flow = HeardUp (Err e) ∷ [] in
    turned s.known s.known.server s.known.client (up_as (flows_stay put_up put_up_append h.flows more refl) (flows_grow heard_up heard_up_append h.flows more (Err e ∷ []) refl) (upward.told_aside e plain s.known.up))
    (down_as (flows_stay (put_down w.set.rules w.set.limit) (put_down_append w.set.rules w.set.limit) h.flows more refl) (flows_stay heard_down heard_down_append h.flows more refl) s.known.down) s.known.tidy

-- It is dropped, or nothing of it changes, which is not clean.
pub unheard_up_here : {w : Around} {k : ℕ} {h : Here} (g : ActiveJob → ActiveJob) → StaysFound g → ((j : ActiveJob) → IsDeaf g j) → Place w k h → (w.set.clean → ⊥) → Place w k (record h { jobs = map g h.jobs })
unheard_up_here g found deaf s never = maps_here g found s.known (upward.unheard g found s.so_far deaf s.known.up) (λ clean. absurd (never clean)) refl refl

-- ---- data are sent by the client

-- the id of a stream is one
pub stream_within : {w : Around} {k : ℕ} {h : Here} (o : Origin) (p : Work) → Known w k h o p → (h.stream ≡ None → ⊥) → k ≤ last_id
stream_within Unborn p n some = absurd (some n.client.1)
stream_within (Born b) p n some = n.server.within

-- what happened puts this in upwards, and is nothing else
pub record IsPut (x : Flow) (thing : MailboxEntry) : Type 0 where
  pub puts : put_up (x ∷ []) ≡ thing ∷ []
  pub tells : heard_up (x ∷ []) ≡ []
  pub ends : (rules : Rules) (limit : ℕ) → put_down rules limit (x ∷ []) ≡ []
  pub told : heard_down (x ∷ []) ≡ []
  pub follows : Follows (thing ∷ []) (thing ∷ [])

pub item_put : (bytes : List ℕ) → IsPut (SentUp bytes) (ThingItem bytes)
item_put bytes = record { puts = refl; tells = refl; ends = λ rules limit. refl; told = refl; follows = ([], refl, inl refl) }

pub close_put : IsPut ClosedUp ThingEnd
close_put = record { puts = refl; tells = refl; ends = λ rules limit. refl; told = refl; follows = refl }

-- its sender goes on so: it may send again only behind an item
abbrev pub GoesOn : MailboxEntry → Option StreamState → Type 0
GoesOn thing st = unsendable st ≡ None → closed (thing ∷ []) ≡ false

closed_behind : (put : List MailboxEntry) (x : MailboxEntry) → closed put ≡ false → closed (x ∷ []) ≡ false → closed (put ++ x ∷ []) ≡ false
closed_behind [] x a b = b
closed_behind (ThingLast bytes ∷ put) x a b = cc
closed_behind (ThingEnd ∷ put) x a b = cc
closed_behind (y ∷ put) x a b = closed_behind put x a b

-- The client sends data on its stream.
pub sends_here : {w : Around} {k : ℕ} {h : Here} {st : Option StreamState} (x : Flow) (thing : MailboxEntry) (y : Flying) (o : Origin) (p : Work) → Known w k h o p → (h.stream ≡ None → ⊥) → IsItem k y → IsPut x thing → thing_up y ≡ thing → unsendable h.stream ≡ None → GoesOn thing st
    → box_down st ≡ box_down h.stream → wants st ≡ wants h.stream → Place w k (record h { flows = h.flows ++ x ∷ []; ups = h.ups ++ y ∷ []; stream = st })
sends_here {w} {k} {h} {st} x thing y (Born (ByOpen q up down)) p n some is put comes may on box wanted =
    let m = n.server in
    let more : List Flow = x ∷ [] in
    turned n (goes_on (m.items ++ y ∷ []) h.downs (λ j had. had) m (all_joined (IsItem k) m.items (y ∷ []) m.are_items (is, tt)) tt (ap (λ (xs : List Flying). xs ++ y ∷ []) m.ups_is ∙ append_assoc (ups_of p) m.items (y ∷ [])) m.down) n.client
    (up_as (flows_grow put_up put_up_append h.flows more (thing ∷ []) put.puts) (flows_stay heard_up heard_up_append h.flows more put.tells)
    (upward.sends thing y m.items comes put.follows m.ups_is may (λ e. closed_behind (put_up h.flows) thing (n.up.is.unclosed may) (on e)) n.up))
    (down_as (flows_stay (put_down w.set.rules w.set.limit) (put_down_append w.set.rules w.set.limit) h.flows more (put.ends w.set.rules w.set.limit)) (flows_stay heard_down heard_down_append h.flows more put.told) (downward.stays p st (λ e. e) box wanted n.down)) (λ clean. tt)
sends_here x thing y o p n some is put comes may on box wanted = absurd (some n.client.1)

-- ---- the headline

no_call_by : {w : Around} {k : ℕ} {h : Here} (o : Origin) (p : Work) → Known w k h o p → calls h.acts ≡ [] → outcomes h.acts ≡ []
no_call_by Unborn p n none = n.client.2
no_call_by {h = h} (Born (ByCall q)) p n none = absurd (uncalled h.acts n.server none)
no_call_by (Born (ByOpen q up down)) p n none = n.client.1

pub exactly_once : {w : Around} {k : ℕ} {h : Here} → Place w k h → IsExactlyOnce h.acts
exactly_once {h = h} s = record {
  work_is = acts_begun h.acts s.known.server;
  one_outcome = client.one_outcome s.origin h.acts h.call h.stream s.known.client;
  no_call = λ none. no_call_by s.origin s.so_far s.known none;
  whole = λ r g. client.whole_given s.origin h.acts h.call h.stream r s.known.client g;
}

-- the items of an id are in order both ways
pub in_order_here : {w : Around} {k : ℕ} {h : Here} → Place w k h → AreInOrder w.set.rules w.set.limit h.flows
in_order_here s = record { up = up_order s.known.up; down = down_order s.known.down }

-- of a call that is kept at most one request is in flight
pub one_request : {w : Around} {k : ℕ} {h : Here} (o : Origin) (p : Work) → Known w k h o p → (h.call ≡ None → ⊥) → length h.ups ≤ 1
one_request (Born (ByCall q)) p n some = one_up n.server
one_request o p n some = absurd (some n.client.0)

-- One id: both sides of it, its items both ways, how it comes to be used, and what frames that come to the server do to it. What
-- an event isn't about stays.
use Rattle.ttrpc_world_trace.proofs.StoryWords.{[], Act, all_joined, work_append, ActiveJob, AllByRecursion, ap, append-nil, asked_by, Bool, brought_by, CallState, Called, deadline_in, false, Flow, Flying, heard_down, heard_down_append, heard_up, heard_up_append, has_method, inl, inr, is_stream, last_id, List, map, nat_eq, None, Open, Option, outcomes, outcomes_append, put_down, put_down_append, put_up, put_up_append, refl, Response, Rules, Services, Some, StaysFound, StreamState, subst, sym, MailboxEntry, true, Waiting, with_mail, Word, work, ℕ, ◌%◌, ◌++◌, ◌∙◌, ◌∷◌, ◌≡◌, ◌≤◌, ◌⊎◌, id_state_by, id_state_in, id_state_of, Taking, AsyncRules, SyncRules, Body, UnaryBody, StreamBody}
use Rattle.ttrpc_world_trace.proofs.Here.{Asking, Birth, Born, ByCall, ByOpen, first_act, first_flow, Here, Idle, IsAnswer, jobs_of, Left, no_cons, Origin, Over, request_of, Runs, Unborn, ups_of, Waits, Work, works_of}
use Rattle.ttrpc_world_trace.proofs.AtServer.{AreItems, AtServer, concludes, goes_on, is_over, IsDown, IsJob, IsNever, IsSent, IsWork, mapped, maps, MayHave, moves, never_downs, unanswered, same_over}
use Rattle.ttrpc_world_trace.proofs.AtClient.{AtClient, IsBegun}
use Rattle.ttrpc_world_trace.proofs.Upward.{box_up, first_things, flags_of, IsMade, IsStarted, Upward, box_of}
use Rattle.ttrpc_world_trace.proofs.Downward.{Downward, IsTurned}
use Rattle.ttrpc_world_trace.proofs.Tidy.{IsPatient, Tidy}
use Rattle.ttrpc_world_trace.proofs.AtClient as client
use Rattle.ttrpc_world_trace.proofs.Upward as upward
use Rattle.ttrpc_world_trace.proofs.Downward as downward

-- What stays in a run: the server's rules and its services, the limit of what its half may seal, and whether the whole run is
-- clean, as whoever tells of it means that.
pub record Settings : Type 1 where
  pub rules : Rules
  pub services : Services
  pub limit : ℕ
  pub clean : Type 0

-- WHAT IS AROUND AN ID: these settings, which jobs had their response, and the client's next id.
pub record Around : Type 1 where
  pub set : Settings
  pub had : ℕ → Bool
  pub next : ℕ

-- the way of its items to the server, and to the client
abbrev pub UpOf : ℕ → Origin → Work → Here → Type 0
UpOf k o p h = Upward k o p (put_up h.flows) (heard_up h.flows) h.ups h.stream

abbrev pub DownOf : Settings → Origin → Work → Here → Type 0
DownOf set o p h = Downward o p (put_down set.rules set.limit h.flows) (heard_down h.flows) h.downs h.stream

-- In a clean run: nothing is in flight to the client before an id is used, and the call of a method is tidy.
abbrev pub TidyOf : Settings → Origin → Work → List Act → List Flying → Option CallState → Type 0
TidyOf set Unborn p a d e = d ≡ []
TidyOf set (Born (ByCall q)) p a d e = has_method set.services q.service q.method ≡ true → Tidy set.rules set.limit q p a d e
TidyOf set (Born (ByOpen q up down)) p a d e = Unit {0}

-- it is no call of a method
abbrev pub IsNoMethod : Settings → Birth → Type 0
IsNoMethod set (ByCall q) = has_method set.services q.service q.method ≡ true → ⊥
IsNoMethod set (ByOpen q up down) = Unit {0}

-- both sides of an id, where it came to be used like this and its work has come this far, and its items both ways
pub record Known (w : Around) (k : ℕ) (h : Here) (o : Origin) (p : Work) : Type 0 where
  pub young : w.next ≤ k → o ≡ Unborn
  pub server : AtServer w.set.rules w.had k o p (work h.acts) h.ups h.jobs h.downs
  pub client : AtClient o h.acts h.call h.stream
  pub up : UpOf k o p h
  pub down : DownOf w.set o p h
  pub tidy : w.set.clean → TidyOf w.set o p h.acts h.downs h.call

-- ONE ID, RIGHT
pub record Place (w : Around) (k : ℕ) (h : Here) : Type 0 where
  pub origin : Origin
  pub so_far : Work
  pub known : Known w k h origin so_far

-- what is around may change so: no id is taken back, and no response; the settings stay
pub record Later (w w2 : Around) (k : ℕ) : Type 1 where
  pub set : w2.set ≡ w.set
  pub young : w2.next ≤ k → w.next ≤ k
  pub had : (i : ℕ) → w.had i ≡ true → w2.had i ≡ true

pub unchanged : (w : Around) (k : ℕ) → Later w w k
unchanged w k = record { set = refl; young = λ y. y; had = λ i h. h }

-- ---- the ways of its items

-- what a list of what happened to items says, where more happened
pub flows_grow : {X : Type 0} (says : List Flow → List X) → ((a b : List Flow) → says (a ++ b) ≡ says a ++ says b) → (f more : List Flow) (xs : List X) → says more ≡ xs → says (f ++ more) ≡ says f ++ xs
flows_grow says append f more xs is = append f more ∙ ap (λ ys. says f ++ ys) is

pub flows_stay : {X : Type 0} (says : List Flow → List X) → ((a b : List Flow) → says (a ++ b) ≡ says a ++ says b) → (f more : List Flow) → says more ≡ [] → says (f ++ more) ≡ says f
flows_stay says append f more is = flows_grow says append f more [] is ∙ append-nil (says f)

-- the same way, where what was put in and told is the same
pub up_as : {k : ℕ} {o : Origin} {p : Work} {put put2 : List MailboxEntry} {told told2 : List Word} {ups : List Flying} {st : Option StreamState} → put2 ≡ put → told2 ≡ told → Upward k o p put told ups st → Upward k o p put2 told2 ups st
up_as hp ht u = rw (hp, ht) u

pub down_as : {o : Origin} {p : Work} {put put2 : List MailboxEntry} {told told2 : List Word} {downs : List Flying} {st : Option StreamState} → put2 ≡ put → told2 ≡ told → Downward o p put told downs st → Downward o p put2 told2 downs st
down_as hp ht d = rw (hp, ht) d

-- ---- in a clean run

-- what is no call of a method is tidy
pub untidy : (set : Settings) (b : Birth) (p : Work) (a : List Act) (d : List Flying) (e : Option CallState) → IsNoMethod set b → TidyOf set (Born b) p a d e
untidy set (ByCall q) p a d e never = λ method. absurd (never method)
untidy set (ByOpen q up down) p a d e never = tt

-- only a stream has data in flight
passed_tidy : (set : Settings) (b : Birth) (p : Work) (a : List Act) (d : List Flying) (e : Option CallState) (x : Flying) (u : List Flying) → MayHave (Born b) (x ∷ u) → TidyOf set (Born b) p a d e
passed_tidy set (ByCall q) p a d e x u may = absurd (no_cons x u may)
passed_tidy set (ByOpen q up down) p a d e x u may = tt

-- ---- both sides

-- the server's side changed, and the client's, and the ways, and what is around
pub joined : {w w2 : Around} {k : ℕ} {h h2 : Here} {o : Origin} {p q : Work} → Known w k h o p → Later w w2 k → AtServer w.set.rules w2.had k o q (work h2.acts) h2.ups h2.jobs h2.downs → AtClient o h2.acts h2.call h2.stream → UpOf k o q h2 → DownOf w.set o q h2
    → (w.set.clean → TidyOf w.set o q h2.acts h2.downs h2.call) → Place w2 k h2
joined {w} {w2} {k} {h} {h2} {o} {p} {q} n l server kept up down tidy = record {
  origin = o;
  so_far = q;
  known = record {
    young = λ y. n.young (l.young y);
    server = subst (λ (s : Settings). AtServer s.rules w2.had k o q (work h2.acts) h2.ups h2.jobs h2.downs) (sym l.set) server;
    client = kept;
    up = up;
    down = subst (λ (s : Settings). DownOf s o q h2) (sym l.set) down;
    tidy = subst (λ (s : Settings). s.clean → TidyOf s o q h2.acts h2.downs h2.call) (sym l.set) tidy;
  };
}

-- and nothing is around that changed
pub turned : {w : Around} {k : ℕ} {h h2 : Here} {o : Origin} {p q : Work} → Known w k h o p → AtServer w.set.rules w.had k o q (work h2.acts) h2.ups h2.jobs h2.downs → AtClient o h2.acts h2.call h2.stream → UpOf k o q h2 → DownOf w.set o q h2
    → (w.set.clean → TidyOf w.set o q h2.acts h2.downs h2.call) → Place w k h2
turned n server kept up down tidy = record { origin = _; so_far = _; known = record { young = n.young; server = server; client = kept; up = up; down = down; tidy = tidy } }

-- An equal id, where what is around may have changed: so is one that an event isn't about.
pub elsewhere : {w w2 : Around} {k : ℕ} {h h2 : Here} → Later w w2 k → Place w k h → h2.acts ≡ h.acts → h2.flows ≡ h.flows → h2.ups ≡ h.ups → h2.jobs ≡ h.jobs → h2.downs ≡ h.downs → h2.call ≡ h.call → h2.stream ≡ h.stream → Place w2 k h2
elsewhere {w} {w2} {k} {h} {h2} l s ha hf hu hj hd he hs =
    let n = s.known in
    let same : h ≡ record { acts = h2.acts; flows = h2.flows; ups = h2.ups; jobs = h2.jobs; downs = h2.downs; call = h2.call; stream = h2.stream } = rw (ha, hf, hu, hj, hd, he, hs) refl in
    subst (λ (x : Here). Place w2 k x) same (joined n l (goes_on n.server.items h.downs l.had n.server n.server.are_items n.server.may_have n.server.ups_is n.server.down) n.client n.up n.down n.tidy)

-- what the server's side reads of an id, given anew
abbrev pub served : Here → List Act → List Flow → List Flying → List ActiveJob → List Flying → Here
served h acts flows ups jobs downs = record h { acts = acts; flows = flows; ups = ups; jobs = jobs; downs = downs }

-- THE TURN of work that isn't over, by acts that give no outcome, and by what goes down with it.
pub turns : {w w2 : Around} {k : ℕ} {h : Here} {o : Origin} {p : Work} {acts2 : List Act} {flows2 : List Flow} {ups2 downs2 : List Flying} {jobs2 : List ActiveJob} (q : Work) (more : List Act) (down : List Flying) → (n : Known w k h o p) → Later w w2 k → is_over p ≡ false → outcomes more ≡ []
    → IsWork w.set.rules w2.had k o q → works_of o q ≡ works_of o p ++ work more → acts2 ≡ h.acts ++ more → ups2 ≡ ups_of q ++ n.server.items → jobs2 ≡ jobs_of q → downs2 ≡ h.downs ++ down → AllByRecursion (IsDown k (is_over q) o (works_of o q)) down
    → UpOf k o q (served h acts2 flows2 ups2 jobs2 downs2) → DownOf w.set o q (served h acts2 flows2 ups2 jobs2 downs2) → (w.set.clean → TidyOf w.set o q acts2 downs2 h.call) → Place w2 k (served h acts2 flows2 ups2 jobs2 downs2)
turns {h = h} {o = o} {p = p} q more down n l undone quiet is grows ha hu hj hd new up down_of tidy =
    joined n l (moves (work more) n.server.items down n.server undone n.server.within is n.server.are_items n.server.may_have grows (ap work ha ∙ work_append h.acts more) hu hj hd new)
    (subst (λ (a : List Act). AtClient o a h.call h.stream) (sym ha) (client.grows o h.acts more h.call h.stream quiet (λ r i. unanswered o p r undone (subst (λ (a : List Act). IsAnswer o a r) n.server.works_is i)) n.client)) up down_of tidy

-- ---- a job of the id

-- it waits, or runs, or goes on behind its response
pub data Holds (w : Around) (k : ℕ) (h : Here) (b : Birth) (job : ActiveJob) : Type 0 where
  InWait : (n : Known w k h (Born b) (Waits job)) → Holds w k h b job
  InRun : (n : Known w k h (Born b) (Runs job)) → Holds w k h b job
  InRest : (response : Response) → (n : Known w k h (Born b) (Left job response)) → Holds w k h b job

-- so far the work has come, and this is known of it
abbrev pub work_in : {w : Around} {k : ℕ} {h : Here} {b : Birth} {job : ActiveJob} → Holds w k h b job → Work
work_in {job = job} (InWait n) = Waits job
work_in {job = job} (InRun n) = Runs job
work_in {job = job} (InRest response n) = Left job response

pub known_in : {w : Around} {k : ℕ} {h : Here} {b : Birth} {job : ActiveJob} (x : Holds w k h b job) → Known w k h (Born b) (work_in x)
known_in (InWait n) = n
known_in (InRun n) = n
known_in (InRest response n) = n

-- it is the only one, and no request is in flight
pub only_in : {w : Around} {k : ℕ} {h : Here} {b : Birth} {job : ActiveJob} (x : Holds w k h b job) → (jobs_of (work_in x) ≡ job ∷ []) × (ups_of (work_in x) ≡ [])
only_in (InWait n) = (refl, refl)
only_in x = (refl, refl)

-- ---- an id is used

born : {w : Around} {k : ℕ} {h : Here} (o : Origin) (p : Work) → Known w k h o p → o ≡ Unborn → Known w k h Unborn Idle
born {w} {k} {h} o p n e =
    let m = subst (λ (x : Origin). Known w k h x p) e n in
    subst (λ (x : Work). Known w k h Unborn x) m.server.is_work m

-- there are no data yet, and this is what its first act says
first_says : (set : Settings) (b : Birth) → MayHave (Born b) [] × (work (first_act b ∷ []) ≡ first_act b ∷ [])
    × (put_up (first_flow b ∷ []) ≡ first_things b) × (heard_up (first_flow b ∷ []) ≡ []) × (put_down set.rules set.limit (first_flow b ∷ []) ≡ []) × (heard_down (first_flow b ∷ []) ≡ [])
first_says set (ByCall request) = (refl, refl, refl, refl, refl, refl)
first_says set (ByOpen request true down) = (tt, refl, refl, refl, refl, refl)
first_says set (ByOpen request false down) = (tt, refl, refl, refl, refl, refl)

-- the id of a call is odd
abbrev pub IsOdd : Birth → ℕ → Type 0
IsOdd (ByCall q) k = nat_eq (k % 2) 0 ≡ false
IsOdd (ByOpen q up down) k = Unit {0}

begins_tidy : (set : Settings) (b : Birth) (k : ℕ) (x : Flying) (a : List Act) (d : List Flying) (e : Option CallState) (st : Option StreamState) → IsOdd b k → x.frame.message.header.stream_id ≡ k → IsBegun b e st → outcomes a ≡ [] → d ≡ [] → TidyOf set (Born b) (Asking x) (a ++ first_act b ∷ []) d e
begins_tidy set (ByCall q) k x a d e st odd at begun none downs = λ method. (record { downs = downs; deadline = begun.0.0; call = begun.0.1; ungiven = outcomes_append a (Called q ∷ []) ∙ append-nil (outcomes a) ∙ none }, rw at odd)
begins_tidy set (ByOpen q up down) k x a d e st odd at begun none downs = tt

-- A call is accepted, or a stream opened.
pub begins_here : {w w2 : Around} {k : ℕ} {h : Here} {e : Option CallState} {st : Option StreamState} (b : Birth) (x : Flying) → Place w k h → w2.set ≡ w.set → ((i : ℕ) → w.had i ≡ true → w2.had i ≡ true) → w.next ≤ k → (w2.next ≤ k → ⊥) → k ≤ last_id → IsSent k (request_of b) x
    → x.frame.message.header.flags ≡ flags_of b → IsOdd b k → (h.call ≡ None → h.stream ≡ None → IsBegun b e st × IsStarted b st)
    → Place w2 k (record h { acts = h.acts ++ first_act b ∷ []; flows = h.flows ++ first_flow b ∷ []; ups = h.ups ++ x ∷ []; call = e; stream = st })
begins_here {w} {w2} {k} {h} {e} {st} b x s set had y y2 within sent flags odd begun =
    let n = born s.origin s.so_far s.known (s.known.young y) in
    let g = begun n.client.0 n.client.1 in
    let says = first_says w.set b in
    let more : List Flow = first_flow b ∷ [] in
    let one : h.ups ++ x ∷ [] ≡ x ∷ [] = ap (λ xs. xs ++ x ∷ []) (n.server.ups_is ∙ n.server.may_have) in
    record {
      origin = Born b;
      so_far = Asking x;
      known = record {
        young = λ z. absurd (y2 z);
        server = subst (λ (r : Settings). AtServer r.rules w2.had k (Born b) (Asking x) (work (h.acts ++ first_act b ∷ [])) (h.ups ++ x ∷ []) h.jobs h.downs) (sym set)
            (moves (first_act b ∷ []) [] [] n.server refl within sent tt says.0 refl (work_append h.acts (first_act b ∷ []) ∙ ap (λ xs. work h.acts ++ xs) says.1) one n.server.jobs_is (sym (append-nil h.downs)) tt);
        client = client.begins b h.acts h.call e h.stream st g.0 n.client;
        up = subst (λ (xs : List Flying). Upward k (Born b) (Asking x) (put_up (h.flows ++ more)) (heard_up (h.flows ++ more)) xs st) (sym one)
            (up_as (flows_grow put_up put_up_append h.flows more (first_things b) says.2) (flows_stay heard_up heard_up_append h.flows more says.3) (upward.starts b x flags g.1 n.up));
        down = subst (λ (r : Settings). Downward (Born b) (Asking x) (put_down r.rules r.limit (h.flows ++ more)) (heard_down (h.flows ++ more)) h.downs st) (sym set)
            (down_as (flows_stay (put_down w.set.rules w.set.limit) (put_down_append w.set.rules w.set.limit) h.flows more says.4) (flows_stay heard_down heard_down_append h.flows more says.5) (downward.starts b (Asking x) st g.1 n.down));
        tidy = subst (λ (r : Settings). r.clean → TidyOf r (Born b) (Asking x) (h.acts ++ first_act b ∷ []) h.downs e) (sym set) (λ clean. begins_tidy w.set b k x h.acts h.downs e st odd sent.stream g.0 n.client.2 (n.tidy clean));
      };
    }

-- ---- a frame comes to the server

-- a request in flight says of its id
pub record IsAsked (w : Around) (k : ℕ) (h : Here) (x : Flying) (u : List Flying) : Type 0 where
  pub b : Birth
  pub known : Known w k h (Born b) (Asking x)
  pub items : known.server.items ≡ u

-- and data in flight
pub record IsPassed (w : Around) (k : ℕ) (h : Here) (x : Flying) (u : List Flying) : Type 0 where
  pub b : Birth
  pub so_far : Work
  pub known : Known w k h (Born b) so_far
  pub none_else : ups_of so_far ≡ []
  pub items : known.server.items ≡ x ∷ u

asks_by : {w : Around} {k : ℕ} {h : Here} (x : Flying) (u : List Flying) (b : Birth) (z : Flying) → (n : Known w k h (Born b) (Asking z)) → x ∷ u ≡ z ∷ n.server.items → IsAsked w k h x u
asks_by {w} {k} {h} x u b z n e =
    let same : z ≡ x = cc in
    let left : n.server.items ≡ u = cc in
    moved z same n left
  where
    moved : (y : Flying) → y ≡ x → (m : Known w k h (Born b) (Asking y)) → m.server.items ≡ u → IsAsked w k h x u
    moved y is m left = subst (λ (v : Flying). (l : Known w k h (Born b) (Asking v)) → l.server.items ≡ u → IsAsked w k h x u) (sym is) (λ l i. record { b = b; known = l; items = i }) m left

-- what comes first is the request, or data behind it
pub comes_of : {w : Around} {k : ℕ} {h : Here} (x : Flying) (u : List Flying) (o : Origin) (p : Work) → Known w k h o p → h.ups ≡ x ∷ u → IsAsked w k h x u ⊎ IsPassed w k h x u
comes_of x u Unborn p n e = absurd (no_cons x u (sym e ∙ n.server.ups_is ∙ ap (λ (q : Work). ups_of q ++ n.server.items) n.server.is_work ∙ n.server.may_have))
comes_of x u (Born b) (Asking z) n e = inl (asks_by x u b z n (sym e ∙ n.server.ups_is))
comes_of x u (Born b) Idle n e = absurd n.server.is_work
comes_of x u (Born b) p n e = inr (record { b = b; so_far = p; known = n; none_else = refl; items = sym n.server.ups_is ∙ e })

-- what is in flight to the server then
passed_ups : {w : Around} {k : ℕ} {h : Here} {x : Flying} {u : List Flying} → (a : IsPassed w k h x u) → h.ups ≡ x ∷ u
passed_ups a = a.known.server.ups_is ∙ ap (λ (xs : List Flying). xs ++ a.known.server.items) a.none_else ∙ a.items

-- the job of a method's call: it is no stream's, and it is due no earlier than the call, under sync rules never
pub record IsOwedBy (rules : Rules) (call : Option CallState) (job : ActiveJob) : Type 0 where
  pub unary : is_stream job.body ≡ false
  pub patient : (d : Option ℕ) → call ≡ Some (Waiting d) → IsPatient d (deadline_in job.body)
  pub untimed : rules ≡ SyncRules → deadline_in job.body ≡ None

abbrev pub IsHeldBy : Settings → Birth → Option CallState → ActiveJob → Type 0
IsHeldBy set (ByCall q) call job = has_method set.services q.service q.method ≡ true → IsOwedBy set.rules call job
IsHeldBy set (ByOpen q up down) call job = Unit {0}

arrives_tidy : (set : Settings) (b : Birth) (x : Flying) (job : ActiveJob) (a : List Act) (d : List Flying) (e : Option CallState) → IsHeldBy set b e job → TidyOf set (Born b) (Asking x) a d e → TidyOf set (Born b) (Waits job) a d e
arrives_tidy set (ByCall q) x job a d e held t = λ method.
    let o = held method in
    let un = (t method).0 in
    record { un = un; unary = o.unary; patient = o.patient un.deadline un.call; untimed = o.untimed }
arrives_tidy set (ByOpen q up down) x job a d e held t = tt

-- The request is a job.
pub arrives_here : {w : Around} {k : ℕ} {h : Here} {x : Flying} {u : List Flying} (job : ActiveJob) → (a : IsAsked w k h x u) → IsJob w.set.rules k (Some (asked_by (is_stream job.body) (request_of a.b))) job
    → (x.frame.message.header.flags ≡ flags_of a.b → IsMade a.b job.body) → (is_stream job.body ≡ true → nat_eq (k % 2) 0 ≡ false) → (w.set.clean → IsHeldBy w.set a.b h.call job) → Place w k (record h { ups = u; jobs = h.jobs ++ job ∷ [] })
arrives_here {w} {k} {h} {x} job a is made odd held =
    let n = a.known in
    turns (Waits job) [] [] n (unchanged w k) refl refl is refl (sym (append-nil h.acts)) (sym a.items) (ap (λ (xs : List ActiveJob). xs ++ job ∷ []) n.server.jobs_is) (sym (append-nil h.downs)) tt
    (upward.makes job (n.server.ups_is ∙ ap (λ (xs : List Flying). x ∷ xs) a.items) (made n.up.is.fit) odd n.up) (downward.stays (Waits job) h.stream (λ e. refl) refl refl n.down) (λ clean. arrives_tidy w.set a.b x job h.acts h.downs h.call (held clean) (n.tidy clean))

-- Nothing more comes of an id: its request is refused, or thrown away, or its job is gone.
pub concludes_here : {w : Around} {k : ℕ} {h : Here} {b : Birth} {p : Work} {ups : List Flying} {jobs : List ActiveJob} (items down : List Flying) → Known w k h (Born b) p → AreItems k items → MayHave (Born b) items → ups ≡ items → jobs ≡ []
    → AllByRecursion (IsNever k) down → AllByRecursion IsTurned down → (w.set.clean → TidyOf w.set (Born b) (Over (works_of (Born b) p)) h.acts (h.downs ++ down) h.call) → Place w k (record h { ups = ups; jobs = jobs; downs = h.downs ++ down })
concludes_here {b = b} {p} {ups} items down n are may hu hj new goes tidy =
    let over : Work = Over (works_of (Born b) p) in
    turned n (concludes items down n.server are may hu hj new) n.client (upward.gone over ups refl tt n.up) (downward.turned over down (λ e. let bad : true ≡ false = e in cc) goes n.down) tidy

-- The server refuses the request, or does nothing with it.
pub refers_here : {w : Around} {k : ℕ} {h : Here} {x : Flying} {u : List Flying} (down : List Flying) → (a : IsAsked w k h x u) → (w.set.clean → IsNoMethod w.set a.b) → AllByRecursion (IsNever k) down → AllByRecursion IsTurned down → Place w k (record h { ups = u; downs = h.downs ++ down })
refers_here {w} {h = h} {x = x} down a never new goes =
    concludes_here a.known.server.items down a.known a.known.server.are_items a.known.server.may_have (sym a.items) a.known.server.jobs_is new goes
    (λ clean. untidy w.set a.b (Over (works_of (Born a.b) (Asking x))) h.acts (h.downs ++ down) h.call (never clean))

fewer_may : (b : Birth) (x : Flying) (u : List Flying) → MayHave (Born b) (x ∷ u) → MayHave (Born b) u
fewer_may (ByCall request) x u may = absurd (no_cons x u may)
fewer_may (ByOpen request up down) x u may = tt

-- a mailbox that takes nothing, though it might, has ended
box_full : (rules : Rules) (k : ℕ) (body : Body) → (rules ≡ AsyncRules → nat_eq (k % 2) 0 ≡ false → id_state_in body ≡ Taking → ⊥) → (rules ≡ SyncRules → is_stream body ≡ false) → (is_stream body ≡ true → nat_eq (k % 2) 0 ≡ false)
    → (box_of body).receiver ≡ Open → (box_of body).ended ≡ true
box_full rules k (UnaryBody deadline) none kind odd o = cc
box_full SyncRules k (StreamBody m) none kind odd o = let bad : true ≡ false = kind refl in cc
box_full AsyncRules k (StreamBody m) none kind odd o = by m.ended refl
  where
    by : (b : Bool) → m.ended ≡ b → m.ended ≡ true
    by true e = e
    by false e = absurd (none refl (odd refl) (ap (λ (x : Bool). id_state_by x m.receiver) e ∙ ap (id_state_by false) o))

-- Nobody takes data: nobody receives, or all came already.
pub untaken : {w : Around} {k : ℕ} {h : Here} {b : Birth} (p : Work) → Known w k h (Born b) p → ups_of p ≡ [] → (w.set.rules ≡ AsyncRules → nat_eq (k % 2) 0 ≡ false → id_state_of h.jobs ≡ Taking → ⊥) → (box_up p).receiver ≡ Open → (box_up p).ended ≡ true
untaken {w} {k} (Waits j) n plain none o = box_full w.set.rules k j.body (λ a odd t. none a odd (ap id_state_of n.server.jobs_is ∙ t)) n.server.is_work.kind n.up.is.fit o
untaken {w} {k} (Runs j) n plain none o = box_full w.set.rules k j.body (λ a odd t. none a odd (ap id_state_of n.server.jobs_is ∙ t)) n.server.is_work.kind n.up.is.fit o
untaken (Asking x) n plain none o = absurd (no_cons x [] plain)
untaken p n plain none o = cc

-- what is left at the server once data came
left_items : {w : Around} {k : ℕ} {h : Here} {x : Flying} {u : List Flying} (down : List Flying) → (a : IsPassed w k h x u) → AllByRecursion (IsNever k) down → AtServer w.set.rules w.had k (Born a.b) a.so_far (work h.acts) u h.jobs (h.downs ++ down)
left_items {k = k} {h} {x = x} {u = u} down a new =
    let n = a.known.server in
    let are : AreItems k (x ∷ u) = subst (λ (xs : List Flying). AreItems k xs) a.items n.are_items in
    let may : MayHave (Born a.b) (x ∷ u) = subst (λ (xs : List Flying). MayHave (Born a.b) xs) a.items n.may_have in
    let o : Origin = Born a.b in
    let works = works_of o a.so_far in
    goes_on u (h.downs ++ down) (λ i y. y) n are.1 (fewer_may a.b x u may) (ap (λ (xs : List Flying). xs ++ u) (sym a.none_else)) (all_joined (IsDown k (is_over a.so_far) o works) h.downs down n.down (never_downs k (is_over a.so_far) o works down new))

passed_is_tidy : {w : Around} {k : ℕ} {h : Here} {x : Flying} {u : List Flying} (a : IsPassed w k h x u) (p : Work) (d : List Flying) → TidyOf w.set (Born a.b) p h.acts d h.call
passed_is_tidy {w} {h = h} {x = x} {u = u} a p d = passed_tidy w.set a.b p h.acts d h.call x u (subst (λ (xs : List Flying). MayHave (Born a.b) xs) a.items a.known.server.may_have)

-- Data came, and aren't put in: nobody receives them, or all came already. The server may refuse them.
pub passes_here : {w : Around} {k : ℕ} {h : Here} {x : Flying} {u : List Flying} (down : List Flying) → (a : IsPassed w k h x u) → AllByRecursion (IsNever k) down → AllByRecursion IsTurned down
    → ((box_up a.so_far).receiver ≡ Open → (box_up a.so_far).ended ≡ true) → Place w k (record h { ups = u; downs = h.downs ++ down })
passes_here {h = h} down a new goes over =
    turned a.known (left_items down a new) a.known.client (upward.passes (passed_ups a) a.none_else over a.known.up) (downward.turned a.so_far down (λ e. e) goes a.known.down) (λ clean. passed_is_tidy a a.so_far (h.downs ++ down))

-- Data came, and are put in.
pub puts_here : {w : Around} {k : ℕ} {h : Here} {x : Flying} {u : List Flying} (g : ActiveJob → ActiveJob) → StaysFound g → (a : IsPassed w k h x u)
    → ((j : ActiveJob) → j.header.stream_id ≡ k → (g j).body ≡ with_mail (brought_by x.frame.message.header x.plain) j.body) → Place w k (record h { ups = u; jobs = map g h.jobs })
puts_here {w} {k} {h} {x} {u} g found a change =
    let n = a.known in
    let left = subst (λ (d : List Flying). AtServer w.set.rules w.had k (Born a.b) a.so_far (work h.acts) u h.jobs d) (append-nil h.downs) (left_items [] a tt) in
    turned n (maps g found left) n.client (upward.brings g found w.set.rules w.had a.so_far (passed_ups a) a.none_else change n.server.is_work n.up)
    (downward.stays (mapped g a.so_far) h.stream (λ e. sym (same_over g found a.so_far) ∙ e) refl refl n.down) (λ clean. passed_is_tidy a (mapped g a.so_far) h.downs)

-- Mailboxes change, and something may be told.
pub maps_here : {w : Around} {k : ℕ} {h : Here} {o : Origin} {p : Work} {f : List Flow} (g : ActiveJob → ActiveJob) → StaysFound g → (n : Known w k h o p) → UpOf k o (mapped g p) (record h { flows = f }) → (w.set.clean → TidyOf w.set o (mapped g p) h.acts h.downs h.call)
    → put_down w.set.rules w.set.limit f ≡ put_down w.set.rules w.set.limit h.flows → heard_down f ≡ heard_down h.flows → Place w k (record h { flows = f; jobs = map g h.jobs })
maps_here {h = h} {p = p} g found n up tidy hp ht =
    turned n (maps g found n.server) n.client up (down_as hp ht (downward.stays (mapped g p) h.stream (λ e. sym (same_over g found p) ∙ e) refl refl n.down)) tidy

-- ---- requests are thrown away

-- a call has no data in flight, and then no request either
thrown_at : {w : Around} {k : ℕ} {h : Here} (o : Origin) (p : Work) → Known w k h o p → (h.call ≡ None → ⊥) → (w.set.clean → ⊥) → Place w k (record h { ups = [] })
thrown_at {w} {k} {h} (Born (ByCall q)) (Asking x) n some never =
    elsewhere (unchanged w k) (concludes_here {ups = []} {jobs = h.jobs} [] [] n tt refl refl n.server.jobs_is tt tt (λ clean. absurd (never clean))) refl refl refl refl (sym (append-nil h.downs)) refl refl
thrown_at {w} {k} {h} (Born (ByCall q)) p n some never =
    let place : Place w k h = record { origin = Born (ByCall q); so_far = p; known = n } in
    elsewhere (unchanged w k) place refl refl (sym (n.server.ups_is ∙ n.server.may_have)) refl refl refl refl
thrown_at o p n some never = absurd (some n.client.0)

-- Requests of calls are thrown away, or none; in a clean run none.
pub thrown_here : {w : Around} {k : ℕ} {h : Here} (u : List Flying) → Place w k h → (u ≡ h.ups) ⊎ (((h.call ≡ None → ⊥) × (w.set.clean → ⊥)) × (u ≡ [])) → Place w k (record h { ups = u })
thrown_here {w} {k} u s (inl hu) = elsewhere (unchanged w k) s refl refl hu refl refl refl refl
thrown_here {w} {k} u s (inr hu) = elsewhere (unchanged w k) (thrown_at s.origin s.so_far s.known hu.0.0 hu.0.1) refl refl hu.1 refl refl refl refl

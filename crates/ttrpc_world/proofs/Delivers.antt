-- A delivery: each flight that comes in acts as it was sent, on one call or stream. No bytes, no seals that are opened.
use Rattle.ttrpc_world.proofs.Numbers.{acts_right, AreRight, asks, counts, made_of, Moves, Numbers, passed_by}
use Rattle.ttrpc_world.proofs.OneWay.{joins, OneWay}
use Rattle.ttrpc_world.proofs.Payloads.{ask_row, IsItemRow, IsRefusal, IsRowOf, item_row, data_leave, request_moves, seen_up}
use Rattle.ttrpc_pair.specs.Types.{IsAbove}
use Rattle.ttrpc_world.proofs.Flights.{behind_other, behind_own, sends_refusal}
use Rattle.ttrpc_world.proofs.Words.{[], Act, act_of, ActiveJob, acts, ActsOn, all_behind, AllByRecursion, ap, append-nil, append_assoc, arith, Around, arrives_here, asked_by, Asking, AsyncRules, Birth, Bool, Born, box_up, brought_by, ByCall, ByOpen, CallState, call_at, calling, calls, calls_work, case_of, case_row, cases_eq, changed_under, Client, comes_of, Connection, deadline_in, deadline_of, Does, down_of, elsewhere, Entry, eq-eqb, Event, false, first_act, flags_of, flow_of, Flying, Halves, has_method, Here, here_at, id_of, Ignore, inl, id_state_of, inr, is_stream, IsAsked, IsHeldBy, IsItem, IsJob, IsMade, IsNever, IsNoMethod, IsPassed, IsPatient, IsTurned, jobs_at, CallResult, lands_here, LandsOn, LandsOnce, last_id, Later, List, MakeJob, MakeStream, MESSAGE_TYPE_REQUEST, MessageHeader, nat_eq, new_job, Open, Opened, Option, OutboundTransform, Outbox, parcels, passes_here, Pipe, Place, pushed_other, pushed_own, PutIn, puts_here, refers_here, refl, Reply, Request, request_of, Response, Row, row_leaves, Rules, rules, Scene, SendResponse, SendsAll, SendsOwnAnswer, Sent, Server, serving, Settings, Some, stream_at, stream_body, stream_id_of, subst, sym, SyncRules, TidyOf, true, unary_body, unchanged, under_other, under_own, under_stays, untaken, Waiting, with_mail, without_payload, ℕ, ◌%◌, ◌++◌, ◌+◌, ◌∙◌, ◌∷◌, ◌≡◌, ◌≢◌, ◌≤◌, ◌⊎◌, Case, newest_after, with_newest}

abbrev pub around : Settings → (ℕ → Bool) → ℕ → Around
around set had next = record { set = set; had = had; next = next }

-- THE STORIES: that of each id.
abbrev pub Stories : Settings → (ℕ → Bool) → (ℕ → ℕ) → List Entry → List Flying → List Flying → List ActiveJob → Client → Type 0
Stories set had f trace up down jobs client = (k : ℕ) → Place (around set had client.next) k (here_at f trace up down jobs client k)

-- the client's next id goes on, or stays
pub next_up : (set : Settings) (had : ℕ → Bool) (next next2 k : ℕ) → next ≤ next2 → Later (around set had next) (around set had next2) k
next_up set had next next2 k le = record { set = refl; young = λ y. omega (arith, y, le); had = λ i h. h }

-- what holds at one id, and at each other
pub at_one : (T : ℕ → Type 0) (k : ℕ) → T k → ((n : ℕ) → k ≢ n → T n) → (n : ℕ) → T n
at_one T k here there n = elim (cases_eq k n) [
  | inl e ↦ subst T e here
  | inr e ↦ there n e
]

-- an entry that says nothing of any id
abbrev pub IsQuiet : (ℕ → ℕ) → Event → Reply → Type 0
IsQuiet f event reply = (k : ℕ) → (act_of f k event reply ≡ []) × (flow_of f k event reply ≡ [])

-- ---- a frame comes to the server

-- The first frames that were in flight have come, and the others still are. What the server answers itself is in flight
-- to the client.
pub record ComesUp {CO CI SO SI : Type 0} (c : Halves CO CI) (s : Halves SO SI) (set : Settings) (had : ℕ → Bool) (f : ℕ → ℕ) (trace : List Entry) (up down : List Flying) (client : Client) (old new : Scene Server SO SI) : Type 0 where
  pub more : List Flying
  pub stories : Stories set had f trace up (down ++ more) new.state.jobs.list client
  pub numbers : Numbers f (counts new.state.jobs) up client.next
  pub sent : (y : Connection CO CI) (pipe : Pipe) (flights : List Flying) → OneWay s.out c.in_ old.outbox y pipe flights → OneWay s.out c.in_ new.outbox y pipe (flights ++ more)

none_sent : {O : Type 0} (out : OutboundTransform O) (old : Outbox O) (sent : List Sent) (new : Outbox O) → sent ≡ [] → SendsAll out old sent new → new ≡ old
none_sent out old sent new none sends = subst (λ (xs : List Sent). SendsAll out old xs new) none sends

unary_kind : (rules : Rules) (now : ℕ) (request : Request) → is_stream (unary_body rules now request) ≡ false
unary_kind SyncRules now request = refl
unary_kind AsyncRules now request = refl

module _ {CO CI SO SI : Type 0} (c : Halves CO CI) (s : Halves SO SI) where
  abbrev Ways2 : Outbox SO → Outbox SO → List Flying → Type 0
  Ways2 old new more = (y : Connection CO CI) (pipe : Pipe) (flights : List Flying) → OneWay s.out c.in_ old y pipe flights → OneWay s.out c.in_ new y pipe (flights ++ more)

  -- what goes down, and ends no call well
  pub record Refers (k : ℕ) (old new : Outbox SO) : Type 0 where
    pub more : List Flying
    pub never : AllByRecursion (IsNever k) more
    pub turned : AllByRecursion IsTurned more
    pub sent : Ways2 old new more

  unfoldable pub nothing_refers : (k : ℕ) (old new : Outbox SO) → new ≡ old → Refers k old new
  nothing_refers k old new same = record { more = []; never = tt; turned = tt; sent = λ y pipe flights way. rw (same, append-nil) way }

  -- the core's own answer
  pub own_refers : (rules : Rules) (k : ℕ) (r : Response) (sent : List Sent) (old new : Outbox SO) → k ≤ last_id → IsRefusal r → SendsOwnAnswer rules s.out old.half k r sent → SendsAll s.out old sent new → Refers k old new
  own_refers rules k r sent old new within is (inl responds) sends =
      let f = sends_refusal s.out old rules k r sent new within is responds sends in
      record { more = f.y ∷ []; never = (f.is.never, tt); turned = (f.is.turned, tt); sent = λ y pipe flights way. joins s.out c.in_ old new y pipe flights f.y f.queue f.seal f.sound way }
  own_refers rules k r sent old new within is (inr left) sends = nothing_refers k old new (none_sent s.out old sent new left.0 sends)

-- In a clean run a call that waits is due no later than it would be if it were made at this moment.
abbrev pub IsTimely : Settings → (ℕ → ℕ) → List Entry → Client → ℕ → Type 0
IsTimely set f trace client now = set.clean → (k : ℕ) (q : Request) (d : Option ℕ) → call_at client k ≡ Some (Waiting d) → calls (acts f k trace) ≡ q ∷ [] → IsPatient d (deadline_of now q.timeout_nano)

-- so the job that is made of it is due no earlier
held_by : (set : Settings) (b : Birth) (call : Option CallState) (job : ActiveJob) (now : ℕ) → ((q : Request) (d : Option ℕ) → b ≡ ByCall q → call ≡ Some (Waiting d) → IsPatient d (deadline_of now q.timeout_nano)) → job.body ≡ unary_body set.rules now (request_of b) → IsHeldBy set b call job
held_by set (ByOpen q up down) call job now timely is = tt
held_by set (ByCall q) call job now timely is = λ method. record {
  unary = ap is_stream is ∙ unary_kind set.rules now q;
  patient = λ d waits. rw is (unary_patient set.rules d (timely q d refl waits));
  untimed = λ sync. rw (is, sync) refl;
}
  where
    unary_patient : (r : Rules) (d : Option ℕ) → IsPatient d (deadline_of now q.timeout_nano) → IsPatient d (deadline_in (unary_body r now q))
    unary_patient SyncRules d p = tt
    unary_patient AsyncRules d p = p

-- a request that names no method makes no such job
no_held : (set : Settings) (b : Birth) (call : Option CallState) (job : ActiveJob) → has_method set.services (request_of b).service (request_of b).method ≡ false → IsHeldBy set b call job
no_held set (ByCall q) call job none = λ method. let bad : true ≡ false = sym method ∙ none in cc
no_held set (ByOpen q up down) call job none = tt

-- and one that is refused under an odd id names none
refused_call : (set : Settings) (b : Birth) (x : Flying) (a : List Act) (d : List Flying) (e : Option CallState) → TidyOf set (Born b) (Asking x) a d e → (nat_eq (x.frame.message.header.stream_id % 2) 0 ≡ false → has_method set.services (request_of b).service (request_of b).method ≡ false) → IsNoMethod set b
refused_call set (ByCall q) x a d e t none = λ method. let bad : true ≡ false = sym method ∙ none (t method).1 in cc
refused_call set (ByOpen q up down) x a d e t none = tt

-- the call that a request in flight is of
one_call : {w : Around} {k : ℕ} {h : Here} {x : Flying} {u : List Flying} (a : IsAsked w k h x u) (q : Request) → a.b ≡ ByCall q → calls h.acts ≡ q ∷ []
one_call {h = h} a q is = calls_work h.acts ∙ ap calls a.known.server.works_is ∙ ap (λ (b : Birth). calls (first_act b ∷ [])) is

module _ {CO CI SO SI : Type 0} (c : Halves CO CI) (s : Halves SO SI) (set : Settings) (had : ℕ → Bool) (f : ℕ → ℕ) (trace : List Entry) (client : Client) where
  -- what was turned comes
  refers_comes : (k : ℕ) (up down : List Flying) (old new : Scene Server SO SI) → (r : Refers c s k old.outbox new.outbox)
      → Stories set had f trace up (down ++ r.more) new.state.jobs.list client → Numbers f (counts new.state.jobs) up client.next → ComesUp c s set had f trace up down client old new
  refers_comes k up down old new r stories numbers = record { more = r.more; stories = stories; numbers = numbers; sent = r.sent }

  -- the frame is gone: the story that it is of turns, and the others stay
  turns_up : (x : Flying) (rest down more : List Flying) (old new : List ActiveJob) → Stories set had f trace (x ∷ rest) down old client
      → (let k : ℕ = x.frame.message.header.stream_id in AllByRecursion (IsNever k) more → Place (around set had client.next) k (here_at f trace rest (down ++ more) new client k)
      → ((i : ℕ) → k ≢ i → jobs_at new i ≡ jobs_at old i) → Stories set had f trace rest (down ++ more) new client)
  turns_up x rest down more old new story never here others =
      let k : ℕ = x.frame.message.header.stream_id in
      at_one (λ (n : ℕ). Place (around set had client.next) n (here_at f trace rest (down ++ more) new client n)) k here
      (λ i e. elsewhere (unchanged (around set had client.next) i) (story i) refl refl (sym (under_other id_of i x rest e)) (others i e) (behind_other (IsNever k) k i (λ y d. d.stream) down more never e) refl refl)

  abbrev HereUp : Flying → List Flying → List Flying → List ActiveJob → Type 0
  HereUp x rest down jobs = let k : ℕ = x.frame.message.header.stream_id in IsAsked (around set had client.next) k (here_at f trace (x ∷ rest) down jobs client k) x (parcels k rest)

  abbrev HerePassed : Flying → List Flying → List Flying → List ActiveJob → Type 0
  HerePassed x rest down jobs = let k : ℕ = x.frame.message.header.stream_id in IsPassed (around set had client.next) k (here_at f trace (x ∷ rest) down jobs client k) x (parcels k rest)

  -- a job is made of a request
  makes : (newest : Option ℕ) (job : ActiveJob) (x : Flying) (rest down : List Flying) (old new : Scene Server SO SI) (sent : List Sent) → Stories set had f trace (x ∷ rest) down old.state.jobs.list client
      → Numbers f (counts old.state.jobs) (x ∷ rest) client.next → AreRight f new.state.jobs.list → SendsAll s.out old.outbox sent new.outbox → sent ≡ []
      → job.id ≡ old.state.jobs.last + 1 → new.state.jobs.list ≡ old.state.jobs.list ++ job ∷ [] → counts new.state.jobs ≡ (old.state.jobs.last + 1, newest) → Moves x old.state.jobs.newest newest
      → (a : HereUp x rest down old.state.jobs.list) → IsJob set.rules x.frame.message.header.stream_id (Some (asked_by (is_stream job.body) (request_of a.b))) job
      → (x.frame.message.header.flags ≡ flags_of a.b → IsMade a.b job.body) → (is_stream job.body ≡ true → nat_eq (x.frame.message.header.stream_id % 2) 0 ≡ false)
      → (set.clean → IsHeldBy set a.b (call_at client x.frame.message.header.stream_id) job) → ComesUp c s set had f trace rest down client old new
  unfolding nothing_refers
  makes newest job x rest down old new sent stories numbers right sends none id is last moves a is_job made odd held =
      let k : ℕ = x.frame.message.header.stream_id in
      let jobs : List ActiveJob = old.state.jobs.list in
      let mine = (all_behind (λ (j : ActiveJob). f j.id ≡ j.header.stream_id) jobs (job ∷ []) (subst (λ (js : List ActiveJob). AreRight f js) is right)).0 in
      let asked : asks x ≡ true = eq-eqb x.frame.message.header.type_ MESSAGE_TYPE_REQUEST a.known.server.is_work.type_ in
      refers_comes k rest down old new (nothing_refers c s k old.outbox new.outbox (none_sent s.out old.outbox sent new.outbox none sends))
      (turns_up x rest down [] jobs new.state.jobs.list stories tt
      (elsewhere (unchanged (around set had client.next) k) (arrives_here job a is_job made odd held) refl refl refl (ap (λ js. jobs_at js k) is ∙ pushed_own stream_id_of k job jobs is_job.stream) (ap (parcels k) (append-nil down)) refl refl)
      (λ i e. ap (λ js. jobs_at js i) is ∙ pushed_other stream_id_of i job jobs (λ same. e (sym is_job.stream ∙ same))))
      (subst (λ (n : ℕ × Option ℕ). Numbers f n rest client.next) (sym last)
      (made_of f (counts old.state.jobs) newest x rest client.next moves asked (ap f (sym id) ∙ mine ∙ is_job.stream) a.known.server.within numbers))

  -- nothing is made of a frame, and something may be answered
  refers : (newest : Option ℕ) (x : Flying) (rest down : List Flying) (old new : Scene Server SO SI) → Moves x old.state.jobs.newest newest → (asks x ≡ true → id_of x ≤ last_id) → Stories set had f trace (x ∷ rest) down old.state.jobs.list client
      → Numbers f (counts old.state.jobs) (x ∷ rest) client.next → new.state ≡ with_newest old.state newest → Refers c s x.frame.message.header.stream_id old.outbox new.outbox
      → ((a : HereUp x rest down old.state.jobs.list) × (set.clean → IsNoMethod set a.b)) ⊎ ((a : HerePassed x rest down old.state.jobs.list) × ((box_up a.so_far).receiver ≡ Open → (box_up a.so_far).ended ≡ true)) → ComesUp c s set had f trace rest down client old new
  refers newest x rest down old new moves within stories numbers same r at =
      let k : ℕ = x.frame.message.header.stream_id in
      let jobs : new.state.jobs.list ≡ old.state.jobs.list = ap (λ (t : Server). t.jobs.list) same in
      refers_comes k rest down old new r
      (subst (λ (js : List ActiveJob). Stories set had f trace rest (down ++ r.more) js client) (sym jobs)
      (turns_up x rest down r.more old.state.jobs.list old.state.jobs.list stories r.never
      (elim at [
        | inl a ↦ elsewhere (unchanged (around set had client.next) k) (refers_here r.more a.0 a.1 r.never r.turned) refl refl refl refl (behind_own (IsNever k) k (λ y d. d.stream) down r.more r.never) refl refl
        | inr a ↦ elsewhere (unchanged (around set had client.next) k) (passes_here r.more a.0 r.never r.turned a.1) refl refl refl refl (behind_own (IsNever k) k (λ y d. d.stream) down r.more r.never) refl refl
      ])
      (λ i e. refl)))
      (subst (λ (t : Server). Numbers f (counts t.jobs) rest client.next) (sym same) (passed_by f (counts old.state.jobs) newest x rest client.next moves within numbers))

  -- data are put in
  puts : (newest : Option ℕ) (payload : List ℕ) (now : ℕ) (x : Flying) (rest down : List Flying) (old new : Scene Server SO SI) (sent : List Sent) → Stories set had f trace (x ∷ rest) down old.state.jobs.list client
      → Numbers f (counts old.state.jobs) (x ∷ rest) client.next → SendsAll s.out old.outbox sent new.outbox
      → Does s.out (PutIn payload) (with_newest old.state newest) old.outbox.half x.frame.message.header now sent new.state → Moves x old.state.jobs.newest newest → HerePassed x rest down old.state.jobs.list → payload ≡ x.plain
      → ComesUp c s set had f trace rest down client old new
  unfolding nothing_refers
  puts newest payload now x rest down old new sent stories numbers sends does moves a is =
      let k : ℕ = x.frame.message.header.stream_id in
      let h : MessageHeader = x.frame.message.header in
      let g = changed_under k (brought_by h payload) in
      let none = none_sent s.out old.outbox sent new.outbox does.1 sends in
      let leaves = row_leaves s.out (PutIn payload) (with_newest old.state newest) old.outbox.half h now sent new.state does in
      refers_comes k rest down old new (nothing_refers c s k old.outbox new.outbox none)
      (turns_up x rest down [] old.state.jobs.list new.state.jobs.list stories tt
      (elsewhere (unchanged (around set had client.next) k) (puts_here g (under_stays k (brought_by h payload)) a (λ j mine. changed_body k payload h j mine ∙ ap (λ (plain : List ℕ). with_mail (brought_by h plain) j.body) is)) refl refl refl
      leaves.made (ap (parcels k) (append-nil down)) refl refl)
      (λ i e. leaves.elsewhere i (λ same. e (sym same))))
      (subst (λ (t : Server). Numbers f (counts t.jobs) rest client.next) (sym does.0) (passed_by f (counts old.state.jobs) newest x rest client.next moves (λ _. a.known.server.within) numbers))
    where
      changed_body : (k : ℕ) (payload : List ℕ) (h : MessageHeader) (j : ActiveJob) → j.header.stream_id ≡ k → (changed_under k (brought_by h payload) j).body ≡ with_mail (brought_by h payload) j.body
      changed_body k payload h j mine = rw (eq-eqb j.header.stream_id k mine) refl

  -- what its row makes of a request
  by_ask_row : (row : Row) (newest : Option ℕ) (now : ℕ) (x : Flying) (rest down : List Flying) (old new : Scene Server SO SI) (sent : List Sent) → old.state.rules ≡ set.rules → Stories set had f trace (x ∷ rest) down old.state.jobs.list client
      → Numbers f (counts old.state.jobs) (x ∷ rest) client.next → AreRight f new.state.jobs.list → SendsAll s.out old.outbox sent new.outbox
      → Does s.out row (with_newest old.state newest) old.outbox.half x.frame.message.header now sent new.state → Moves x old.state.jobs.newest newest → (a : HereUp x rest down old.state.jobs.list) → IsTimely set f trace client now → IsRowOf set.services x.frame.message.header.stream_id set.rules (request_of a.b) row
      → ComesUp c s set had f trace rest down client old new
  by_ask_row (MakeJob request) newest now x rest down old new sent ruled stories numbers right sends does moves a timely is =
      let k : ℕ = x.frame.message.header.stream_id in
      let job = new_job (old.state.jobs.last + 1) x.frame.message.header request (unary_body old.state.rules now request) in
      let kind : is_stream job.body ≡ false = unary_kind old.state.rules now request in
      makes newest job x rest down old new sent stories numbers right sends does.1 refl (ap (λ (t : Server). t.jobs.list) does.0) (ap (λ (t : Server). counts t.jobs) does.0) moves a
      (record {
        request = ap (λ (q : Request). Some q) is ∙ ap (λ (t : Bool). Some (asked_by t (request_of a.b))) (sym kind);
        stream = refl;
        kind = λ sync. kind;
      }) (λ flags. inl kind) (λ stream. let bad : true ≡ false = sym stream ∙ kind in cc)
      (λ clean. held_by set a.b (call_at client k) job now (λ q d is_call waits. timely clean k q d waits (one_call a q is_call)) (rw (ruled, is) refl))
  by_ask_row (MakeStream request) newest now x rest down old new sent ruled stories numbers right sends does moves a timely is =
      let job = new_job (old.state.jobs.last + 1) x.frame.message.header (without_payload request) (stream_body old.state.services.bare_openings x.frame.message.header.flags request.payload) in
      makes newest job x rest down old new sent stories numbers right sends does.1 refl (ap (λ (t : Server). t.jobs.list) does.0) (ap (λ (t : Server). counts t.jobs) does.0) moves a
      (record {
        request = ap (λ (q : Request). Some (without_payload q)) is.0;
        stream = refl;
        kind = λ sync. let bad : SyncRules ≡ AsyncRules = sym sync ∙ is.1 in cc;
      }) (λ flags. inr (old.state.services.bare_openings, stream_is old.state.services.bare_openings flags is.0)) (λ stream. is.2)
      (λ clean. no_held set a.b (call_at client x.frame.message.header.stream_id) job is.3)
    where
      stream_is : (bare : Bool) {flags flags2 : ℕ} {q q2 : Request} → flags ≡ flags2 → q ≡ q2 → stream_body bare flags q.payload ≡ stream_body bare flags2 q2.payload
      stream_is bare e same = rw (e, same) refl
  by_ask_row (SendResponse response) newest now x rest down old new sent ruled stories numbers right sends does moves a timely is =
      let k : ℕ = x.frame.message.header.stream_id in
      refers newest x rest down old new moves (λ _. a.known.server.within) stories numbers does.0
      (own_refers c s old.state.rules k response sent old.outbox new.outbox a.known.server.within is.0 does.1 sends)
      (inl (a, λ clean. refused_call set a.b x _ _ _ (a.known.tidy clean) is.1))
  by_ask_row row newest now x rest down old new sent ruled stories numbers right sends does moves a timely is = absurd is

  -- and of data
  by_item_row : (row : Row) (newest : Option ℕ) (now : ℕ) (x : Flying) (rest down : List Flying) (old new : Scene Server SO SI) (sent : List Sent) → Stories set had f trace (x ∷ rest) down old.state.jobs.list client
      → Numbers f (counts old.state.jobs) (x ∷ rest) client.next → SendsAll s.out old.outbox sent new.outbox
      → Does s.out row (with_newest old.state newest) old.outbox.half x.frame.message.header now sent new.state → Moves x old.state.jobs.newest newest → (a : HerePassed x rest down old.state.jobs.list) → old.state.rules ≡ set.rules → IsItemRow x.frame.message.header.stream_id old.state.rules (id_state_of (jobs_at old.state.jobs.list x.frame.message.header.stream_id)) x.plain row
      → ComesUp c s set had f trace rest down client old new
  by_item_row (PutIn payload) newest now x rest down old new sent stories numbers sends does moves a ruled is = puts newest payload now x rest down old new sent stories numbers sends does moves a is
  by_item_row (SendResponse response) newest now x rest down old new sent stories numbers sends does moves a ruled is =
      refers newest x rest down old new moves (λ _. a.known.server.within) stories numbers does.0
      (own_refers c s old.state.rules x.frame.message.header.stream_id response sent old.outbox new.outbox a.known.server.within is.0 does.1 sends) (inr (a, untaken a.so_far a.known a.none_else (λ async. is.1 (ruled ∙ async))))
  by_item_row Ignore newest now x rest down old new sent stories numbers sends does moves a ruled is =
      refers newest x rest down old new moves (λ _. a.known.server.within) stories numbers does.0 (nothing_refers c s x.frame.message.header.stream_id old.outbox new.outbox (none_sent s.out old.outbox sent new.outbox does.1 sends)) (inr (a, untaken a.so_far a.known a.none_else (λ async. is (ruled ∙ async))))
  by_item_row row newest now x rest down old new sent stories numbers sends does moves a ruled is = absurd is

  -- the row of a frame that arrives as it was sent
  abbrev case_at : Server → Flying → Case
  case_at t x = case_of t.rules x.frame.message.header (Opened x.plain) t.jobs.newest (id_state_of (jobs_at t.jobs.list x.frame.message.header.stream_id))

  abbrev row_at : Server → Flying → Row
  row_at t x = case_row t.rules t.services x.frame.message.header (case_at t x)

  -- the newest request behind it
  abbrev newest_at : Server → Flying → Option ℕ
  newest_at t x = newest_after t.rules x.frame.message.header.stream_id (case_at t x) t.jobs.newest

  asked_row_is : (x : Flying) (rest down : List Flying) (t : Server) → t.rules ≡ set.rules → t.services ≡ set.services → (a : HereUp x rest down t.jobs.list) → IsAbove x.frame.message.header.stream_id t.jobs.newest → IsRowOf set.services x.frame.message.header.stream_id set.rules (request_of a.b) (row_at t x)
  asked_row_is x rest down t ruled served a below =
      let h : MessageHeader = x.frame.message.header in
      let sent = a.known.server.is_work in
      let none : jobs_at t.jobs.list h.stream_id ≡ [] = a.known.server.jobs_is in
      rw (sent.plain, none, ruled, ← served) (ask_row set.rules t.services h (request_of a.b) t.jobs.newest sent.known sent.short below sent.type_)

  passed_row_is : (x : Flying) (rest down : List Flying) (t : Server) → (a : HerePassed x rest down t.jobs.list) → IsItemRow x.frame.message.header.stream_id t.rules (id_state_of (jobs_at t.jobs.list x.frame.message.header.stream_id)) x.plain (row_at t x)
  passed_row_is x rest down t a =
      let k : ℕ = x.frame.message.header.stream_id in
      let item : IsItem k x = (subst (λ (xs : List Flying). AllByRecursion (IsItem k) xs) a.items a.known.server.are_items).0 in
      item_row t.rules t.services x.frame.message.header x.plain t.jobs.newest (id_state_of (jobs_at t.jobs.list k)) item.short item.type_

  -- what becomes of the newest request
  asked_moves : (x : Flying) (rest down : List Flying) (t : Server) → HereUp x rest down t.jobs.list → Moves x t.jobs.newest (newest_at t x)
  asked_moves x rest down t a =
      let asked : asks x ≡ true = eq-eqb x.frame.message.header.type_ MESSAGE_TYPE_REQUEST a.known.server.is_work.type_ in
      elim (request_moves t.rules x.frame.message.header.stream_id (case_at t x) t.jobs.newest) [
        | inl same ↦ inl same
        | inr moved ↦ inr (asked, moved)
      ]

  passed_moves : (x : Flying) (rest down : List Flying) (t : Server) → HerePassed x rest down t.jobs.list → Moves x t.jobs.newest (newest_at t x)
  passed_moves x rest down t a =
      let k : ℕ = x.frame.message.header.stream_id in
      let item : IsItem k x = (subst (λ (xs : List Flying). AllByRecursion (IsItem k) xs) a.items a.known.server.are_items).0 in
      inl (data_leave t.rules x.frame.message.header x.plain t.jobs.newest (id_state_of (jobs_at t.jobs.list k)) item.short item.type_)

  -- one frame
  comes_up : (now : ℕ) (x : Flying) (rest down : List Flying) (old new : Scene Server SO SI) (sent : List Sent) → old.state.rules ≡ set.rules → old.state.services ≡ set.services → IsTimely set f trace client now
      → Does s.out (row_at old.state x) (with_newest old.state (newest_at old.state x)) old.outbox.half x.frame.message.header now sent new.state → SendsAll s.out old.outbox sent new.outbox
      → Stories set had f trace (x ∷ rest) down old.state.jobs.list client → Numbers f (counts old.state.jobs) (x ∷ rest) client.next → AreRight f new.state.jobs.list
      → ComesUp c s set had f trace rest down client old new
  comes_up now x rest down old new sent ruled served timely does sends stories numbers right =
      let k : ℕ = x.frame.message.header.stream_id in
      elim (comes_of x (parcels k rest) (stories k).origin (stories k).so_far (stories k).known (under_own id_of k x rest refl)) [
        | inl a ↦
            let asked : asks x ≡ true = eq-eqb x.frame.message.header.type_ MESSAGE_TYPE_REQUEST a.known.server.is_work.type_ in
            let below = seen_up old.state.jobs.newest numbers.low k (numbers.between.0 asked) numbers.seen in
            by_ask_row (row_at old.state x) (newest_at old.state x) now x rest down old new sent ruled stories numbers right sends does (asked_moves x rest down old.state a) a timely (asked_row_is x rest down old.state ruled served a below)
        | inr a ↦ by_item_row (row_at old.state x) (newest_at old.state x) now x rest down old new sent stories numbers sends does (passed_moves x rest down old.state a) a ruled (passed_row_is x rest down old.state a)
      ]

  -- frames, one after the other
  pub feeds_up : (now : ℕ) (front rest down : List Flying) (old new : Scene Server SO SI) → old.state.rules ≡ set.rules → old.state.services ≡ set.services → IsTimely set f trace client now
      → ActsOn (serving s.out s.in_) now old front new → Stories set had f trace (front ++ rest) down old.state.jobs.list client → Numbers f (counts old.state.jobs) (front ++ rest) client.next → AreRight f new.state.jobs.list
      → ComesUp c s set had f trace rest down client old new
  feeds_up now [] rest down old new ruled served timely p stories numbers right =
      subst (λ (x : Scene Server SO SI). ComesUp c s set had f trace rest down client old x) (sym p) (record {
        more = [];
        stories = subst (λ (d : List Flying). Stories set had f trace rest d old.state.jobs.list client) (sym (append-nil down)) stories;
        numbers = numbers;
        sent = λ y pipe flights way. rw append-nil way;
      })
  feeds_up now (x ∷ front) rest down old new ruled served timely p stories numbers right =
      let first = comes_up now x (front ++ rest) down old p.0 p.1 ruled served timely p.2 p.3 stories numbers (acts_right s f now front p.0 new p.4 right) in
      let leaves = row_leaves s.out _ _ _ _ now p.1 p.0.state p.2 in
      let later = feeds_up now front rest (down ++ first.more) p.0 new (leaves.rules ∙ ruled) (leaves.services ∙ served) timely p.4 first.stories first.numbers right in
      record {
        more = first.more ++ later.more;
        stories = subst (λ (d : List Flying). Stories set had f trace rest d new.state.jobs.list client) (append_assoc down first.more later.more) later.stories;
        numbers = later.numbers;
        sent = λ y pipe flights way. rw (← append_assoc) (later.sent y pipe (flights ++ first.more) (first.sent y pipe flights way));
      }

-- ---- a frame comes to the client

pub record ComesDown {CO CI : Type 0} (set : Settings) (had : ℕ → Bool) (f : ℕ → ℕ) (trace : List Entry) (up down : List Flying) (jobs : List ActiveJob) (old new : Scene Client CO CI) : Type 0 where
  pub stories : Stories set had f trace up down jobs new.state
  pub next : new.state.next ≡ old.state.next
  pub outbox : new.outbox ≡ old.outbox

module _ {CO CI : Type 0} (c : Halves CO CI) (set : Settings) (had : ℕ → Bool) (f : ℕ → ℕ) (trace : List Entry) where
  comes_down : (x : Flying) (up rest : List Flying) (jobs : List ActiveJob) (old new : Client) (sent : List Sent) (now : ℕ)
      → LandsOnce old (record { header = x.frame.message.header; opening = Opened x.plain; now = now }) sent new → Stories set had f trace up (x ∷ rest) jobs old
      → Stories set had f trace up rest jobs new
  comes_down x up rest jobs old new sent now p stories =
      let k : ℕ = x.frame.message.header.stream_id in
      let was = under_own id_of k x rest refl in
      let told = down_of x (parcels k rest) (stories k) was in
      let next : new.next ≡ old.next = ap (λ (s : Client). s.next) p.same in
      let later : (i : ℕ) → Later (around set had old.next) (around set had new.next) i = λ i. next_up set had old.next new.next i (omega (arith, next)) in
      at_one (λ (n : ℕ). Place (around set had new.next) n (here_at f trace up rest jobs new n)) k
      (elsewhere (later k) (lands_here {e = call_at new k} {st = stream_at new k} x (parcels k rest) (stories k) was (subst (λ (l : CallResult). LandsOn l (call_at old k) (call_at new k)) told.lands p.lands.own) p.reaches.own) refl refl refl refl refl refl refl)
      (λ i e. elsewhere (later i) (stories i) refl refl refl refl (sym (under_other id_of i x rest e)) (p.lands.others i (λ same. e (sym same))) (p.reaches.others i (λ same. e (sym same))))

  pub feeds_down : (now : ℕ) (front up rest : List Flying) (jobs : List ActiveJob) (old new : Scene Client CO CI)
      → ActsOn (calling c.out c.in_) now old front new → Stories set had f trace up (front ++ rest) jobs old.state
      → ComesDown set had f trace up rest jobs old new
  feeds_down now [] up rest jobs old new p stories =
      subst (λ (x : Scene Client CO CI). ComesDown set had f trace up rest jobs old x) (sym p) (record { stories = stories; next = refl; outbox = refl })
  feeds_down now (x ∷ front) up rest jobs old new p stories =
      let first = comes_down x up (front ++ rest) jobs old.state p.0.state p.1 now p.2 stories in
      let later = feeds_down now front up rest jobs p.0 new p.4 first in
      record { stories = later.stories; next = later.next ∙ ap (λ (s : Client). s.next) p.2.same; outbox = later.outbox ∙ none_sent c.out old.outbox p.1 p.0.outbox p.2.sent_is p.3 }

-- The stream of each job. There is one function that is right at every state of a run; the streams of the jobs that were
-- made rise, and so do the ids of the requests in flight, from above them to below the client's next. So no two jobs have
-- the same stream.
use Rattle.ttrpc_pair.proofs.Words.{AreChanged, JobsLeft, same_jobs, unheard}
use Rattle.ttrpc_pair.specs.Types.{IsAbove}
use Rattle.ttrpc_world.proofs.Payloads.{seen_up}
use Rattle.ttrpc_world.proofs.Serves.{acts_so, one_less, passes_so}
use Rattle.ttrpc_world.proofs.Words.{[], ActiveJob, ActsAll, ActsOn, all_at, all_changed, all_in_front, all_less, AllByRecursion, Answer, ap, arith, AsyncRules, at_stays, Bool, cases_lt, cases_order, changed_at, ClientSide, cond-false, cond-true, Count, Deliver, Done, DropReceiver, EndsOne, EndStream, Entry, eq-eqb, Error, Event, ExpiresOne, Failure, false, filter, Finish, Flying, flying_without, Halves, Handed, header_of_frame, id_of, if◌then◌else◌, Incoming, inl, inr, IsFresh, IsOneToOne, IsRightAt, IsStreamOf, Item, Job, JobList, last_id, left_behind, List, Mail, map, MESSAGE_TYPE_REQUEST, MessageHeader, nat_eq, ne_eqb, Net, None, on_mail, Option, OutboundTransform, Outbox, ReceivesBy, Recv, refl, Refused, Reply, Result, Rules, row_leaves, rules, Runs, Scene, scene, Server, ServerCore, ServerEnd, ServerSide, serving, Some, stays, StaysFound, Steps, subst, sym, SyncRules, Take, Tick, true, with_server, without_receiver, ℕ, ◌++◌, ◌+◌, ◌<◌, ◌∙◌, ◌∷◌, ◌≡◌, ◌≤◌, ◌⊎◌}

-- ---- streams that rise

-- jobs were made up to the number `last`, of streams that rise, all below `low`
pub record Rise (f : ℕ → ℕ) (last low : ℕ) : Type 0 where
  pub rise : (i j : ℕ) → 0 < i → i < j → j ≤ last → f i < f j
  pub below : (j : ℕ) → 0 < j → j ≤ last → f j < low

-- one more is made, of a stream above the others'
one_made : (f : ℕ → ℕ) (last low s : ℕ) → f (last + 1) ≡ s → low ≤ s → Rise f last low → Rise f (last + 1) (s + 1)
one_made f last low s is more n = record {
  rise = λ i j a b c. elim (cases_lt last j) [
    | inl e ↦ let top : j ≡ last + 1 = omega (arith, c, e) in omega (arith, n.below i a (omega (arith, b, top)), more, is, ap f top)
    | inr e ↦ n.rise i j a b e
  ];
  below = λ j a b. elim (cases_lt last j) [
    | inl e ↦ let top : j ≡ last + 1 = omega (arith, b, e) in omega (arith, is, ap f top)
    | inr e ↦ omega (arith, n.below j a e, more)
  ];
}

-- whether a flight is a request
abbrev pub asks : Flying → Bool
asks x = nat_eq x.frame.message.header.type_ MESSAGE_TYPE_REQUEST

-- the number behind a flight's id, if it is a request
abbrev pub past : Bool → ℕ → ℕ → ℕ
past true low id = id + 1
past false low id = low

-- the ids of the requests among these flights rise, from the one number on to below the other
abbrev pub Between : ℕ → List Flying → ℕ → Type 0
Between low [] high = low ≤ high
Between low (x ∷ xs) high = (asks x ≡ true → low ≤ id_of x) × Between (past (asks x) low (id_of x)) xs high

past_up : (t : Bool) (low id : ℕ) → (t ≡ true → low ≤ id) → low ≤ past t low id
past_up true low id h = omega (arith, h refl)
past_up false low id h = omega arith

lower_past : (t : Bool) (low low2 id : ℕ) (xs : List Flying) (high : ℕ) → (Between low xs high → Between low2 xs high) → Between (past t low id) xs high → Between (past t low2 id) xs high
lower_past true low low2 id xs high later h = h
lower_past false low low2 id xs high later h = later h

lower : (low low2 : ℕ) (xs : List Flying) (high : ℕ) → low2 ≤ low → Between low xs high → Between low2 xs high
lower low low2 [] high le h = omega (arith, le, h)
lower low low2 (x ∷ xs) high le h = (λ e. omega (arith, le, h.0 e), lower_past (asks x) low low2 (id_of x) xs high (λ k. lower low low2 xs high le k) h.1)

-- one more is queued
last_past : (t : Bool) (low next next2 id : ℕ) → low ≤ next → past t next id ≤ next2 → past t low id ≤ next2
last_past true low next next2 id le h = h
last_past false low next next2 id le h = omega (arith, le, h)

pub more_between : (low : ℕ) (xs : List Flying) (x : Flying) (next next2 : ℕ) → (asks x ≡ true → next ≤ id_of x) → past (asks x) next (id_of x) ≤ next2 → Between low xs next → Between low (xs ++ x ∷ []) next2
more_between low [] x next next2 le lt h = (λ e. omega (arith, h, le e), last_past (asks x) low next next2 (id_of x) h lt)
more_between low (y ∷ xs) x next next2 le lt h = (h.0, more_between (past (asks y) low (id_of y)) xs x next next2 le lt h.1)

-- some are thrown away
kept_at : (b : Bool) (low : ℕ) (x : Flying) (xs : List Flying) (high : ℕ) → (asks x ≡ true → low ≤ id_of x) → Between (past (asks x) low (id_of x)) xs high → Between low (if b then x ∷ xs else xs) high
kept_at true low x xs high le h = (le, h)
kept_at false low x xs high le h = lower (past (asks x) low (id_of x)) low xs high (past_up (asks x) low (id_of x) le) h

kept_between : (keep : Flying → Bool) (low : ℕ) (xs : List Flying) (high : ℕ) → Between low xs high → Between low (filter keep xs) high
kept_between keep low [] high h = h
kept_between keep low (x ∷ xs) high h = kept_at (keep x) low x (filter keep xs) high h.0 (kept_between keep (past (asks x) low (id_of x)) xs high h.1)

behind_between : (keep : Flying → Bool) (low : ℕ) (front back : List Flying) (high : ℕ) → Between low (front ++ back) high → Between low (front ++ filter keep back) high
behind_between keep low [] back high h = kept_between keep low back high h
behind_between keep low (x ∷ front) back high h = (h.0, behind_between keep (past (asks x) low (id_of x)) front back high h.1)

pub thrown_between : (owners : ℕ → Bool) (n : ℕ) (transit queued : List Flying) (low high : ℕ) → Between low (transit ++ queued) high → Between low (transit ++ flying_without owners n queued) high
thrown_between owners n transit queued low high =
    left_behind (λ all left. Between low all high → Between low left high) owners n transit queued (λ front back. behind_between (stays owners) low front back high)

-- the number of the last job, and the id of the newest request
abbrev pub counts : JobList → ℕ × Option ℕ
counts js = (js.last, js.newest)

-- THE NUMBERS OF A STATE: jobs made have streams that rise, all below some id, as is the newest request, and the requests in
-- flight rise from it on to below the client's next.
pub record Numbers (f : ℕ → ℕ) (n : ℕ × Option ℕ) (up : List Flying) (next : ℕ) : Type 0 where
  pub low : ℕ
  pub within : low ≤ last_id + 1
  pub seen : IsAbove low n.1
  pub rise : Rise f n.0 low
  pub between : Between low up next

pub fresh_numbers : (f : ℕ → ℕ) (next : ℕ) → Numbers f (0, None) [] next
fresh_numbers f next =
    let none : Rise f 0 0 = record { rise = λ i j a b c. absurd (let no : ⊥ = omega (arith, a, b, c) in no); below = λ j a b. absurd (let no : ⊥ = omega (arith, a, b) in no) } in
    record { low = 0; within = omega arith; seen = tt; rise = none; between = omega arith }

-- other requests are in flight
pub other_requests : {f : ℕ → ℕ} {last : ℕ × Option ℕ} {next next2 : ℕ} {up up2 : List Flying} → (n : Numbers f last up next) → Between n.low up2 next2 → Numbers f last up2 next2
other_requests n between = record { low = n.low; within = n.within; seen = n.seen; rise = n.rise; between = between }

-- what becomes of the newest request at a flight: it stays, or the flight is a request, which is it now
abbrev pub Moves : Flying → Option ℕ → Option ℕ → Type 0
Moves x old new = (new ≡ old) ⊎ ((asks x ≡ true) × (new ≡ Some (id_of x)))

seen_moves : (x : Flying) (old new : Option ℕ) (low low2 : ℕ) → Moves x old new → low ≤ low2 → (asks x ≡ true → id_of x < low2) → IsAbove low old → IsAbove low2 new
seen_moves x old new low low2 (inl same) le own below = rw same (seen_up old low low2 le below)
seen_moves x old new low low2 (inr moved) le own below = rw moved.1 (own moved.0)

-- behind a request's id
below_past : (t : Bool) (low id : ℕ) → t ≡ true → id < past t low id
below_past true low id is = omega arith
below_past false low id is = cc

past_within : (t : Bool) (low id : ℕ) → low ≤ last_id + 1 → (t ≡ true → id ≤ last_id) → past t low id ≤ last_id + 1
past_within true low id le own = omega (arith, own refl)
past_within false low id le own = le

-- the first flight is gone, and no job was made of it
pub passed_by : (f : ℕ → ℕ) (old : ℕ × Option ℕ) (newest : Option ℕ) (x : Flying) (up : List Flying) (next : ℕ) → Moves x old.1 newest → (asks x ≡ true → id_of x ≤ last_id) → Numbers f old (x ∷ up) next
    → Numbers f (old.0, newest) up next
passed_by f old newest x up next moves own n =
    let le = past_up (asks x) n.low (id_of x) n.between.0 in
    record {
      low = past (asks x) n.low (id_of x);
      within = past_within (asks x) n.low (id_of x) n.within own;
      seen = seen_moves x old.1 newest n.low (past (asks x) n.low (id_of x)) moves le (below_past (asks x) n.low (id_of x)) n.seen;
      rise = record { rise = n.rise.rise; below = λ j a b. omega (arith, le, n.rise.below j a b) };
      between = n.between.1;
    }

-- a job was made of it
pub made_of : (f : ℕ → ℕ) (old : ℕ × Option ℕ) (newest : Option ℕ) (x : Flying) (up : List Flying) (next : ℕ) → Moves x old.1 newest → asks x ≡ true → f (old.0 + 1) ≡ id_of x → id_of x ≤ last_id → Numbers f old (x ∷ up) next
    → Numbers f (old.0 + 1, newest) up next
made_of f old newest x up next moves is_asked is within n = record {
  low = id_of x + 1;
  within = omega (arith, within);
  seen = let le = n.between.0 is_asked in seen_moves x old.1 newest n.low (id_of x + 1) moves (omega (arith, le)) (λ e. omega arith) n.seen;
  rise = one_made f old.0 n.low (id_of x) is (n.between.0 is_asked) n.rise;
  between = subst (λ (t : Bool). Between (past t n.low (id_of x)) up next) is_asked n.between.1;
}

-- one more is queued, a request of the client's next id, or data
pub asked_more : (f : ℕ → ℕ) (last : ℕ × Option ℕ) (up : List Flying) (x : Flying) (next next2 : ℕ) → next ≤ id_of x → id_of x + 1 ≤ next2 → next ≤ next2 → Numbers f last up next → Numbers f last (up ++ x ∷ []) next2
asked_more f last up x next next2 le lt more n = other_requests n (more_between n.low up x next next2 (λ e. le) (by (asks x)) n.between)
  where
    by : (t : Bool) → past t next (id_of x) ≤ next2
    by true = lt
    by false = more

pub items_more : (f : ℕ → ℕ) (last : ℕ × Option ℕ) (up : List Flying) (x : Flying) (next : ℕ) → asks x ≡ false → Numbers f last up next → Numbers f last (up ++ x ∷ []) next
items_more f last up x next item n =
    other_requests n (more_between n.low up x next next (λ e. let bad : true ≡ false = sym e ∙ item in cc) (subst (λ (t : Bool). past t next (id_of x) ≤ next) (sym item) (omega arith)) n.between)

-- ---- a function that is right for the jobs that are left, and spare beyond the last

-- above all streams
abbrev above : ℕ
above = last_id + 1

abbrev IsPlaced : (ℕ → ℕ) → ℕ → ActiveJob → Type 0
IsPlaced f n j = (f j.id ≡ j.header.stream_id) × (j.id ≤ n)

abbrev AreBelow : (ℕ → ℕ) → ℕ → List ActiveJob → Type 0
AreBelow f n jobs = AllByRecursion (IsPlaced f n) jobs

record Placed (f : ℕ → ℕ) (jobs : JobList) : Type 0 where
  below : AreBelow f jobs.last jobs.list
  beyond : (j : ℕ) → jobs.last < j → f j ≡ above + j

-- what a step makes of it: it stays for the jobs that were made
record Goes (f : ℕ → ℕ) (old new : JobList) : Type 0 where
  g : ℕ → ℕ
  agrees : (j : ℕ) → j ≤ old.last → g j ≡ f j
  more : old.last ≤ new.last
  placed : Placed g new

-- no job is made
stay_placed : (f : ℕ → ℕ) (old new : JobList) → new.last ≡ old.last → AreBelow f old.last new.list → Placed f old → Goes f old new
stay_placed f old new last below p = record {
  g = f;
  agrees = λ j h. refl;
  more = omega (arith, last);
  placed = record { below = subst (λ (m : ℕ). AreBelow f m new.list) (sym last) below; beyond = λ j h. p.beyond j (omega (arith, h, last)) };
}

same_placed : (f : ℕ → ℕ) (old new : JobList) → new ≡ old → Placed f old → Goes f old new
same_placed f old new same p = subst (λ (js : JobList). Goes f old js) (sym same) (stay_placed f old old refl p.below p)

then_goes : (f : ℕ → ℕ) (a b c : JobList) → Goes f a b → ((g : ℕ → ℕ) → Placed g b → Goes g b c) → Goes f a c
then_goes f a b c one later =
    let two = later one.g one.placed in
    record { g = two.g; agrees = λ j h. two.agrees j (omega (arith, h, one.more)) ∙ one.agrees j h; more = omega (arith, one.more, two.more); placed = two.placed }

-- one more job
abbrev moved : (ℕ → ℕ) → ℕ → ℕ → ℕ → ℕ
moved f n s j = if nat_eq j (n + 1) then s else f j

moved_other : (f : ℕ → ℕ) (n s j : ℕ) → (j ≡ n + 1 → ⊥) → moved f n s j ≡ f j
moved_other f n s j other = cond-false (nat_eq j (n + 1)) _ _ (ne_eqb j (n + 1) other)

moved_below : (f : ℕ → ℕ) (n s j : ℕ) → j ≤ n → moved f n s j ≡ f j
moved_below f n s j h = moved_other f n s j (λ e. absurd (let no : ⊥ = omega (arith, h, e) in no))

jobs_make : (f : ℕ → ℕ) (n : ℕ) (job : ActiveJob) (js : List ActiveJob) → job.id ≡ n + 1 → AreBelow f n js → AreBelow (moved f n job.header.stream_id) (n + 1) (js ++ job ∷ [])
jobs_make f n job [] id h = ((cond-true (nat_eq job.id (n + 1)) _ _ (eq-eqb job.id (n + 1) id), omega (arith, id)), tt)
jobs_make f n job (j ∷ js) id h = ((moved_below f n job.header.stream_id j.id h.0.1 ∙ h.0.0, omega (arith, h.0.1)), jobs_make f n job js id h.1)

make_placed : (f : ℕ → ℕ) (old new : JobList) (job : ActiveJob) → job.id ≡ old.last + 1 → new.last ≡ old.last + 1 → new.list ≡ old.list ++ job ∷ [] → Placed f old → Goes f old new
make_placed f old new job id last list p = record {
  g = moved f old.last job.header.stream_id;
  agrees = λ j h. moved_below f old.last job.header.stream_id j h;
  more = omega (arith, last);
  placed = record {
    below = rw (last, list) (jobs_make f old.last job old.list id p.below);
    beyond = λ j h. moved_other f old.last job.header.stream_id j (λ e. absurd (let no : ⊥ = omega (arith, h, e, last) in no)) ∙ p.beyond j (omega (arith, h, last));
  };
}

-- ---- mailboxes change

changed_one : (old new : List ActiveJob) (id : ℕ) (change : Mail → Mail) → new ≡ on_mail id change old → AreChanged old new
changed_one old new id change is = record { g = changed_at id change; found = at_stays id change; is = is }

-- an item was asked for of a job's stream
pub received : (r : Rules) (failure : Option Failure) (s : Server) (id : ℕ) (given : Option (Result (List ℕ) Error)) (new : List ActiveJob) → ReceivesBy r failure s id given new → AreChanged s.jobs.list new
received SyncRules failure s id given new h = same_jobs s.jobs.list new h.1
received AsyncRules failure s id given new (inl h) = changed_one s.jobs.list new id (λ _. h.1) h.4
received AsyncRules failure s id given new (inr h) = same_jobs s.jobs.list new h.1

jobs_map : (f : ℕ → ℕ) (n : ℕ) (change : ActiveJob → ActiveJob) → StaysFound change → (js : List ActiveJob) → AreBelow f n js → AreBelow f n (map change js)
jobs_map f n change stay [] h = tt
jobs_map f n change stay (j ∷ js) h = (rw (stay.id j, stay.header j) h.0, jobs_map f n change stay js h.1)

changed_goes : (f : ℕ → ℕ) (old new : JobList) → new.last ≡ old.last → AreChanged old.list new.list → Placed f old → Goes f old new
changed_goes f old new last c p = stay_placed f old new last (subst (λ (js : List ActiveJob). AreBelow f old.last js) (sym c.is) (jobs_map f old.last c.g c.found old.list p.below)) p

-- a row makes a job, or changes mailboxes
row_goes : (f : ℕ → ℕ) (old new : JobList) → JobsLeft old new → Placed f old → Goes f old new
row_goes f old new (inl made) p = make_placed f old new made.0 made.1 made.2 made.3 p
row_goes f old new (inr changed) p = changed_goes f old new changed.1 changed.0 p

-- one job expires
expires_go : {O : Type 0} (out : OutboundTransform O) (old mid new : Server) (from between to : Outbox O) (job : ActiveJob) → ExpiresOne out old from job mid between → ((f : ℕ → ℕ) → Placed f mid.jobs → Goes f mid.jobs new.jobs) → (f : ℕ → ℕ) → Placed f old.jobs → Goes f old.jobs new.jobs
expires_go out old mid new from between to job e later f p =
    let list : mid.jobs.list ≡ e.at.front ++ e.at.back = ap (λ (t : Server). t.jobs.list) e.state in
    then_goes f old.jobs mid.jobs new.jobs (stay_placed f old.jobs mid.jobs (ap (λ (t : Server). t.jobs.last) e.state)
    (subst (λ (xs : List ActiveJob). AreBelow f old.jobs.last xs) (sym list) (all_less (IsPlaced f old.jobs.last) e.at.front e.at.back job (subst (λ (xs : List ActiveJob). AreBelow f old.jobs.last xs) e.at.is p.below))) p) later

acts_go : {O I : Type 0} (h : Halves O I) (f : ℕ → ℕ) (now : ℕ) (fs : List Incoming) (old new : Scene Server O I) → ActsAll (serving h.out h.in_) now old fs new → Placed f old.state.jobs → Goes f old.state.jobs new.state.jobs
acts_go h f now fs old new a =
    acts_so (serving h.out h.in_) now (λ x y. (g : ℕ → ℕ) → Placed g x.state.jobs → Goes g x.state.jobs y.state.jobs) (λ x g p. same_placed g x.state.jobs x.state.jobs refl p)
    (λ i is x y b later g p. then_goes g x.state.jobs b.0.state.jobs y.state.jobs (row_goes g x.state.jobs b.0.state.jobs (row_leaves h.out _ _ x.outbox.half (header_of_frame i) now b.1.sent b.0.state b.1.reacts).jobs p) later) fs old new a f

ends_go : (f : ℕ → ℕ) (old new : JobList) (id : ℕ) (job : ActiveJob) → new.last ≡ old.last → EndsOne old.list id job new.list → Placed f old → Goes f old new
ends_go f old new id job last t p =
    stay_placed f old new last (subst (λ (js : List ActiveJob). AreBelow f old.last js) (sym t.jobs) (all_less (IsPlaced f old.last) t.at.front t.at.back job (subst (λ (js : List ActiveJob). AreBelow f old.last js) t.at.is p.below))) p

-- ---- it is right

abbrev IsRight : (ℕ → ℕ) → ActiveJob → Type 0
IsRight f j = f j.id ≡ j.header.stream_id

-- it gives each of these jobs its stream
abbrev pub AreRight : (ℕ → ℕ) → List ActiveJob → Type 0
AreRight f jobs = AllByRecursion (IsRight f) jobs

right_of : (f g : ℕ → ℕ) (n : ℕ) (js : List ActiveJob) → ((j : ℕ) → j ≤ n → g j ≡ f j) → AreBelow f n js → AreRight g js
right_of f g n [] same h = tt
right_of f g n (j ∷ js) same h = (same j.id h.0.1 ∙ h.0.0, right_of f g n js same h.1)

right_unmap : (f : ℕ → ℕ) (change : ActiveJob → ActiveJob) → StaysFound change → (js : List ActiveJob) → AreRight f (map change js) → AreRight f js
right_unmap f change stay [] h = tt
right_unmap f change stay (j ∷ js) h = (ap f (sym (stay.id j)) ∙ h.0 ∙ ap (λ (x : MessageHeader). x.stream_id) (stay.header j), right_unmap f change stay js h.1)

-- what is right behind a frame was right before
row_right : (f : ℕ → ℕ) (old new : JobList) → JobsLeft old new → AreRight f new.list → AreRight f old.list
row_right f old new (inl made) right = all_in_front (IsRight f) old.list _ (subst (λ (js : List ActiveJob). AreRight f js) made.3 right)
row_right f old new (inr changed) right = right_unmap f changed.0.g changed.0.found old.list (subst (λ (js : List ActiveJob). AreRight f js) changed.0.is right)

pub acts_right : {O I : Type 0} (h : Halves O I) (f : ℕ → ℕ) (now : ℕ) (front : List Flying) (old new : Scene Server O I) → ActsOn (serving h.out h.in_) now old front new
    → AreRight f new.state.jobs.list → AreRight f old.state.jobs.list
acts_right h f now [] old new a right = subst (λ (x : Scene Server _ _). AreRight f x.state.jobs.list) a right
acts_right h f now (x ∷ front) old new a right = row_right f old.state.jobs a.0.state.jobs (row_leaves h.out _ _ _ _ now a.1 a.0.state a.2).jobs (acts_right h f now front a.0 new a.4 right)

-- ---- at every state of a run

module _ {CO CI SO SI : Type 0} (c : Halves CO CI) (s : Halves SO SI) (seals : Bool) where
  abbrev jobs : Net CO CI SO SI → JobList
  jobs w = w.server.state.jobs

  hand_goes : (f : ℕ → ℕ) (w v : Net CO CI SO SI) (job : Job) → Steps c s seals w Take (Handed (Some job)) v → Placed f (jobs w) → Goes f (jobs w) (jobs v)
  hand_goes f w v job q p =
      let t = q.0.hands in
      let n : ℕ = w.server.state.jobs.last in
      let below = subst (λ (js : List ActiveJob). AreBelow f n js) t.was p.below in
      let here = all_at (IsPlaced f n) t.front t.back t.job below in
      stay_placed f (jobs w) (jobs v) (ap (λ (z : ServerCore SO SI). z.state.jobs.last) q.0.same)
      (subst (λ (js : List ActiveJob). AreBelow f n js) (sym t.jobs) (all_changed (IsPlaced f n) t.front t.back t.job (record t.job { request = None }) here below)) p

  goes : (f : ℕ → ℕ) (w : Net CO CI SO SI) (event : Event) (reply : Reply) (v : Net CO CI SO SI) → Placed f (jobs w) → Steps c s seals w event reply v → Goes f (jobs w) (jobs v)
  goes f w Take (Handed (Some job)) v p q = hand_goes f w v job q p
  goes f w (Answer id result) Done v p q = let t = one_less c s seals w.server id result v.server q.0 in ends_go f (jobs w) (jobs v) id t.0 (ap (λ (z : Server). z.jobs.last) t.2) t.1 p
  goes f w (EndStream id result) Done v p q = let t = q.0 in ends_go f (jobs w) (jobs v) id t.job (ap (λ (z : ServerCore SO SI). z.state.jobs.last) t.same) t.ends p
  goes f w (Recv (ServerEnd id)) (Item given) v p q =
      changed_goes f (jobs w) (jobs v) (ap (λ (z : ServerCore SO SI). z.state.jobs.last) q.0.same) (received w.server.state.rules w.server.connection.failure w.server.state id given v.server.state.jobs.list q.0.own) p
  goes f w (DropReceiver (ServerEnd id)) Done v p q =
      subst (λ (x : Net CO CI SO SI). Goes f (jobs w) (jobs x)) (sym q.1) (changed_goes f (jobs w) (jobs (with_server w (unheard w.server id))) refl (changed_one w.server.state.jobs.list _ id without_receiver refl) p)
  goes f w (Tick now) Done v p q =
      passes_so s.out (λ a x b y. (g : ℕ → ℕ) → Placed g a.jobs → Goes g a.jobs b.jobs) (λ a x g placed. same_placed g a.jobs a.jobs refl placed) (expires_go s.out) w.server.state.rules w.server.connection.failure w.server now v.server q.serves f p
  goes f w (Finish id) Done v p q = let t = q.0 in ends_go f (jobs w) (jobs v) id t.job (ap (λ (z : ServerCore SO SI). z.state.jobs.last) t.same) t.ends p
  goes f w (Deliver ServerSide n) (Count k) v p (inl q) = acts_go s f w.moment q.does.does.frames (scene w.server.state w.server.connection) (scene v.server.state q.does.mid) q.does.does.acts p
  goes f w (Deliver ServerSide n) (Count k) v p (inr q) = same_placed f (jobs w) (jobs v) (ap jobs q.only) p
  goes f w (Deliver at n) (Refused told) v p (inr q) = same_placed f (jobs w) (jobs v) (ap jobs q.1) p
  goes f w (Deliver ServerSide n) (Refused told) v p (inl q) =
      subst (λ (z : Server). Goes f (jobs w) z.jobs) (sym q.0.state) (acts_go s f w.moment q.0.frames (scene w.server.state w.server.connection) q.0.mid q.0.acts p)
  goes f w (Deliver ClientSide n) (Refused told) v p (inl q) = same_placed f (jobs w) (jobs v) (ap jobs q.1) p
  goes f w event reply v p q = let same : jobs v ≡ jobs w = first_of (cc, search rules) in same_placed f (jobs w) (jobs v) same p

  -- THE FUNCTION IS RIGHT AT EVERY STATE of a run.
  abbrev pub IsRightRun : (ℕ → ℕ) → (w : Net CO CI SO SI) (trace : List Entry) (v : Net CO CI SO SI) → Runs c s seals w trace v → Type 0
  IsRightRun f w [] v r = AreRight f w.server.state.jobs.list
  IsRightRun f w (e ∷ trace) v r = AreRight f w.server.state.jobs.list × IsRightRun f r.0 trace v r.2

  record Foreseen (f : ℕ → ℕ) (w : Net CO CI SO SI) (trace : List Entry) (v : Net CO CI SO SI) (r : Runs c s seals w trace v) : Type 0 where
    g : ℕ → ℕ
    agrees : (j : ℕ) → j ≤ w.server.state.jobs.last → g j ≡ f j
    right : IsRightRun g w trace v r
    beyond : (j : ℕ) → v.server.state.jobs.last < j → g j ≡ above + j

  foresee : (f : ℕ → ℕ) (w : Net CO CI SO SI) (trace : List Entry) (v : Net CO CI SO SI) (r : Runs c s seals w trace v) → Placed f (jobs w) → Foreseen f w trace v r
  foresee f w [] v r p = record {
    g = f;
    agrees = λ j h. refl;
    right = right_of f f w.server.state.jobs.last w.server.state.jobs.list (λ j h. refl) p.below;
    beyond = λ j h. p.beyond j (omega (arith, h, ap (λ (x : Net _ _ _ _). x.server.state.jobs.last) r));
  }
  foresee f w (e ∷ trace) v r p =
      let one = goes f w e.event e.reply r.0 p r.1 in
      let later = foresee one.g r.0 trace v r.2 one.placed in
      let same : (j : ℕ) → j ≤ w.server.state.jobs.last → later.g j ≡ f j = λ j h. later.agrees j (omega (arith, h, one.more)) ∙ one.agrees j h in
      record { g = later.g; agrees = same; right = (right_of f later.g w.server.state.jobs.last w.server.state.jobs.list same p.below, later.right); beyond = later.beyond }

  -- what is right for the jobs of a state is right for the one that is handed out there
  handed_right : (f : ℕ → ℕ) (w : Net CO CI SO SI) (event : Event) (reply : Reply) (v : Net CO CI SO SI) → AreRight f w.server.state.jobs.list → Steps c s seals w event reply v → IsRightAt f event reply
  handed_right f w Take (Handed (Some job)) v right q =
      let t = q.0.hands in
      ap f t.id ∙ all_at (IsRight f) t.front t.back t.job (subst (λ (js : List ActiveJob). AreRight f js) t.was right) ∙ sym (ap (λ (h : MessageHeader). h.stream_id) t.header)
  handed_right f w event reply v right q = tt

  pub stream_of_run : (f : ℕ → ℕ) (w : Net CO CI SO SI) (trace : List Entry) (v : Net CO CI SO SI) (r : Runs c s seals w trace v) → IsRightRun f w trace v r → IsStreamOf f trace
  stream_of_run f w [] v r right = tt
  stream_of_run f w (e ∷ trace) v r right = (handed_right f w e.event e.reply r.0 right.0 r.1, stream_of_run f r.0 trace v r.2 right.1)

  -- what is known of it from a fresh start
  pub record Streams (w : Net CO CI SO SI) (trace : List Entry) (v : Net CO CI SO SI) (r : Runs c s seals w trace v) : Type 0 where
    pub f : ℕ → ℕ
    pub right : IsRightRun f w trace v r
    pub zero_ : f 0 ≡ last_id + 1
    pub beyond : (j : ℕ) → v.server.state.jobs.last < j → f j ≡ last_id + 1 + j

  pub streams_of : (w : Net CO CI SO SI) (trace : List Entry) (v : Net CO CI SO SI) → IsFresh c s w → (r : Runs c s seals w trace v) → Streams w trace v r
  streams_of w trace v fresh r =
      let start : Placed (λ j. above + j) (jobs w) = subst (λ (x : ServerCore _ _). Placed (λ j. above + j) x.state.jobs) (sym fresh.server) (record { below = tt; beyond = λ j h. refl }) in
      let seen = foresee (λ j. above + j) w trace v r start in
      record { f = seen.g; right = seen.right; zero_ = seen.agrees 0 (omega arith) ∙ omega arith; beyond = seen.beyond }

-- ---- no two jobs the same

pub one_to_one : (f : ℕ → ℕ) (last low : ℕ) → Rise f last low → f 0 ≡ last_id + 1 → ((j : ℕ) → last < j → f j ≡ last_id + 1 + j) → low ≤ last_id + 1 → IsOneToOne f
one_to_one f last low n none beyond top i j same = elim (cases_order i j) [
  | inl e ↦ e
  | inr (inl less) ↦ absurd (apart i j less same)
  | inr (inr more) ↦ absurd (apart j i more (sym same))
]
  where
    apart : (i j : ℕ) → i < j → f i ≡ f j → ⊥
    apart i j less same = elim (cases_lt 0 i) [
      | inl some ↦ elim (cases_lt last j) [
        | inl far ↦ elim (cases_lt last i) [
          | inl both ↦ omega (arith, beyond i both, beyond j far, same, less)
          | inr made ↦ omega (arith, n.below i some made, beyond j far, same, top)
        ]
        | inr made ↦ omega (arith, n.rise i j some less made, same)
      ]
      | inr none_ ↦
          let first : f i ≡ last_id + 1 = ap f (let zero_ : i ≡ 0 = omega (arith, none_) in zero_) ∙ none in
          elim (cases_lt last j) [
            | inl far ↦ omega (arith, first, beyond j far, same, far)
            | inr made ↦ omega (arith, first, n.below j (omega (arith, less)) made, same, top)
          ]
    ]

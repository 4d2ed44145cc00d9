-- What lasts through every list of calls: the ids of jobs rise, a stream's id has one active job under async rules, and a
-- job that was given or expired is never given.
use Rattle.ttrpc_server.proofs.Words.{arith, inl, inr, ◌≡◌, ◌≢◌, ◌≤◌, ◌∙◌, ℕ, nat_eq, List, [], ◌∷◌, ◌++◌, Option, Some, None, is_some, true, false, refl, sym, ap, subst, AllByRecursion, all_joined, all_less, OutboundTransform, Connection, Happening, ActiveJob, Arrived, Async, Job, MessageHeader, Outbox, Rules, Sent, HandsOne, IsJob, NoneWaits, Rising, Server, jobs_at, with_list, Does, Row, MakeJob, row_of, ExpireAll, serving, Served, Took, served}
use Rattle.std.specs.Prelude.{◌⊎◌, ◌↔◌}
use Rattle.std.specs.List.{IsDistinct}
use Rattle.ttrpc_connection.specs.Calls.{Call, Calls, Did, Runs}
use Rattle.ttrpc_connection.proofs.Words.{InboundTransform, all_at, all_changed, ne_eqb}
use Rattle.ttrpc_server.specs.declared.server.ServerCore.{ServerCore}
use Rattle.ttrpc_server.specs.Calls.{Performs, WaitsNot, core, given_by, ids_given}
use Rattle.ttrpc_server.specs.Kept.{AreSingle}
use Rattle.ttrpc_server.specs.Table.{answer_row, case_answer, case_of, case_row, id_state_of, makes_job, MakeStream, PutIn}
use Rattle.ttrpc_server.specs.State.{Services, brought_by, changed_at, changed_under}
use Rattle.ttrpc_server.proofs.Mapped.{at_stays, rising_mapped, single_mapped, under_stays, waits_not_mapped}
use Rattle.ttrpc_server.specs.Protocol.{case_in, seen_by}
use Rattle.ttrpc_server.specs.Types.{Case, Asks, PutsIn, Skipped, Oversize, Unopened, EvenId, Inactive, InUse, NotAbove, Response}
use Rattle.ttrpc_server.proofs.Keyed.{at_most, before_it, one_less}
use Rattle.ttrpc_server.proofs.Kept.{asks_where_absent, none_of_absent, single_ended, single_handed, single_made}
use Rattle.ttrpc_server.proofs.Rising.{taking_keeps}
use Rattle.ttrpc_server.proofs.RowLeaves.{left_last, left_rising, row_leaves}
use Rattle.ttrpc_server.proofs.Running.{Lasts, call_lasts, expire_last}

-- ---- ids rise

abbrev pub IdsRise : Server → Type 0
IdsRise s = Rising 0 s.jobs.list s.jobs.last

pub rising_lasts : {O : Type 0} (out : OutboundTransform O) → Lasts out IdsRise
rising_lasts out = record {
  frame = λ old o a sent new does. left_rising (seen_by old a).jobs new.jobs (row_leaves out (row_of old a) (seen_by old a) o a.header a.now sent new does).jobs;
  hands = λ old handed list hands rising. taking_keeps old.jobs.list list old.jobs.last handed hands rising;
  ends = λ old id job at rising. one_less 0 old.jobs.last at.front at.back job (rw at.is at rising);
  told = λ old expired rising. rising;
  drains = λ old rising. rising;
  mails = λ old id change rising. rising_mapped (changed_at id change) (at_stays id change) 0 old.jobs.last old.jobs.list rising;
  hears = λ old heard rising. rising;
}

pub count_lasts : {O : Type 0} (out : OutboundTransform O) (n : ℕ) → Lasts out (λ (s : Server). n ≤ s.jobs.last)
count_lasts out n = record {
  frame = λ old o a sent new does le. let rises = left_last (seen_by old a).jobs new.jobs (row_leaves out (row_of old a) (seen_by old a) o a.header a.now sent new does).jobs in omega (arith, rises, le);
  hands = λ old handed list hands le. le;
  ends = λ old id job at le. le;
  told = λ old expired le. le;
  drains = λ old le. le;
  mails = λ old id change le. le;
  hears = λ old heard le. le;
}

-- ---- one active job an id

answers_make_none : (r : Option Response) → makes_job (answer_row r) ≡ true → ⊥
answers_make_none None is = cc
answers_make_none (Some r) is = cc

made_by_asking : (r : Rules) (services : Services) (h : MessageHeader) (case : Case) → makes_job (case_row r services h case) ≡ true → (plain : List ℕ) × (case ≡ Asks plain)
made_by_asking r services h (Asks plain) is = (plain, refl)
made_by_asking r services h (PutsIn plain) is = cc
made_by_asking r services h Skipped is = absurd (answers_make_none (case_answer h Skipped) is)
made_by_asking r services h (Oversize n) is = absurd (answers_make_none (case_answer h (Oversize n)) is)
made_by_asking r services h (Unopened why) is = absurd (answers_make_none (case_answer h (Unopened why)) is)
made_by_asking r services h EvenId is = absurd (answers_make_none (case_answer h EvenId) is)
made_by_asking r services h Inactive is = absurd (answers_make_none (case_answer h Inactive) is)
made_by_asking r services h InUse is = absurd (answers_make_none (case_answer h InUse) is)
made_by_asking r services h (NotAbove newest) is = absurd (answers_make_none (case_answer h (NotAbove newest)) is)

free_where_made : (s : Server) (a : Arrived) → s.rules ≡ Async → makes_job (row_of s a) ≡ true → jobs_at s.jobs.list a.header.stream_id ≡ []
free_where_made s a async is =
    let id_state = id_state_of (jobs_at s.jobs.list a.header.stream_id) in
    let asks : (plain : List ℕ) × (case_in s a ≡ Asks plain) = made_by_asking s.rules s.services a.header (case_in s a) is in
    none_of_absent (jobs_at s.jobs.list a.header.stream_id) (asks_where_absent a.header a.opening s.jobs.newest id_state asks.0 (subst (λ r. case_of r a.header a.opening s.jobs.newest id_state ≡ Asks asks.0) async asks.1))

abbrev pub HasSingle : Server → Type 0
HasSingle s = (s.rules ≡ Async) × AreSingle s.jobs.list

row_single : {O : Type 0} (out : OutboundTransform O) (row : Row) (old : Server) (o : O) (a : Arrived) (sent : List Sent) (new : Server) → row_of old a ≡ row → Does out row (seen_by old a) o a.header a.now sent new → HasSingle old → HasSingle new
row_single out (MakeJob request) old o a sent new is does single =
    (ap (λ (s : Server). s.rules) does.0 ∙ single.0, rw does.0 (single_made old.jobs.list _ single.1 (free_where_made old a single.0 (ap makes_job is))))
row_single out (MakeStream request) old o a sent new is does single =
    (ap (λ (s : Server). s.rules) does.0 ∙ single.0, rw does.0 (single_made old.jobs.list _ single.1 (free_where_made old a single.0 (ap makes_job is))))
row_single out (PutIn payload) old o a sent new is does single =
    let change = brought_by a.header payload in
    (ap (λ (s : Server). s.rules) does.0 ∙ single.0, rw does.0 (single_mapped (changed_under a.header.stream_id change) (under_stays a.header.stream_id change) old.jobs.list single.1))
row_single out row old o a sent new is does single = rw does.0 single

pub single_lasts : {O : Type 0} (out : OutboundTransform O) → Lasts out HasSingle
single_lasts out = record {
  frame = λ old o a sent new does single. row_single out (row_of old a) old o a sent new refl does single;
  hands = λ old handed list hands single. (single.0, single_handed old.jobs.list list handed single.1 hands);
  ends = λ old id job at single. (single.0, single_ended old.jobs.list id job at single.1);
  told = λ old expired single. single;
  drains = λ old single. single;
  mails = λ old id change single. (single.0, single_mapped (changed_at id change) (at_stays id change) old.jobs.list single.1);
  hears = λ old heard single. single;
}

-- ---- a job that doesn't wait

-- a job of this id was made, and doesn't wait
abbrev pub IsPast : ℕ → Server → Type 0
IsPast id s = (id ≤ s.jobs.last) × WaitsNot id s.jobs.list

row_past : {O : Type 0} (out : OutboundTransform O) (row : Row) (old : Server) (o : O) (header : MessageHeader) (now : ℕ) (sent : List Sent) (new : Server) (id : ℕ) → Does out row old o header now sent new → IsPast id old → IsPast id new
row_past out (MakeJob request) old o header now sent new id does past =
    let le = past.0 in
    rw does.0 (omega (arith, le), all_joined (λ (j : ActiveJob). j.id ≡ id → j.request ≡ None) old.jobs.list _ past.1 ((λ same. absurd (omega (arith, same, le))), tt))
row_past out (MakeStream request) old o header now sent new id does past =
    let le = past.0 in
    rw does.0 (omega (arith, le), all_joined (λ (j : ActiveJob). j.id ≡ id → j.request ≡ None) old.jobs.list _ past.1 ((λ same. absurd (omega (arith, same, le))), tt))
row_past out (PutIn payload) old o header now sent new id does past =
    let change = brought_by header payload in
    rw does.0 (past.0, waits_not_mapped (changed_under header.stream_id change) (under_stays header.stream_id change) id old.jobs.list past.1)
row_past out row old o header now sent new id does past = rw does.0 past

pub past_lasts : {O : Type 0} (out : OutboundTransform O) (id : ℕ) → Lasts out (IsPast id)
past_lasts out id = record {
  frame = λ old o a sent new does past. row_past out (row_of old a) (seen_by old a) o a.header a.now sent new id does past;
  hands = λ old handed list hands past. (
    past.0,
    rw hands.jobs (all_changed (λ (j : ActiveJob). j.id ≡ id → j.request ≡ None) hands.front hands.back hands.job (record hands.job { request = None }) (λ _. refl)
        (subst (WaitsNot id) hands.was past.1)),
  );
  ends = λ old k job at past. (past.0, all_less (λ (j : ActiveJob). j.id ≡ id → j.request ≡ None) at.front at.back job (subst (WaitsNot id) at.is past.1));
  told = λ old expired past. past;
  drains = λ old past. past;
  mails = λ old k change past. (past.0, waits_not_mapped (changed_at k change) (at_stays k change) id old.jobs.list past.1);
  hears = λ old heard past. past;
}

-- no other job has the id of one
not_below : (id low high : ℕ) (js : List ActiveJob) → id ≤ low → Rising low js high → WaitsNot id js
not_below id low high [] le rising = tt
not_below id low high (j ∷ js) le rising = let less = rising.0 in ((λ same. absurd (omega (arith, same, le, less))), not_below id j.id high js (omega (arith, le, less)) rising.1)

others_apart : (low high : ℕ) (front back : List ActiveJob) (job : ActiveJob) → Rising low (front ++ job ∷ back) high → WaitsNot job.id (front ++ back)
others_apart low high [] back job rising = not_below job.id job.id high back (omega arith) rising.1
others_apart low high (j ∷ front) back job rising =
    let less = before_it j.id high front back job rising.1 in ((λ same. absurd (omega (arith, same, less))), others_apart j.id high front back job rising.1)

in_range : (low high : ℕ) (front back : List ActiveJob) (job : ActiveJob) → Rising low (front ++ job ∷ back) high → job.id ≤ high
in_range low high [] back job rising = at_most job.id high back rising.1
in_range low high (j ∷ front) back job rising = in_range j.id high front back job rising.1

-- one that was taken, among them
put_back : (id : ℕ) (front back : List ActiveJob) (job : ActiveJob) → job.request ≡ None → WaitsNot id (front ++ back) → WaitsNot id (front ++ job ∷ back)
put_back id [] back job none all = ((λ _. none), all)
put_back id (j ∷ front) back job none all = (all.0, put_back id front back job none all.1)

past_by_taking : (old : Server) (handed : Job) (list : List ActiveJob) → HandsOne old.jobs.list handed list → IdsRise old → IsPast handed.id (with_list old list)
past_by_taking old handed list hands rising =
    let was = subst (λ l. Rising 0 l old.jobs.last) hands.was rising in
    rw hands.id (
      in_range 0 old.jobs.last hands.front hands.back hands.job was,
      rw hands.jobs (put_back hands.job.id hands.front hands.back (record hands.job { request = None }) refl (others_apart 0 old.jobs.last hands.front hands.back hands.job was)),
    )

past_by_ending : (old : Server) (job : ActiveJob) (at : IsJob old.jobs.list job.id job) → IdsRise old → IsPast job.id (with_list old (at.front ++ at.back))
past_by_ending old job at rising =
    let was = subst (λ l. Rising 0 l old.jobs.last) at.is rising in
    (in_range 0 old.jobs.last at.front at.back job was, others_apart 0 old.jobs.last at.front at.back job was)

-- ---- which jobs are given

none_given_past : {O I : Type 0} (id : ℕ) (old : ServerCore O I) (handed : Job) (list : List ActiveJob) → HandsOne old.state.jobs.list handed list → IsPast id old.state → id ≢ handed.id
none_given_past id old handed list hands past same =
    let all = subst (WaitsNot id) hands.was past.1 in
    let none : hands.job.request ≡ None = all_at (λ (j : ActiveJob). j.id ≡ id → j.request ≡ None) hands.front hands.back hands.job all (sym hands.id ∙ sym same) in
    let bad : None ≡ Some handed.request = sym none ∙ hands.request in cc

module _ {O I : Type 0} (out : OutboundTransform O) (in_ : InboundTransform I) where
  -- a call gives no job that doesn't wait
  call_gives_none : (id : ℕ) (c : Call Served) (s : Server) (old : Connection O I) (hs : List Happening) (t : Server) (new : Connection O I) → Calls (serving out in_) (served out) s old c hs t new → IsPast id s
      → AllByRecursion (λ k. id ≢ k) (given_by c)
  call_gives_none id (Did (Took (Some job))) s old hs t new call past = (none_given_past id (core s old) job t.jobs.list call.0.hands past, tt)
  call_gives_none id c s old hs t new call past = tt

  pub run_gives_none : (id : ℕ) (cs : List (Call Served)) (s : Server) (old : Connection O I) (hs : List Happening) (t : Server) (new : Connection O I) → Runs (serving out in_) (served out) s old cs hs t new → IsPast id s
      → AllByRecursion (λ k. id ≢ k) (ids_given cs)
  run_gives_none id [] s old hs t new run past = tt
  run_gives_none id (c ∷ cs) s old hs t new run past =
      all_joined (λ k. id ≢ k) (given_by c) (ids_given cs) (call_gives_none id c s old run.2 run.0 run.1 run.4 past)
      (run_gives_none id cs run.0 run.1 run.3 t new run.6 (call_lasts out in_ (IsPast id) (past_lasts out id) c s old run.2 run.0 run.1 run.4 past))

  -- a call that gives a job leaves it past
  abbrev LeavesPast : Call Served → Server → Type 0
  LeavesPast c t = AllByRecursion (λ k. IsPast k t) (given_by c)

  call_leaves_past : (c : Call Served) (s : Server) (old : Connection O I) (hs : List Happening) (t : Server) (new : Connection O I) → Calls (serving out in_) (served out) s old c hs t new → IdsRise s → LeavesPast c t
  call_leaves_past (Did (Took (Some job))) s old hs t new call rising =
      let did = call.0 in
      (subst (IsPast job.id) (sym (ap (λ (x : ServerCore O I). x.state) did.same)) (past_by_taking s job t.jobs.list did.hands rising), tt)
  call_leaves_past c s old hs t new call rising = tt

  pub run_gives_once : (cs : List (Call Served)) (s : Server) (old : Connection O I) (hs : List Happening) (t : Server) (new : Connection O I) → Runs (serving out in_) (served out) s old cs hs t new → IdsRise s
      → IsDistinct nat_eq (ids_given cs)
  unfolding IsDistinct
  run_gives_once [] s old hs t new run rising = tt
  run_gives_once (c ∷ cs) s old hs t new run rising =
      let later = run_gives_once cs run.0 run.1 run.3 t new run.6 (call_lasts out in_ IdsRise (rising_lasts out) c s old run.2 run.0 run.1 run.4 rising) in
      in_front (given_by c) (short c) (call_leaves_past c s old run.2 run.0 run.1 run.4 rising) later
    where
      -- a call gives at most one
      short : (c : Call Served) → (given_by c ≡ []) ⊎ ((k : ℕ) × (given_by c ≡ k ∷ []))
      short (Did (Took (Some job))) = inr (job.id, refl)
      short c = inl refl

      apart : (k : ℕ) (ks : List ℕ) → AllByRecursion (λ j. k ≢ j) ks → AllByRecursion (λ j. nat_eq k j ≡ false) ks
      apart k [] all = tt
      apart k (j ∷ ks) all = (ne_eqb k j all.0, apart k ks all.1)

      in_front : (ks : List ℕ) → (ks ≡ []) ⊎ ((k : ℕ) × (ks ≡ k ∷ [])) → AllByRecursion (λ k. IsPast k run.0) ks → IsDistinct nat_eq (ids_given cs) → IsDistinct nat_eq (ks ++ ids_given cs)
      in_front ks (inl none) past later = rw none later
      in_front ks (inr one) past later = rw one.1 (apart one.0 (ids_given cs) (run_gives_none one.0 cs run.0 run.1 run.3 t new run.6 (rw one.1 at past).0), later)

  -- those that expired at a tick
  pub expired_are_past : (js : List ActiveJob) (old : Server) (from : Outbox O) (new : Server) (to : Outbox O) → ExpireAll out old from js new to → IdsRise old → AllByRecursion (λ j. IsPast j.id new) js
  expired_are_past [] old from new to all rising = tt
  expired_are_past (j ∷ js) old from new to all rising =
      let one = all.2 in
      let past : IsPast j.id all.0 = subst (IsPast j.id) (sym one.state) (past_by_ending old j one.at rising) in
      let rises : IdsRise all.0 = subst IdsRise (sym one.state) ((rising_lasts out).ends old j.id j one.at rising) in
      (expire_last out in_ (IsPast j.id) (past_lasts out j.id) js all.0 all.1 new to all.3 past, expired_are_past js all.0 all.1 new to all.3 rises)

  pub expired_are_not_given : (js : List ActiveJob) (s : Server) → AllByRecursion (λ j. IsPast j.id s) js → (cs : List (Call Served)) (old : Connection O I) (hs : List Happening) (t : Server) (new : Connection O I)
      → Runs (serving out in_) (served out) s old cs hs t new → AllByRecursion (λ (j : ActiveJob). AllByRecursion (λ k. j.id ≢ k) (ids_given cs)) js
  expired_are_not_given [] s past cs old hs t new run = tt
  expired_are_not_given (j ∷ js) s past cs old hs t new run = (run_gives_none j.id cs s old hs t new run past.0, expired_are_not_given js s past.1 cs old hs t new run)

  -- none is given exactly where none waits, or after a failure
  pub none_given : (given : Option Job) (old new : ServerCore O I) → Performs out (Took given) old new → (given ≡ None) ↔ ((is_some old.connection.failure ≡ true) ⊎ NoneWaits old.state.jobs.list)
  none_given None old new did = ((λ _. by old.connection.failure did.1), (λ _. refl))
    where
      by : {F : Type 0} (failure : Option F) → (failure ≡ None → NoneWaits old.state.jobs.list) → (is_some failure ≡ true) ⊎ NoneWaits old.state.jobs.list
      by None none = inr (none refl)
      by (Some why) none = inl refl
  none_given (Some job) old new did = (
    (λ is. absurd (cc)),
    λ why. elim why [
      | inl failed ↦ absurd (let bad : false ≡ true = rw did.alive at failed in cc)
      | inr none ↦
          let waits : did.hands.job.request ≡ None = all_at (λ (j : ActiveJob). j.request ≡ None) did.hands.front did.hands.back did.hands.job (subst NoneWaits did.hands.was none) in
          absurd (let bad : None ≡ Some job.request = sym waits ∙ did.hands.request in cc)
    ],
  )

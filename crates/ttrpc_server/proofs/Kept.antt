-- What finds jobs goes on to find them, through each change of the jobs.
use Rattle.ttrpc_server.proofs.Words.{rules, arith, inl, inr, ◌≡◌, ◌≢◌, ◌<◌, ◌≤◌, ◌&&◌, ℕ, ◌+◌, nat_eq, nat_cmp, is_at, List, [], ◌∷◌, ◌++◌, length, list_any, Option, Some, None, Bool, true, false, refl, sym, ap, subst, ◌∙◌, pushed_own, pushed_other, between_own, between_other, under_both, Request, ActiveJob, Job, Rules, Async, Sync, all_less, HandsOne, IsJob, IsTaken, jobs_at, Rising, deadline_in, AreSingle, Finds, FindsTheSame, Indexed, IsKept, Loses, first_id, is_due_at, job_found}
use Rattle.std.proofs.Common.{◌||◌, cond, IfSome, IfNone}
use Rattle.std.proofs.lemmas.List.Folds.{list_any-append}
use Rattle.std.proofs.lemmas.Map.Lookups.{exact_unsigned}
use Rattle.ttrpc_connection.specs.Deadlines.{ChangesTo, has_deadline, is_moment}
use Rattle.ttrpc_connection.proofs.Words.{if◌then◌else◌, cases_eq, eqb-true, length-append, ne_eqb, Equal-is, cases_Bool}
use Rattle.ttrpc_connection.proofs.Lists.{all_at}
use Rattle.ttrpc_server.proofs.Keyed.{at_most, before_it}
use Rattle.ttrpc_server.proofs.Streams.{stream_id_of}
use Rattle.ttrpc_connection.specs.declared.arrived.InboundResult.{InboundResult}
use Rattle.ttrpc_server.specs.Kept.{AreUnary, no_index}
use Rattle.std.specs.Option.{option_map, unwrap_or}
use Rattle.ttrpc_server.specs.State.{IsNoUnary, Services, is_stream, job_at}
use Rattle.ttrpc_server.specs.Table.{answer_row, request_kind_answer, request_kind_row, case_answer, case_of, case_row, id_state_by, id_state_in, id_state_of}
use Rattle.ttrpc_server.specs.Types.{MessageHeader, TooLong, Refused, Opened, StreamIdState, Absent, Busy, Full, Taking, Case, Skipped, EvenId, Inactive, InUse, Asks, PutsIn, RequestKind, Call, Chat, Body, Stream, Unary, Receiver, Open, Closed, Broken, Dropped}

-- ---- one change of what finds them

-- what a change of the map says of the others
pub apart_place : (k q : ℕ) → q ≢ k → is_at (nat_cmp k) q ≡ false
apart_place k q apart = elim (cases_Bool (is_at (nat_cmp k) q)) [
  | inl e ↦ absurd (apart (sym (exact_unsigned k q (search (rules, Equal-is)))))
  | inr e ↦ e
]

-- ---- due jobs

-- whether this job has this id and is due then
abbrev is_job_due : ℕ → ℕ → ActiveJob → Bool
is_job_due at id j = nat_eq id j.id && is_moment at (deadline_in j.body)

-- no job of a list of rising ids has an id above them all
none_above : (low high id at : ℕ) (js : List ActiveJob) → Rising low js high → high < id → is_due_at js at id ≡ false
none_above low high id at [] rising above = refl
none_above low high id at (j ∷ js) rising above =
    let more = none_above j.id high id at js rising.1 above in
    let most = at_most j.id high js rising.1 in
    let apart : id ≢ j.id = λ same. omega (arith, same, most, above) in
    rw (ne_eqb id j.id apart) more

-- nor one below them all
pub none_below : (low high id at : ℕ) (js : List ActiveJob) → Rising low js high → id ≤ low → is_due_at js at id ≡ false
none_below low high id at [] rising below = refl
none_below low high id at (j ∷ js) rising below =
    let more = none_below j.id high id at js rising.1 (omega (arith, rising.0, below)) in
    let apart : id ≢ j.id = λ same. omega (arith, same, rising.0, below) in
    rw (ne_eqb id j.id apart) more

-- nor one of those around the job that has it
none_around : (low high at : ℕ) (front back : List ActiveJob) (job : ActiveJob) → Rising low (front ++ job ∷ back) high → is_due_at (front ++ back) at job.id ≡ false
none_around low high at [] back job rising = none_below job.id high job.id at back rising.1 (omega arith)
none_around low high at (j ∷ front) back job rising =
    let more = none_around j.id high at front back job rising.1 in
    let less : j.id < job.id = before_it j.id high front back job rising.1 in
    let apart : job.id ≢ j.id = λ same. omega (arith, same, less) in
    rw (ne_eqb job.id j.id apart) more

-- those around a job are due as all are, but for it
due_around : (at id : ℕ) (front back : List ActiveJob) (job : ActiveJob) → is_due_at (front ++ job ∷ back) at id ≡ (is_job_due at id job || is_due_at (front ++ back) at id)
due_around at id front back job =
    list_any-append (is_job_due at id) front (job ∷ back) ∙ by (list_any (is_job_due at id) front) (is_job_due at id job) (list_any (is_job_due at id) back)
    ∙ ap (λ b. is_job_due at id job || b) (sym (list_any-append (is_job_due at id) front back))
  where
    by : (f j b : Bool) → (f || (j || b)) ≡ (j || (f || b))
    by true true b = refl
    by true false b = refl
    by false j b = refl

-- ---- a job is made

pub no_two : {r : Rules} → r ≡ Async → r ≡ Sync → ⊥
no_two {r} async sync = let both : Async ≡ Sync = sym async ∙ sync in cc

first_of_none : (js : List ActiveJob) → first_id js ≡ None → js ≡ []
first_of_none [] none = refl
first_of_none (j ∷ js) none = cc

fresh_due : (index mid : Indexed) (list : List ActiveJob) (last : ℕ) (job : ActiveJob) → Rising 0 list last → job.id ≡ last + 1
    → ((at id : ℕ) → has_deadline index.deadlines at id ≡ is_due_at list at id) → ChangesTo true index.deadlines job.id (deadline_in job.body) mid.deadlines
    → (at id : ℕ) → has_deadline mid.deadlines at id ≡ is_due_at (list ++ job ∷ []) at id
fresh_due index mid list last job rising next were changes at id =
    changes at id ∙ ap (λ b. if is_job_due at id job then true else b) (were at id) ∙ by (is_job_due at id job) (is_due_at list at id) ∙ sym (list_any-append (is_job_due at id) list (job ∷ []))
  where
    by : (j b : Bool) → (if j then true else b) ≡ (b || (j || false))
    by true true = refl
    by true false = refl
    by false true = refl
    by false false = refl

pub single_made : (list : List ActiveJob) (job : ActiveJob) → AreSingle list → jobs_at list job.header.stream_id ≡ [] → AreSingle (list ++ job ∷ [])
single_made list job single free k = elim (cases_eq k job.header.stream_id) [
  | inl here ↦ rw (here, pushed_own stream_id_of job.header.stream_id job list refl, free) (omega arith)
  | inr apart ↦ rw (pushed_other stream_id_of k job list (λ same. apart (sym same))) (single k)
]

found_made : (index mid : Indexed) (list : List ActiveJob) (job : ActiveJob) (deadline : Option ℕ) → jobs_at list job.header.stream_id ≡ []
    → ((k : ℕ) → job_found index k ≡ first_id (jobs_at list k)) → Finds index job.header.stream_id job.id deadline mid → (k : ℕ) → job_found mid k ≡ first_id (jobs_at (list ++ job ∷ []) k)
found_made index mid list job deadline free were finds k = elim (cases_eq k job.header.stream_id) [
  | inl here ↦ rw (here, pushed_own stream_id_of job.header.stream_id job list refl, free) finds.own
  | inr apart ↦ rw (pushed_other stream_id_of k job list (λ same. apart (sym same))) (finds.others k apart ∙ were k)
]

pub kept_made : (r : Rules) (index mid : Indexed) (list : List ActiveJob) (last : ℕ) (job : ActiveJob) → IsKept r list index → Rising 0 list last → job.id ≡ last + 1 → (r ≡ Async → jobs_at list job.header.stream_id ≡ [])
    → r ≡ Async → Finds index job.header.stream_id job.id (deadline_in job.body) mid → IsKept r (list ++ job ∷ []) mid
kept_made r index mid list last job kept rising next free async finds = record {
  deadlines = fresh_due index mid list last job rising next kept.deadlines finds.deadlines;
  single = λ is. single_made list job (kept.single is) (free is);
  found = λ is. found_made index mid list job (deadline_in job.body) (free is) (kept.found is) finds;
  unary = λ sync. absurd (no_two async sync);
}

-- all are found as before
pub kept_same : (r : Rules) (index new : Indexed) (list : List ActiveJob) → IsKept r list index → FindsTheSame index new → IsKept r list new
kept_same r index new list kept same = record {
  deadlines = λ at id. same.deadlines at id ∙ kept.deadlines at id;
  single = kept.single;
  found = λ is k. same.streams k ∙ kept.found is k;
  unary = kept.unary;
}

-- a job that would have been made is found no more
undone : (j had : Bool) → (j ≡ true → had ≡ false) → (if j then false else (if j then true else had)) ≡ had
undone true had none = sym (none refl)
undone false had none = refl

and_left : (a b : Bool) → (a && b) ≡ true → a ≡ true
and_left true b both = refl
and_left false b both = both

pub taken_back : (r : Rules) (index mid new : Indexed) (list : List ActiveJob) (last k id : ℕ) (deadline : Option ℕ) → IsKept r list index → Rising 0 list last → id ≡ last + 1 → job_found index k ≡ None
    → Finds index k id deadline mid → Loses mid k id deadline new → FindsTheSame index new
taken_back r index mid new list last k id deadline kept rising next none finds loses = record {
  streams = λ q. elim (cases_eq q k) [
    | inl here ↦ rw here (loses.own ∙ sym none)
    | inr apart ↦ loses.others q apart ∙ finds.others q apart
  ];
  deadlines = λ at q. loses.deadlines at q ∙ ap (λ b. if nat_eq q id && is_moment at deadline then false else b) (finds.deadlines at q)
      ∙ undone (nat_eq q id && is_moment at deadline) (has_deadline index.deadlines at q) (λ both.
      let same : q ≡ id = eqb-true q id (and_left (nat_eq q id) (is_moment at deadline) both) in
      kept.deadlines at q ∙ none_above 0 last q at list rising (omega (arith, same, next)));
}

-- ---- a job is handed out

same_first : (a b : List ActiveJob) (job other : ActiveJob) → job.id ≡ other.id → first_id (a ++ job ∷ b) ≡ first_id (a ++ other ∷ b)
same_first [] b job other same = ap (λ (i : ℕ). Some i) same
same_first (x ∷ a) b job other same = refl

same_length : (a b : List ActiveJob) (job other : ActiveJob) → length (a ++ job ∷ b) ≡ length (a ++ other ∷ b)
same_length a b job other = rw (length-append a (job ∷ b), length-append a (other ∷ b)) refl

-- the jobs of an id, where one of them is changed but for its id and its stream's
of_id_changed : (P : List ActiveJob → List ActiveJob → Type 0) (k : ℕ) (front back : List ActiveJob) (job other : ActiveJob) → job.header.stream_id ≡ other.header.stream_id
    → P (jobs_at front k ++ job ∷ jobs_at back k) (jobs_at front k ++ other ∷ jobs_at back k) → P (jobs_at front k ++ jobs_at back k) (jobs_at front k ++ jobs_at back k)
    → P (jobs_at (front ++ job ∷ back) k) (jobs_at (front ++ other ∷ back) k)
of_id_changed P k front back job other stream own elsewhere = elim (cases_eq job.header.stream_id k) [
  | inl here ↦ rw (between_own stream_id_of k front back job here, between_own stream_id_of k front back other (sym stream ∙ here)) own
  | inr apart ↦ rw (between_other stream_id_of k front back job apart, between_other stream_id_of k front back other (λ same. apart (stream ∙ same))) elsewhere
]

pub single_handed : (old new : List ActiveJob) (handed : Job) → AreSingle old → HandsOne old handed new → AreSingle new
single_handed old new handed single h k =
    let few = single k in
    rw h.jobs (subst (λ n. n ≤ 1)
    (of_id_changed (λ xs ys. length xs ≡ length ys) k h.front h.back h.job (record h.job { request = None }) refl (same_length (jobs_at h.front k) (jobs_at h.back k) h.job (record h.job { request = None })) refl) (rw h.was at few))

-- where one of them is changed but for whether it is a stream's
unary_changed : (front back : List ActiveJob) (job other : ActiveJob) → is_stream other.body ≡ is_stream job.body → AreUnary (front ++ job ∷ back) → AreUnary (front ++ other ∷ back)
unary_changed [] back job other same h = (same ∙ h.0, h.1)
unary_changed (x ∷ front) back job other same h = (h.0, unary_changed front back job other same h.1)

pub kept_handed : (r : Rules) (index : Indexed) (old new : List ActiveJob) (handed : Job) → IsKept r old index → HandsOne old handed new → IsKept r new index
kept_handed r index old new handed kept h =
    let taken = record h.job { request = None } in
    record {
      deadlines = λ at id. rw h.jobs (kept.deadlines at id ∙ rw h.was (due_around at id h.front h.back h.job ∙ sym (due_around at id h.front h.back taken)));
      single = λ is. single_handed old new handed (kept.single is) h;
      found = λ is k. rw h.jobs (kept.found is k ∙ rw h.was
          (of_id_changed (λ xs ys. first_id xs ≡ first_id ys) k h.front h.back h.job taken refl (same_first (jobs_at h.front k) (jobs_at h.back k) h.job taken refl) refl));
      unary = λ is. rw h.jobs (unary_changed h.front h.back h.job taken refl (subst AreUnary h.was (kept.unary is)));
    }

-- ---- a job is gone

gone : (j others all : Bool) → all ≡ (j || others) → (j ≡ true → others ≡ false) → (if j then false else all) ≡ others
gone true others all is none = sym (none refl)
gone false others all is none = is

none_left : (a b : List ActiveJob) (job : ActiveJob) → length (a ++ job ∷ b) ≤ 1 → a ++ b ≡ []
none_left [] [] job few = refl
none_left [] (x ∷ b) job few = absurd (omega (arith, few))
none_left (x ∷ a) b job few = absurd (let n = length-append a (job ∷ b) in omega (arith, n, few))

alone : (list : List ActiveJob) (id : ℕ) (job : ActiveJob) (at : IsJob list id job) → AreSingle list → jobs_at (at.front ++ at.back) job.header.stream_id ≡ []
alone list id job at single =
    let k = job.header.stream_id in
    let own = ap (λ jobs. jobs_at jobs k) at.is ∙ between_own stream_id_of k at.front at.back job refl in
    under_both stream_id_of k at.front at.back ∙ none_left (jobs_at at.front k) (jobs_at at.back k) job (subst (λ (xs : List ActiveJob). length xs ≤ 1) own (single k))

elsewhere : (list : List ActiveJob) (id : ℕ) (job : ActiveJob) (at : IsJob list id job) (k : ℕ) → k ≢ job.header.stream_id → jobs_at (at.front ++ at.back) k ≡ jobs_at list k
elsewhere list id job at k apart =
    under_both stream_id_of k at.front at.back
    ∙ sym (ap (λ jobs. jobs_at jobs k) at.is ∙ between_other stream_id_of k at.front at.back job (λ same. apart (sym same)))

pub single_ended : (list : List ActiveJob) (id : ℕ) (job : ActiveJob) (at : IsJob list id job) → AreSingle list → AreSingle (at.front ++ at.back)
single_ended list id job at single k = elim (cases_eq k job.header.stream_id) [
  | inl here ↦ rw (here, alone list id job at single) (omega arith)
  | inr apart ↦ rw (elsewhere list id job at k apart) (single k)
]

pub kept_ended : (r : Rules) (index new : Indexed) (list : List ActiveJob) (last id : ℕ) (job : ActiveJob) (at : IsJob list id job) → IsKept r list index → Rising 0 list last
    → Loses index job.header.stream_id id (deadline_in job.body) new → IsKept r (at.front ++ at.back) new
kept_ended r index new list last id job at kept rising loses = record {
  deadlines = λ moment q. loses.deadlines moment q
      ∙ subst (λ (i : ℕ). (if nat_eq q i && is_moment moment (deadline_in job.body) then false else has_deadline index.deadlines moment q) ≡ is_due_at (at.front ++ at.back) moment q) at.is_job
      (gone (is_job_due moment q job) (is_due_at (at.front ++ at.back) moment q) (has_deadline index.deadlines moment q)
      (kept.deadlines moment q ∙ ap (λ jobs. is_due_at jobs moment q) at.is ∙ due_around moment q at.front at.back job)
      (λ due. let same : q ≡ job.id = eqb-true q job.id (and_left (nat_eq q job.id) (is_moment moment (deadline_in job.body)) due) in
      rw same (none_around 0 last moment at.front at.back job (subst (λ jobs. Rising 0 jobs last) at.is rising))));
  single = λ is. single_ended list id job at (kept.single is);
  found = λ is k. elim (cases_eq k job.header.stream_id) [
    | inl here ↦ rw (here, alone list id job at (kept.single is)) loses.own
    | inr apart ↦ rw (elsewhere list id job at k apart) (loses.others k apart ∙ kept.found is k)
  ];
  unary = λ is. all_less (λ (j : ActiveJob). is_stream j.body ≡ false) at.front at.back job (subst AreUnary at.is (kept.unary is));
}

-- a stream's job that was taken is of async rules, and no job of one response
pub no_unary : (r : Rules) (jobs : List ActiveJob) (index : Indexed) (id : ℕ) (job : ActiveJob) → IsKept r jobs index → IsTaken jobs id job → is_stream job.body ≡ true → IsNoUnary r jobs id
no_unary Async jobs index id job kept at stream = inr (job, at, stream)
no_unary Sync jobs index id job kept at stream =
    let plain : is_stream job.body ≡ false = all_at (λ (j : ActiveJob). is_stream j.body ≡ false) at.front at.back job (subst AreUnary at.is (kept.unary refl)) in
    absurd (let none : true ≡ false = sym stream ∙ plain in cc)

pub kept_none : (r : Rules) → IsKept r [] no_index
kept_none r = record { deadlines = λ at id. refl; single = λ is k. omega arith; found = λ is k. refl; unary = λ is. tt }

pub none_weaker : {T P Q : Type 0} (r : Option T) → (P → Q) → IfNone r P → IfNone r Q
none_weaker None f h = f h
none_weaker (Some x) f h = tt

pub kept_by_hand_out : (r : Rules) (index : Indexed) (old new : List ActiveJob) (given : Option Job) → IsKept r old index → IfSome given (λ job. HandsOne old job new) → IfNone given (new ≡ old) → IsKept r new index
kept_by_hand_out r index old new (Some job) kept some none = kept_handed r index old new job kept some
kept_by_hand_out r index old new None kept some none = rw none kept

-- ---- how many there are

pub as_many : (old new : List ActiveJob) (given : Option Job) → IfSome given (λ job. HandsOne old job new) → IfNone given (new ≡ old) → length new ≡ length old
as_many old new (Some job) some none = rw (some.jobs, some.was) (same_length some.front some.back (record some.job { request = None }) some.job)
as_many old new None some none = ap (λ l. length l) none

pub one_fewer : (list : List ActiveJob) (id : ℕ) (job : ActiveJob) (at : IsJob list id job) → length (at.front ++ at.back) + 1 ≡ length list
one_fewer list id job at =
    let all = length-append at.front (job ∷ at.back) in
    let left = length-append at.front at.back in
    let is = ap (λ l. length l) at.is in
    omega (arith, all, left, is)

-- ---- what an id has

pub id_state_absent : (js : List ActiveJob) → first_id js ≡ None → Absent ≡ id_state_of js
id_state_absent [] none = refl
id_state_absent (j ∷ js) none = cc

-- the first job of a stream's id is found under its own
pub first_above : (low high k : ℕ) (js : List ActiveJob) (j : ActiveJob) (rest : List ActiveJob) → Rising low js high → jobs_at js k ≡ j ∷ rest → low < j.id
first_above low high k [] j rest rising is = cc
first_above low high k (x ∷ xs) j rest rising is = by (nat_eq x.header.stream_id k) is (first_above x.id high k xs j rest rising.1)
  where
    by : (t : Bool) → cond t (x ∷ jobs_at xs k) (jobs_at xs k) ≡ j ∷ rest → (jobs_at xs k ≡ j ∷ rest → x.id < j.id) → low < j.id
    by true is more = let same : x ≡ j = cc in subst (λ (y : ActiveJob). low < y.id) same rising.0
    by false is more = omega (arith, rising.0, more is)

first_found : (low high k : ℕ) (js : List ActiveJob) (j : ActiveJob) (rest : List ActiveJob) → Rising low js high → jobs_at js k ≡ j ∷ rest → job_at js j.id ≡ Some j
first_found low high k [] j rest rising is = cc
first_found low high k (x ∷ xs) j rest rising is = by (nat_eq x.header.stream_id k) is (first_found x.id high k xs j rest rising.1)
  where
    by : (t : Bool) → cond t (x ∷ jobs_at xs k) (jobs_at xs k) ≡ j ∷ rest → (jobs_at xs k ≡ j ∷ rest → job_at xs j.id ≡ Some j) → job_at (x ∷ xs) j.id ≡ Some j
    by true is more =
        let same : x ≡ j = cc in
        let here : nat_eq x.id j.id ≡ true = subst (λ (y : ActiveJob). nat_eq x.id y.id ≡ true) same (search rules) in
        rw here (ap (λ y. Some y) same)
    by false is more =
        let less = first_above x.id high k xs j rest rising.1 is in
        let other : nat_eq x.id j.id ≡ false = ne_eqb x.id j.id (λ same. omega (arith, same, less)) in
        rw other (more is)

pub id_state_found : (low high k id : ℕ) (js : List ActiveJob) → Rising low js high → first_id (jobs_at js k) ≡ Some id → unwrap_or (option_map (λ j. id_state_in j.body) (job_at js id)) Absent ≡ id_state_of (jobs_at js k)
id_state_found low high k id js rising first = by (jobs_at js k) refl first
  where
    by : (own : List ActiveJob) → jobs_at js k ≡ own → first_id own ≡ Some id → unwrap_or (option_map (λ j. id_state_in j.body) (job_at js id)) Absent ≡ id_state_of own
    by [] is first = cc
    by (j ∷ rest) is first =
        let same : j.id ≡ id = cc in
        let found : job_at js id ≡ Some j = subst (λ i. job_at js i ≡ Some j) same (first_found low high k js j rest rising is) in
        rw found refl

id_state_of_body : (b : Body) → id_state_in b ≡ Absent → ⊥
id_state_of_body (Unary deadline) is = cc
id_state_of_body (Stream mail) is = by mail.ended mail.receiver is
  where
    by : (ended : Bool) (receiver : Receiver) → id_state_by ended receiver ≡ Absent → ⊥
    by true receiver is = cc
    by false Open is = cc
    by false Closed is = cc
    by false Broken is = cc
    by false Dropped is = cc

pub none_of_absent : (js : List ActiveJob) → id_state_of js ≡ Absent → js ≡ []
none_of_absent [] absent = refl
none_of_absent (j ∷ js) absent = absurd (id_state_of_body j.body absent)

-- ---- which case a frame is

never_asks : (a b c d : Bool) (items : Case) (plain : List ℕ) → (items ≡ Asks plain → ⊥) → (if a then Skipped else (if b then EvenId else (if c then InUse else (if d then items else Skipped)))) ≡ Asks plain → ⊥
never_asks true b c d items plain other is = cc
never_asks false true c d items plain other is = cc
never_asks false false true d items plain other is = cc
never_asks false false false true items plain other is = other is
never_asks false false false false items plain other is = cc

-- under async rules a request is read only where its id has no job
pub asks_where_absent : (h : MessageHeader) (opening : InboundResult) (newest : Option ℕ) (id_state : StreamIdState) (plain : List ℕ) → case_of Async h opening newest id_state ≡ Asks plain → id_state ≡ Absent
asks_where_absent h opening newest Absent plain is = refl
asks_where_absent h TooLong newest Busy plain is = cc
asks_where_absent h TooLong newest Taking plain is = cc
asks_where_absent h TooLong newest Full plain is = cc
asks_where_absent h (Refused why) newest Busy plain is = cc
asks_where_absent h (Refused why) newest Taking plain is = cc
asks_where_absent h (Refused why) newest Full plain is = cc
asks_where_absent h (Opened bytes) newest Busy plain is = absurd (never_asks _ _ _ _ Inactive plain (λ e. cc) is)
asks_where_absent h (Opened bytes) newest Taking plain is = absurd (never_asks _ _ _ _ (PutsIn bytes) plain (λ e. cc) is)
asks_where_absent h (Opened bytes) newest Full plain is = absurd (never_asks _ _ _ _ Skipped plain (λ e. cc) is)

pub case_is_answered : (r : Rules) (services : Services) (h : MessageHeader) (case : Case) → ((plain : List ℕ) → case ≡ Asks plain → ⊥) → ((plain : List ℕ) → case ≡ PutsIn plain → ⊥) → case_row r services h case ≡ answer_row (case_answer h case)
case_is_answered r services h (Asks plain) other items = absurd (other plain refl)
case_is_answered r services h (PutsIn plain) other items = absurd (items plain refl)
case_is_answered r services h case other items = refl

pub request_kind_is_answered : (request : Request) (asked : RequestKind) → (asked ≡ Call → ⊥) → (asked ≡ Chat → ⊥) → request_kind_row request asked ≡ answer_row (request_kind_answer request asked)
request_kind_is_answered request Call other stream = absurd (other refl)
request_kind_is_answered request Chat other stream = absurd (stream refl)
request_kind_is_answered request asked other stream = refl

-- ---- one that was taken

abbrev pub as_job : {jobs : List ActiveJob} {id : ℕ} {job : ActiveJob} → IsTaken jobs id job → IsJob jobs id job
as_job at = record { front = at.front; back = at.back; is = at.is; is_job = at.is_job }

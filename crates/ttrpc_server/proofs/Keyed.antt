-- Jobs under their ids, and the ids of those that wait.
use Rattle.ttrpc_server.proofs.Words.{rules, cases_Bool, inl, inr, arith, ◌≡◌, ◌<◌, ◌≤◌, ℕ, ◌+◌, List, [], ◌∷◌, ◌++◌, length, filter, Option, Some, None, is_some, not, Bool, true, false, cond, refl, sym, ap, subst, ◌∙◌, AllByRecursion, same_Some, is_at, insert_entry, lookup, remove_entry, set_value, values_of, nat_cmp, nat_cmp_is, Equal, Greater, Request, ActiveJob, AreJobs, ids_waiting, keyed, HandsOne, IsJob, IsTaken, IsUnknown, NoneWaits, Rising, waits, Equal-is}
use Rattle.std.proofs.lemmas.List.{append-nil}
use Rattle.std.proofs.lemmas.List.Filters.{length-filter_both}
use Rattle.std.proofs.lemmas.Map.Lookups.{exact_unsigned}
use Rattle.std.specs.declared.cmp.Ordering.TheVariants.{Less}
use Rattle.std.specs.BTreeSet.{insert_key}
use Rattle.std.specs.Set.{remove_key}
use Rattle.ttrpc_server.specs.State.{is_stream}

above : (k x : ℕ) → x < k → nat_cmp k x ≡ Greater
above k x less = sym (nat_cmp_is k x Greater less)

pub same_place : (k : ℕ) → nat_cmp k k ≡ Equal
same_place k = sym (nat_cmp_is k k Equal refl)

pub values_keyed : (js : List ActiveJob) → values_of (keyed js) ≡ js
values_keyed [] = refl
values_keyed (j ∷ js) = ap (λ (l : List ActiveJob). j ∷ l) (values_keyed js)

keyed_append : (xs ys : List ActiveJob) → keyed (xs ++ ys) ≡ keyed xs ++ keyed ys
keyed_append [] ys = refl
keyed_append (x ∷ xs) ys = ap (λ (l : List (ℕ × ActiveJob)). (x.id, x) ∷ l) (keyed_append xs ys)

-- ---- rising ids

pub at_most : (low high : ℕ) (js : List ActiveJob) → Rising low js high → low ≤ high
at_most low high [] rising = rising
at_most low high (j ∷ js) rising = let m = at_most j.id high js rising.1 in omega (arith, rising.0, m)

pub before_it : (low high : ℕ) (front back : List ActiveJob) (job : ActiveJob) → Rising low (front ++ job ∷ back) high → low < job.id
before_it low high [] back job rising = rising.0
before_it low high (j ∷ front) back job rising = let m = before_it j.id high front back job rising.1 in omega (arith, rising.0, m)

pub rising_more : (low high : ℕ) (js : List ActiveJob) (job : ActiveJob) → job.id ≡ high + 1 → Rising low js high → Rising low (js ++ job ∷ []) (high + 1)
rising_more low high [] job next rising = (omega (arith, next, rising), omega (arith, next))
rising_more low high (j ∷ js) job next rising = (rising.0, rising_more j.id high js job next rising.1)

rising_taken : (low high : ℕ) (front back : List ActiveJob) (job : ActiveJob) → Rising low (front ++ job ∷ back) high → Rising low (front ++ record job { request = None } ∷ back) high
rising_taken low high [] back job rising = rising
rising_taken low high (j ∷ front) back job rising = (rising.0, rising_taken j.id high front back job rising.1)

-- ---- in the map

insert_behind : (low high k : ℕ) (js : List ActiveJob) (job : ActiveJob) → Rising low js high → high < k → insert_entry nat_cmp (keyed js) k job ≡ keyed js ++ (k, job) ∷ []
insert_behind low high k [] job rising less = refl
insert_behind low high k (j ∷ js) job rising less =
    let m = at_most j.id high js rising.1 in
    let g : nat_cmp k j.id ≡ Greater = above k j.id (omega (arith, m, less)) in
    rw g (ap (λ (l : List (ℕ × ActiveJob)). (j.id, j) ∷ l) (insert_behind j.id high k js job rising.1 less))

between : (low high : ℕ) (front back : List ActiveJob) (job : ActiveJob) → Rising low (front ++ job ∷ back) high
    → (lookup (is_at (nat_cmp job.id)) (keyed (front ++ job ∷ back)) ≡ Some job)
    × (remove_entry (is_at (nat_cmp job.id)) (keyed (front ++ job ∷ back)) ≡ keyed (front ++ back))
    × ((new : ActiveJob) → new.id ≡ job.id → set_value (is_at (nat_cmp job.id)) (keyed (front ++ job ∷ back)) new ≡ keyed (front ++ new ∷ back))
between low high [] back job rising = rw (same_place job.id) (refl, refl, λ new same. rw same refl)
between low high (j ∷ front) back job rising =
    let m = before_it j.id high front back job rising.1 in
    let g : nat_cmp job.id j.id ≡ Greater = above job.id j.id m in
    let more = between j.id high front back job rising.1 in
    rw g (more.0, ap (λ (l : List (ℕ × ActiveJob)). (j.id, j) ∷ l) more.1, λ new same. ap (λ (l : List (ℕ × ActiveJob)). (j.id, j) ∷ l) (more.2 new same))

-- ---- the ids of those that wait

ids_append : (js : List ActiveJob) (job : ActiveJob) → ids_waiting (js ++ job ∷ []) ≡ ids_waiting js ++ ids_waiting (job ∷ [])
ids_append [] job = refl
ids_append (j ∷ js) job = by (waits j) (ids_append js job)
  where
    by : (b : Bool) → ids_waiting (js ++ job ∷ []) ≡ ids_waiting js ++ ids_waiting (job ∷ []) → cond b (j.id ∷ ids_waiting (js ++ job ∷ [])) (ids_waiting (js ++ job ∷ [])) ≡ cond b (j.id ∷ ids_waiting js) (ids_waiting js) ++ ids_waiting (job ∷ [])
    by true more = ap (λ (l : List ℕ). j.id ∷ l) more
    by false more = more

insert_last : (low high k : ℕ) (js : List ActiveJob) → Rising low js high → high < k → insert_key nat_cmp (ids_waiting js) k ≡ ids_waiting js ++ k ∷ []
insert_last low high k [] rising less = refl
insert_last low high k (j ∷ js) rising less = by (waits j) (insert_last j.id high k js rising.1 less)
  where
    by : (b : Bool) → insert_key nat_cmp (ids_waiting js) k ≡ ids_waiting js ++ k ∷ [] → insert_key nat_cmp (cond b (j.id ∷ ids_waiting js) (ids_waiting js)) k ≡ cond b (j.id ∷ ids_waiting js) (ids_waiting js) ++ k ∷ []
    by true more =
        let m = at_most j.id high js rising.1 in
        let g : nat_cmp k j.id ≡ Greater = above k j.id (omega (arith, m, less)) in
        rw g (ap (λ (l : List ℕ). j.id ∷ l) more)
    by false more = more

pub from_lower : (low more high : ℕ) (js : List ActiveJob) → low ≤ more → Rising more js high → Rising low js high
from_lower low more high [] le rising = omega (arith, le, rising)
from_lower low more high (j ∷ js) le rising = (omega (arith, le, rising.0), rising.1)

pub one_less : (low high : ℕ) (front back : List ActiveJob) (job : ActiveJob) → Rising low (front ++ job ∷ back) high → Rising low (front ++ back) high
one_less low high [] back job rising = from_lower low job.id high back (omega (arith, rising.0)) rising.1
one_less low high (j ∷ front) back job rising = (rising.0, one_less j.id high front back job rising.1)

below : (k x : ℕ) → k < x → nat_cmp k x ≡ Less
below k x less = sym (nat_cmp_is k x Less less)

-- an id that is below all isn't among them
remove_none : (k high : ℕ) (js : List ActiveJob) → Rising k js high → remove_key (is_at (nat_cmp k)) (ids_waiting js) ≡ ids_waiting js
remove_none k high [] rising = refl
remove_none k high (j ∷ js) rising = by (waits j) (remove_none k high js (from_lower k j.id high js (omega (arith, rising.0)) rising.1))
  where
    by : (b : Bool) → remove_key (is_at (nat_cmp k)) (ids_waiting js) ≡ ids_waiting js → remove_key (is_at (nat_cmp k)) (cond b (j.id ∷ ids_waiting js) (ids_waiting js)) ≡ cond b (j.id ∷ ids_waiting js) (ids_waiting js)
    by true more = rw (below k j.id rising.0) (ap (λ (l : List ℕ). j.id ∷ l) more)
    by false more = more

removed : (low high : ℕ) (front back : List ActiveJob) (job : ActiveJob) → Rising low (front ++ job ∷ back) high → remove_key (is_at (nat_cmp job.id)) (ids_waiting (front ++ job ∷ back)) ≡ ids_waiting (front ++ back)
removed low high [] back job rising = by (waits job) (remove_none job.id high back rising.1)
  where
    by : (b : Bool) → remove_key (is_at (nat_cmp job.id)) (ids_waiting back) ≡ ids_waiting back → remove_key (is_at (nat_cmp job.id)) (cond b (job.id ∷ ids_waiting back) (ids_waiting back)) ≡ ids_waiting back
    by true more = rw (same_place job.id) refl
    by false more = more
removed low high (j ∷ front) back job rising = by (waits j) (before_it j.id high front back job rising.1) (removed j.id high front back job rising.1)
  where
    by : (b : Bool) → j.id < job.id → remove_key (is_at (nat_cmp job.id)) (ids_waiting (front ++ job ∷ back)) ≡ ids_waiting (front ++ back)
        → remove_key (is_at (nat_cmp job.id)) (cond b (j.id ∷ ids_waiting (front ++ job ∷ back)) (ids_waiting (front ++ job ∷ back))) ≡ cond b (j.id ∷ ids_waiting (front ++ back)) (ids_waiting (front ++ back))
    by true less more = rw (above job.id j.id less) (ap (λ (l : List ℕ). j.id ∷ l) more)
    by false less more = more

none_of : (r : Option Request) → is_some r ≡ false → r ≡ None
none_of None e = refl
none_of (Some request) e = absurd (cc)

-- the first of them
pub record First (k : ℕ) (rest : List ℕ) (js : List ActiveJob) : Type 0 where
  pub job : ActiveJob
  pub front : List ActiveJob
  pub back : List ActiveJob
  pub was : js ≡ front ++ job ∷ back
  pub id : job.id ≡ k
  pub some : is_some job.request ≡ true
  pub first : NoneWaits front
  pub left : rest ≡ ids_waiting back

pub first_waiting : (k : ℕ) (rest : List ℕ) (js : List ActiveJob) → k ∷ rest ≡ ids_waiting js → First k rest js
first_waiting k rest [] is = absurd (cc)
first_waiting k rest (j ∷ js) is = elim (cases_Bool (waits j)) [
  | inl e ↦
      let at : k ∷ rest ≡ j.id ∷ ids_waiting js = rw e at is in
      record { job = j; front = []; back = js; was = refl; id = cc; some = e; first = tt; left = cc }
  | inr e ↦
      let x = first_waiting k rest js (rw e at is) in
      record { job = x.job; front = j ∷ x.front; back = x.back; was = ap (λ (l : List ActiveJob). j ∷ l) x.was; id = x.id; some = x.some; first = (none_of j.request e, x.first); left = x.left }
]

behind_those : (front back : List ActiveJob) → NoneWaits front → ids_waiting (front ++ back) ≡ ids_waiting back
behind_those [] back none = refl
behind_those (j ∷ front) back none = rw none.0 (behind_those front back none.1)

pub none_waits : (js : List ActiveJob) → [] ≡ ids_waiting js → NoneWaits js
none_waits [] is = tt
none_waits (j ∷ js) is = elim (cases_Bool (waits j)) [
  | inl e ↦ absurd (let bad : [] ≡ j.id ∷ ids_waiting js = rw e at is in cc)
  | inr e ↦ (none_of j.request e, none_waits js (rw e at is))
]

pub counted : (js : List ActiveJob) → length (ids_waiting js) ≡ length (filter waits js)
counted [] = refl
counted (j ∷ js) = by (waits j) (counted js)
  where
    by : (b : Bool) → length (ids_waiting js) ≡ length (filter waits js) → length (cond b (j.id ∷ ids_waiting js) (ids_waiting js)) ≡ length (cond b (j ∷ filter waits js) (filter waits js))
    by true n = omega (arith, n)
    by false n = n

-- ---- what the calls do

module _ {last : ℕ} {entries : List (ℕ × ActiveJob)} {waiting : List ℕ} where
  pub list_is : (a : AreJobs last entries waiting) → values_of entries ≡ a.list
  list_is a = ap (λ (es : List (ℕ × ActiveJob)). values_of es) a.are ∙ values_keyed a.list

  inserted : (a : AreJobs last entries waiting) (job : ActiveJob) → job.id ≡ last + 1 → insert_entry nat_cmp entries (last + 1) job ≡ keyed (a.list ++ job ∷ [])
  inserted a job next = rw a.are (insert_behind 0 last (last + 1) a.list job a.rising (omega arith) ∙ rw (← next, keyed_append a.list (job ∷ [])) refl)

  -- one more was made
  pub made : (a : AreJobs last entries waiting) (job : ActiveJob) → job.id ≡ last + 1 → waits job ≡ true
      → AreJobs (last + 1) (insert_entry nat_cmp entries (last + 1) job) (insert_key nat_cmp waiting (last + 1)) × (values_of (insert_entry nat_cmp entries (last + 1) job) ≡ values_of entries ++ job ∷ [])
  made a job next some =
      let one : ids_waiting (job ∷ []) ≡ (last + 1) ∷ [] = rw (some, next) refl in (
        record {
          list = a.list ++ job ∷ [];
          are = inserted a job next;
          rising = rising_more 0 last a.list job next a.rising;
          wait = rw a.wait (insert_last 0 last (last + 1) a.list a.rising (omega arith) ∙ sym (ids_append a.list job ∙ ap (λ (l : List ℕ). ids_waiting a.list ++ l) one));
        },
        rw (inserted a job next, list_is a) (values_keyed (a.list ++ job ∷ [])),
      )

  -- it was made and taken back
  pub unmade : (a : AreJobs last entries waiting) (job : ActiveJob) → job.id ≡ last + 1 → remove_entry (is_at (nat_cmp (last + 1))) (insert_entry nat_cmp entries (last + 1) job) ≡ entries
  unmade a job next =
      let gone = (between 0 (last + 1) a.list [] job (rising_more 0 last a.list job next a.rising)).1 in
      rw (inserted a job next, ← next) (gone ∙ ap keyed (append-nil a.list) ∙ sym a.are)

  -- the first that waits was handed out
  pub found : (a : AreJobs last entries waiting) (k : ℕ) (rest : List ℕ) → waiting ≡ k ∷ rest → First k rest a.list × ((job : ActiveJob) → lookup (is_at (nat_cmp k)) entries ≡ Some job → is_some job.request ≡ true)
  found a k rest is =
      let x = first_waiting k rest a.list (sym is ∙ a.wait) in
      let at = between 0 last x.front x.back x.job (subst (λ (l : List ActiveJob). Rising 0 l last) x.was a.rising) in
      let here : lookup (is_at (nat_cmp k)) entries ≡ Some x.job =
      ap (λ (es : List (ℕ × ActiveJob)). lookup (is_at (nat_cmp k)) es) (a.are ∙ ap keyed x.was)
      ∙ subst (λ i. lookup (is_at (nat_cmp i)) (keyed (x.front ++ x.job ∷ x.back)) ≡ Some x.job) x.id at.0 in
      (x, λ job there. let same : Some x.job ≡ Some job = sym here ∙ there in subst (λ (o : Option ActiveJob). by o) same x.some)
    where
      by : Option ActiveJob → Type 0
      by None = ⊥
      by (Some job) = is_some job.request ≡ true

  -- it was handed out, and waits no more
  pub handed : (a : AreJobs last entries waiting) (k : ℕ) (rest : List ℕ) (is : waiting ≡ k ∷ rest) (job : ActiveJob) (request : Request) (stream : Bool) → stream ≡ is_stream job.body → lookup (is_at (nat_cmp k)) entries ≡ Some job → job.request ≡ Some request
      → (new : List (ℕ × ActiveJob)) → new ≡ set_value (is_at (nat_cmp k)) entries (record job { request = None })
      → AreJobs last new rest × HandsOne (values_of entries) (record { id = k; header = job.header; stream = stream; request = request }) (values_of new)
  handed a k rest is job request stream streams there asked new set =
      let x = first_waiting k rest a.list (sym is ∙ a.wait) in
      let rising = subst (λ (l : List ActiveJob). Rising 0 l last) x.was a.rising in
      let at = between 0 last x.front x.back x.job rising in
      let here : lookup (is_at (nat_cmp k)) entries ≡ Some x.job =
      ap (λ (es : List (ℕ × ActiveJob)). lookup (is_at (nat_cmp k)) es) (a.are ∙ ap keyed x.was)
      ∙ subst (λ i. lookup (is_at (nat_cmp i)) (keyed (x.front ++ x.job ∷ x.back)) ≡ Some x.job) x.id at.0 in
      let same : x.job ≡ job = same_Some x.job job (sym here ∙ there) in
      let taken = record x.job { request = None } in
      let is_new : new ≡ keyed (x.front ++ taken ∷ x.back) =
      set ∙ ap (λ (j : ActiveJob). set_value (is_at (nat_cmp k)) entries (record j { request = None })) (sym same)
      ∙ ap (λ (es : List (ℕ × ActiveJob)). set_value (is_at (nat_cmp k)) es taken) (a.are ∙ ap keyed x.was)
      ∙ subst (λ i. set_value (is_at (nat_cmp i)) (keyed (x.front ++ x.job ∷ x.back)) taken ≡ keyed (x.front ++ taken ∷ x.back)) x.id (at.2 taken refl) in (
        record {
          list = x.front ++ taken ∷ x.back;
          are = is_new;
          rising = rising_taken 0 last x.front x.back x.job rising;
          wait = x.left ∙ sym (behind_those x.front (taken ∷ x.back) x.first);
        },
        record {
          job = x.job;
          front = x.front;
          back = x.back;
          was = list_is a ∙ x.was;
          id = sym x.id;
          header = ap (λ (j : ActiveJob). j.header) (sym same);
          stream = streams ∙ ap (λ (j : ActiveJob). is_stream j.body) (sym same);
          request = ap (λ (j : ActiveJob). j.request) same ∙ asked;
          first = x.first;
          jobs = ap (λ (es : List (ℕ × ActiveJob)). values_of es) is_new ∙ values_keyed (x.front ++ taken ∷ x.back);
        },
      )

  pub is_there : (a : AreJobs last entries waiting) (k : ℕ) (rest : List ℕ) → waiting ≡ k ∷ rest → lookup (is_at (nat_cmp k)) entries ≡ None → ⊥
  is_there a k rest is none =
      let x = first_waiting k rest a.list (sym is ∙ a.wait) in
      let at = between 0 last x.front x.back x.job (subst (λ (l : List ActiveJob). Rising 0 l last) x.was a.rising) in
      let here : lookup (is_at (nat_cmp k)) entries ≡ Some x.job =
      ap (λ (es : List (ℕ × ActiveJob)). lookup (is_at (nat_cmp k)) es) (a.are ∙ ap keyed x.was)
      ∙ subst (λ i. lookup (is_at (nat_cmp i)) (keyed (x.front ++ x.job ∷ x.back)) ≡ Some x.job) x.id at.0 in
      let bad : None ≡ Some x.job = sym none ∙ here in cc

-- what is found stands between others
abbrev Stands : ℕ → List ActiveJob → ActiveJob → Type 0
Stands k js job = (front : List ActiveJob) × (back : List ActiveJob) × (js ≡ front ++ job ∷ back) × (job.id ≡ k)

stands : (k : ℕ) (js : List ActiveJob) (job : ActiveJob) → lookup (is_at (nat_cmp k)) (keyed js) ≡ Some job → Stands k js job
stands k [] job is = cc
stands k (j ∷ js) job is = elim (cases_Bool (is_at (nat_cmp k) j.id)) [
  | inl e ↦
      let here : j ≡ job = same_Some j job (rw e at is) in
      let same : k ≡ j.id = exact_unsigned k j.id (search (rules, Equal-is)) in
      ([], js, ap (λ (x : ActiveJob). x ∷ js) here, sym (same ∙ ap (λ (x : ActiveJob). x.id) here))
  | inr e ↦ let x = stands k js job (rw e at is) in (j ∷ x.0, x.1, ap (λ (l : List ActiveJob). j ∷ l) x.2, x.3)
]

-- what holds of each that stands between others holds of all
all_by_split : {X : Type 0} (P : X → Type 0) (xs : List X) → ((front back : List X) (x : X) → xs ≡ front ++ x ∷ back → P x) → AllByRecursion P xs
all_by_split P [] each = tt
all_by_split P (x ∷ xs) each = (each [] xs x refl, all_by_split P xs (λ front back y is. each (x ∷ front) back y (ap (λ l. x ∷ l) is)))

module _ {last : ℕ} {entries : List (ℕ × ActiveJob)} {waiting : List ℕ} where
  pub jobs_rise : AreJobs last entries waiting → Rising 0 (values_of entries) last
  jobs_rise a = rw (list_is a) a.rising

  -- a job of the list is found under its id
  pub job_found_at : AreJobs last entries waiting → (id : ℕ) (job : ActiveJob) → IsJob (values_of entries) id job → lookup (is_at (nat_cmp id)) entries ≡ Some job
  job_found_at a id job at =
      let is : a.list ≡ at.front ++ job ∷ at.back = sym (list_is a) ∙ at.is in
      let rising = subst (λ (l : List ActiveJob). Rising 0 l last) is a.rising in
      ap (λ (es : List (ℕ × ActiveJob)). lookup (is_at (nat_cmp id)) es) (a.are ∙ ap keyed is)
      ∙ subst (λ i. lookup (is_at (nat_cmp i)) (keyed (at.front ++ job ∷ at.back)) ≡ Some job) at.is_job (between 0 last at.front at.back job rising).0

  pub taken_found : AreJobs last entries waiting → (id : ℕ) (job : ActiveJob) → lookup (is_at (nat_cmp id)) entries ≡ Some job → job.request ≡ None → IsTaken (values_of entries) id job
  taken_found a id job is taken =
      let x = stands id a.list job (ap (λ es. lookup (is_at (nat_cmp id)) es) (sym a.are) ∙ is) in
      record { front = x.0; back = x.1; is = list_is a ∙ x.2; is_job = x.3; taken = taken }

  pub unknown_here : AreJobs last entries waiting → (id : ℕ) (r : Option ActiveJob) → lookup (is_at (nat_cmp id)) entries ≡ r
      → ((job : ActiveJob) → r ≡ Some job → job.request ≡ None → ⊥) → IsUnknown (values_of entries) id
  unknown_here a id r is none = rw (list_is a) (all_by_split _ a.list (λ front back job at same taken.
      let here = (between 0 last front back job (rw at at a.rising)).0 in
      none job (sym is ∙ rw (a.are, at, ← same) here) taken))

-- a job is gone
pub ended : {last : ℕ} {entries : List (ℕ × ActiveJob)} {waiting : List ℕ} → AreJobs last entries waiting → (id : ℕ) (job : ActiveJob) (at : IsJob (values_of entries) id job)
    → AreJobs last (remove_entry (is_at (nat_cmp id)) entries) (remove_key (is_at (nat_cmp id)) waiting) × (values_of (remove_entry (is_at (nat_cmp id)) entries) ≡ at.front ++ at.back)
ended {last} {entries} {waiting} a id job at =
    let is : a.list ≡ at.front ++ job ∷ at.back = sym (list_is a) ∙ at.is in
    let rising = subst (λ (l : List ActiveJob). Rising 0 l last) is a.rising in
    let gone : remove_entry (is_at (nat_cmp id)) entries ≡ keyed (at.front ++ at.back) =
    ap (λ (es : List (ℕ × ActiveJob)). remove_entry (is_at (nat_cmp id)) es) (a.are ∙ ap keyed is)
    ∙ subst (λ i. remove_entry (is_at (nat_cmp i)) (keyed (at.front ++ job ∷ at.back)) ≡ keyed (at.front ++ at.back)) at.is_job (between 0 last at.front at.back job rising).1 in
    let left : remove_key (is_at (nat_cmp id)) waiting ≡ ids_waiting (at.front ++ at.back) =
    ap (λ (ks : List ℕ). remove_key (is_at (nat_cmp id)) ks) (a.wait ∙ ap ids_waiting is)
    ∙ subst (λ i. remove_key (is_at (nat_cmp i)) (ids_waiting (at.front ++ job ∷ at.back)) ≡ ids_waiting (at.front ++ at.back)) at.is_job (removed 0 last at.front at.back job rising) in (
      record { list = at.front ++ at.back; are = gone; rising = one_less 0 last at.front at.back job rising; wait = left },
      ap (λ (es : List (ℕ × ActiveJob)). values_of es) gone ∙ values_keyed (at.front ++ at.back),
    )

pub new_jobs : (n : ℕ) → AreJobs n [] []
new_jobs n = record { list = []; are = refl; rising = omega arith; wait = refl }

pub filter_fewer : (js : List ActiveJob) → length (filter waits js) ≤ length js
filter_fewer js = let n = length-filter_both waits (λ j. not (waits j)) (λ j. refl) js in omega (arith, n)

pub empty_of : (l : List ℕ) → length l ≡ 0 → l ≡ []
empty_of [] n = refl
empty_of (x ∷ l) n = absurd (omega (arith, n))

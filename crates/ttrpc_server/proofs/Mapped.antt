-- Jobs whose mailboxes changed are found as before.
use Rattle.ttrpc_server.proofs.Words.{◌≡◌, ◌≢◌, ◌∙◌, ◌<◌, ◌≤◌, ℕ, List, [], ◌∷◌, length, map, Bool, true, false, cond, nat_eq, refl, sym, ap, subst, ActiveJob, Body, Unary, Rules, deadline_in, jobs_at, first_id, Indexed, is_due_at, IsKept, MessageHeader, Rising, AreSingle}
use Rattle.std.proofs.lemmas.Bool.{eqb-true, ne_eqb}
use Rattle.ttrpc_server.specs.Calls.{WaitsNot}
use Rattle.std.proofs.lemmas.List.{length-map}
use Rattle.ttrpc_server.specs.Types.{Mail, Stream}
use Rattle.ttrpc_server.specs.State.{changed_at, changed_under, is_stream, with_mail}
use Rattle.ttrpc_server.specs.Kept.{AreUnary}

-- it leaves ids, headers, deadlines, requests and kinds as they are
pub record StaysFound (g : ActiveJob → ActiveJob) : Type 0 where
  pub id : (j : ActiveJob) → (g j).id ≡ j.id
  pub header : (j : ActiveJob) → (g j).header ≡ j.header
  pub deadline : (j : ActiveJob) → deadline_in (g j).body ≡ deadline_in j.body
  pub request : (j : ActiveJob) → (g j).request ≡ j.request
  pub stream : (j : ActiveJob) → is_stream (g j).body ≡ is_stream j.body

same_deadline : (change : Mail → Mail) (b : Body) → deadline_in (with_mail change b) ≡ deadline_in b
same_deadline change (Unary deadline) = refl
same_deadline change (Stream mail) = refl

set_deadline : (t : Bool) (change : Mail → Mail) (j : ActiveJob) → deadline_in (cond t (record j { body = with_mail change j.body }) j).body ≡ deadline_in j.body
set_deadline true change j = same_deadline change j.body
set_deadline false change j = refl

same_kind : (change : Mail → Mail) (b : Body) → is_stream (with_mail change b) ≡ is_stream b
same_kind change (Unary deadline) = refl
same_kind change (Stream mail) = refl

set_kind : (t : Bool) (change : Mail → Mail) (j : ActiveJob) → is_stream (cond t (record j { body = with_mail change j.body }) j).body ≡ is_stream j.body
set_kind true change j = same_kind change j.body
set_kind false change j = refl

set_id : (t : Bool) (change : Mail → Mail) (j : ActiveJob) → (cond t (record j { body = with_mail change j.body }) j).id ≡ j.id
set_id true change j = refl
set_id false change j = refl

set_header : (t : Bool) (change : Mail → Mail) (j : ActiveJob) → (cond t (record j { body = with_mail change j.body }) j).header ≡ j.header
set_header true change j = refl
set_header false change j = refl

set_request : (t : Bool) (change : Mail → Mail) (j : ActiveJob) → (cond t (record j { body = with_mail change j.body }) j).request ≡ j.request
set_request true change j = refl
set_request false change j = refl

pub at_stays : (k : ℕ) (change : Mail → Mail) → StaysFound (changed_at k change)
at_stays k change = record {
  id = λ j. set_id (nat_eq j.id k) change j;
  header = λ j. set_header (nat_eq j.id k) change j;
  deadline = λ j. set_deadline (nat_eq j.id k) change j;
  request = λ j. set_request (nat_eq j.id k) change j;
  stream = λ j. set_kind (nat_eq j.id k) change j;
}

pub under_stays : (k : ℕ) (change : Mail → Mail) → StaysFound (changed_under k change)
under_stays k change = record {
  id = λ j. set_id (nat_eq j.header.stream_id k) change j;
  header = λ j. set_header (nat_eq j.header.stream_id k) change j;
  deadline = λ j. set_deadline (nat_eq j.header.stream_id k) change j;
  request = λ j. set_request (nat_eq j.header.stream_id k) change j;
  stream = λ j. set_kind (nat_eq j.header.stream_id k) change j;
}

module _ (g : ActiveJob → ActiveJob) (stays : StaysFound g) where
  mapped_due : (js : List ActiveJob) (at id : ℕ) → is_due_at (map g js) at id ≡ is_due_at js at id
  mapped_due [] at id = refl
  mapped_due (j ∷ js) at id = rw (stays.id j, stays.deadline j, mapped_due js at id) refl

  pub mapped_at : (js : List ActiveJob) (k : ℕ) → jobs_at (map g js) k ≡ map g (jobs_at js k)
  mapped_at [] k = refl
  mapped_at (j ∷ js) k = by (nat_eq (g j).header.stream_id k) (nat_eq j.header.stream_id k) (ap (λ (h : MessageHeader). nat_eq h.stream_id k) (stays.header j)) (mapped_at js k)
    where
      by : (t u : Bool) → t ≡ u → jobs_at (map g js) k ≡ map g (jobs_at js k) → cond t (g j ∷ jobs_at (map g js) k) (jobs_at (map g js) k) ≡ map g (cond u (j ∷ jobs_at js k) (jobs_at js k))
      by true true e more = ap (λ l. g j ∷ l) more
      by false false e more = more
      by true false e more = cc
      by false true e more = cc

  first_mapped : (js : List ActiveJob) → first_id (map g js) ≡ first_id js
  first_mapped [] = refl
  first_mapped (j ∷ js) = rw (stays.id j) refl

  unary_mapped : (js : List ActiveJob) → AreUnary js → AreUnary (map g js)
  unary_mapped [] h = tt
  unary_mapped (j ∷ js) h = (stays.stream j ∙ h.0, unary_mapped js h.1)

  pub kept_mapped : {rules : Rules} {jobs : List ActiveJob} {index : Indexed} → IsKept rules jobs index → IsKept rules (map g jobs) index
  kept_mapped {rules} {jobs} {index} kept = record {
    deadlines = λ at id. kept.deadlines at id ∙ sym (mapped_due jobs at id);
    single = λ async k. subst (λ (n : ℕ). n ≤ 1) (sym (ap length (mapped_at jobs k) ∙ length-map (jobs_at jobs k) g)) (kept.single async k);
    found = λ async k. kept.found async k ∙ sym (ap first_id (mapped_at jobs k) ∙ first_mapped (jobs_at jobs k));
    unary = λ sync. unary_mapped jobs (kept.unary sync);
  }

  pub rising_mapped : (low high : ℕ) (js : List ActiveJob) → Rising low js high → Rising low (map g js) high
  rising_mapped low high [] rising = rising
  rising_mapped low high (j ∷ js) rising =
      (subst (λ (n : ℕ). low < n) (sym (stays.id j)) rising.0, subst (λ (n : ℕ). Rising n (map g js) high) (sym (stays.id j)) (rising_mapped j.id high js rising.1))

  pub waits_not_mapped : (id : ℕ) (js : List ActiveJob) → WaitsNot id js → WaitsNot id (map g js)
  waits_not_mapped id [] none = tt
  waits_not_mapped id (j ∷ js) none = ((λ same. stays.request j ∙ none.0 (sym (stays.id j) ∙ same)), waits_not_mapped id js none.1)

  pub single_mapped : (jobs : List ActiveJob) → AreSingle jobs → AreSingle (map g jobs)
  single_mapped jobs single k = subst (λ (n : ℕ). n ≤ 1) (sym (ap length (mapped_at jobs k) ∙ length-map (jobs_at jobs k) g)) (single k)

-- the jobs of another stream's id are as they were
pub unmoved : (k q : ℕ) (change : Mail → Mail) (js : List ActiveJob) → k ≢ q → map (changed_under q change) (jobs_at js k) ≡ jobs_at js k
unmoved k q change [] apart = refl
unmoved k q change (j ∷ js) apart = by (nat_eq j.header.stream_id k) refl (unmoved k q change js apart)
  where
    by : (t : Bool) → nat_eq j.header.stream_id k ≡ t → map (changed_under q change) (jobs_at js k) ≡ jobs_at js k → map (changed_under q change) (cond t (j ∷ jobs_at js k) (jobs_at js k)) ≡ cond t (j ∷ jobs_at js k) (jobs_at js k)
    by true e more =
        let other : nat_eq j.header.stream_id q ≡ false = ne_eqb j.header.stream_id q (λ same. apart (sym (eqb-true j.header.stream_id k e) ∙ same)) in
        rw other (ap (λ l. j ∷ l) more)
    by false e more = more

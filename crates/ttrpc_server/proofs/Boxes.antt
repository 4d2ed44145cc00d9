-- A job's mailbox changes, and the jobs stay under their ids.
use Rattle.ttrpc_server.proofs.Words.{rules, cases_Bool, inl, inr, arith, ◌≡◌, ◌≤◌, ℕ, List, [], ◌∷◌, Option, Some, None, Bool, true, false, cond, nat_eq, refl, sym, ap, ◌∙◌, same_Some, is_at, lookup, set_value, values_of, nat_cmp, ActiveJob, AreJobs, Body, ids_waiting, keyed, Rising}
use Rattle.std.proofs.lemmas.Bool.{eqb-true, ne_eqb}
use Rattle.std.proofs.lemmas.Map.Lookups.{exact_unsigned}
use Rattle.std.proofs.Common.{IfNone, IfSome, Result}
use Rattle.ttrpc_connection.specs.Mail.{Receives}
use Rattle.ttrpc_server.specs.Types.{Error, Failure, Mail}
use Rattle.ttrpc_server.specs.Mailboxes.{ReceivesFrom, mail_at, mail_in, mail_of}
use Rattle.ttrpc_server.specs.State.{job_at, on_mail, with_mail}
use Rattle.ttrpc_server.proofs.Keyed.{list_is, same_place, values_keyed}

-- ---- jobs by their ids

pub eq_test : (k : ℕ) → nat_eq k k ≡ true
eq_test k = search rules

same_test_if : (k x : ℕ) (b : Bool) → nat_eq x k ≡ b → is_at (nat_cmp k) x ≡ b
same_test_if k x true e = let same : x ≡ k = eqb-true x k e in rw (same, same_place k) refl
same_test_if k x false e = elim (cases_Bool (is_at (nat_cmp k) x)) [
  | inl at ↦ let same : k ≡ x = exact_unsigned k x (search (rules, at)) in let bad : true ≡ false = rw (← same, eq_test k) at e in cc
  | inr other ↦ other
]

same_test : (k x : ℕ) → is_at (nat_cmp k) x ≡ nat_eq x k
same_test k x = same_test_if k x (nat_eq x k) refl

pub found_so : (js : List ActiveJob) (k : ℕ) → lookup (is_at (nat_cmp k)) (keyed js) ≡ job_at js k
found_so [] k = refl
found_so (j ∷ js) k = rw (same_test k j.id) (by (nat_eq j.id k) (found_so js k))
  where
    by : (b : Bool) → lookup (is_at (nat_cmp k)) (keyed js) ≡ job_at js k → cond b (Some j) (lookup (is_at (nat_cmp k)) (keyed js)) ≡ cond b (Some j) (job_at js k)
    by true e = refl
    by false e = e

-- ---- the body of one changes

abbrev pub rebody : ℕ → Body → List ActiveJob → List ActiveJob
rebody k b [] = []
rebody k b (j ∷ js) = cond (nat_eq j.id k) (record j { body = b }) j ∷ rebody k b js

-- no job of this id is there
rebody_none : (k : ℕ) (b : Body) (js : List ActiveJob) → job_at js k ≡ None → rebody k b js ≡ js
rebody_none k b [] none = refl
rebody_none k b (j ∷ js) none = by (nat_eq j.id k) none (rebody_none k b js)
  where
    by : (t : Bool) → cond t (Some j) (job_at js k) ≡ None → (job_at js k ≡ None → rebody k b js ≡ js) → cond t (record j { body = b }) j ∷ rebody k b js ≡ j ∷ js
    by true none more = let bad : Some j ≡ None = none in cc
    by false none more = ap (λ l. j ∷ l) (more none)

pub unchanged : (k : ℕ) (change : Mail → Mail) (js : List ActiveJob) → job_at js k ≡ None → on_mail k change js ≡ js
unchanged k change [] none = refl
unchanged k change (j ∷ js) none = by (nat_eq j.id k) none (unchanged k change js)
  where
    by : (t : Bool) → cond t (Some j) (job_at js k) ≡ None → (job_at js k ≡ None → on_mail k change js ≡ js) → cond t (record j { body = with_mail change j.body }) j ∷ on_mail k change js ≡ j ∷ js
    by true none more = let bad : Some j ≡ None = none in cc
    by false none more = ap (λ l. j ∷ l) (more none)

pub none_above : (low high k : ℕ) (js : List ActiveJob) → k ≤ low → Rising low js high → job_at js k ≡ None
none_above low high k [] le rising = refl
none_above low high k (j ∷ js) le rising =
    let other : nat_eq j.id k ≡ false = ne_eqb j.id k (λ same. omega (arith, same, le, rising.0)) in
    rw other (none_above j.id high k js (omega (arith, le, rising.0)) rising.1)

-- the map has it changed, too
set_so : (low high k : ℕ) (b : Body) (js : List ActiveJob) (job : ActiveJob) → Rising low js high → job_at js k ≡ Some job
    → set_value (is_at (nat_cmp k)) (keyed js) (record job { body = b }) ≡ keyed (rebody k b js)
set_so low high k b [] job rising is = cc
set_so low high k b (j ∷ js) job rising is = by (nat_eq j.id k) refl is (set_so j.id high k b js job rising.1)
  where
    by : (t : Bool) → nat_eq j.id k ≡ t → cond t (Some j) (job_at js k) ≡ Some job
        → (job_at js k ≡ Some job → set_value (is_at (nat_cmp k)) (keyed js) (record job { body = b }) ≡ keyed (rebody k b js))
        → set_value (is_at (nat_cmp k)) (keyed (j ∷ js)) (record job { body = b }) ≡ keyed (rebody k b (j ∷ js))
    by true e is more =
        let same : j ≡ job = same_Some j job is in
        let id : j.id ≡ k = eqb-true j.id k e in
        let rest : rebody k b js ≡ js = rebody_none k b js (none_above j.id high k js (omega (arith, id)) rising.1) in
        rw (same_test k j.id, e, rest, ← same) refl
    by false e is more = rw (same_test k j.id, e) (ap (λ (l : List (ℕ × ActiveJob)). (j.id, j) ∷ l) (more is))

rebody_waits : (k : ℕ) (b : Body) (js : List ActiveJob) → ids_waiting (rebody k b js) ≡ ids_waiting js
rebody_waits k b [] = refl
rebody_waits k b (j ∷ js) = by (nat_eq j.id k) (rebody_waits k b js)
  where
    by : (t : Bool) → ids_waiting (rebody k b js) ≡ ids_waiting js → ids_waiting (cond t (record j { body = b }) j ∷ rebody k b js) ≡ ids_waiting (j ∷ js)
    by true more = rw more refl
    by false more = rw more refl

rebody_rises : (low high k : ℕ) (b : Body) (js : List ActiveJob) → Rising low js high → Rising low (rebody k b js) high
rebody_rises low high k b [] rising = rising
rebody_rises low high k b (j ∷ js) rising = by (nat_eq j.id k) (rebody_rises j.id high k b js rising.1)
  where
    by : (t : Bool) → Rising j.id (rebody k b js) high → Rising low (cond t (record j { body = b }) j ∷ rebody k b js) high
    by true more = (rising.0, more)
    by false more = (rising.0, more)

-- where the body is as it was nothing changes, and where its mailbox changed that alone
rebody_same : (low high k : ℕ) (js : List ActiveJob) (job : ActiveJob) → Rising low js high → job_at js k ≡ Some job → rebody k job.body js ≡ js
rebody_same low high k [] job rising is = refl
rebody_same low high k (j ∷ js) job rising is = by (nat_eq j.id k) refl is (rebody_same j.id high k js job rising.1)
  where
    by : (t : Bool) → nat_eq j.id k ≡ t → cond t (Some j) (job_at js k) ≡ Some job → (job_at js k ≡ Some job → rebody k job.body js ≡ js)
        → cond t (record j { body = job.body }) j ∷ rebody k job.body js ≡ j ∷ js
    by true e is more =
        let same : j ≡ job = same_Some j job is in
        let id : j.id ≡ k = eqb-true j.id k e in
        rw (rebody_none k job.body js (none_above j.id high k js (omega (arith, id)) rising.1), ← same) refl
    by false e is more = ap (λ l. j ∷ l) (more is)

rebody_changed : (low high k : ℕ) (change : Mail → Mail) (js : List ActiveJob) (job : ActiveJob) → Rising low js high → job_at js k ≡ Some job → rebody k (with_mail change job.body) js ≡ on_mail k change js
rebody_changed low high k change [] job rising is = refl
rebody_changed low high k change (j ∷ js) job rising is = by (nat_eq j.id k) refl is (rebody_changed j.id high k change js job rising.1)
  where
    by : (t : Bool) → nat_eq j.id k ≡ t → cond t (Some j) (job_at js k) ≡ Some job → (job_at js k ≡ Some job → rebody k (with_mail change job.body) js ≡ on_mail k change js)
        → cond t (record j { body = with_mail change job.body }) j ∷ rebody k (with_mail change job.body) js ≡ cond t (record j { body = with_mail change j.body }) j ∷ on_mail k change js
    by true e is more =
        let same : j ≡ job = same_Some j job is in
        let id : j.id ≡ k = eqb-true j.id k e in
        let above = none_above j.id high k js (omega (arith, id)) rising.1 in
        rw (rebody_none k (with_mail change job.body) js above, unchanged k change js above, ← same) refl
    by false e is more = ap (λ l. j ∷ l) (more is)

module _ {last : ℕ} {entries : List (ℕ × ActiveJob)} {waiting : List ℕ} where
  pub here_is : AreJobs last entries waiting → (k : ℕ) → lookup (is_at (nat_cmp k)) entries ≡ job_at (values_of entries) k
  here_is a k = ap (λ es. lookup (is_at (nat_cmp k)) es) a.are ∙ found_so a.list k ∙ ap (λ js. job_at js k) (sym (list_is a))

  -- the body of a job is set
  pub rebodied : (a : AreJobs last entries waiting) (k : ℕ) (job : ActiveJob) (b : Body) (new : List (ℕ × ActiveJob)) → lookup (is_at (nat_cmp k)) entries ≡ Some job
      → new ≡ set_value (is_at (nat_cmp k)) entries (record job { body = b }) → AreJobs last new waiting × (values_of new ≡ rebody k b (values_of entries))
  rebodied a k job b new found set =
      let at : job_at a.list k ≡ Some job = ap (λ js. job_at js k) (sym (list_is a)) ∙ sym (here_is a k) ∙ found in
      let are : new ≡ keyed (rebody k b a.list) = set ∙ ap (λ es. set_value (is_at (nat_cmp k)) es (record job { body = b })) a.are ∙ set_so 0 last k b a.list job a.rising at in (
        record { list = rebody k b a.list; are = are; rising = rebody_rises 0 last k b a.list a.rising; wait = a.wait ∙ sym (rebody_waits k b a.list) },
        ap (λ es. values_of es) are ∙ values_keyed (rebody k b a.list) ∙ ap (λ js. rebody k b js) (sym (list_is a)),
      )

  -- so its mailbox has changed, or nothing has
  pub mail_changed : (a : AreJobs last entries waiting) (k : ℕ) (change : Mail → Mail) (job : ActiveJob) (b : Body) (new : List (ℕ × ActiveJob)) → lookup (is_at (nat_cmp k)) entries ≡ Some job
      → new ≡ set_value (is_at (nat_cmp k)) entries (record job { body = b }) → b ≡ with_mail change job.body → values_of new ≡ on_mail k change (values_of entries)
  mail_changed a k change job b new found set is =
      (rebodied a k job b new found set).1 ∙ ap (λ x. rebody k x (values_of entries)) is ∙ rebody_changed 0 last k change (values_of entries) job (rw (list_is a) a.rising) (sym (here_is a k) ∙ found)

  pub mail_same : (a : AreJobs last entries waiting) (k : ℕ) (job : ActiveJob) (b : Body) (new : List (ℕ × ActiveJob)) → lookup (is_at (nat_cmp k)) entries ≡ Some job
      → new ≡ set_value (is_at (nat_cmp k)) entries (record job { body = b }) → b ≡ job.body → values_of new ≡ values_of entries
  mail_same a k job b new found set is =
      (rebodied a k job b new found set).1 ∙ ap (λ x. rebody k x (values_of entries)) is ∙ rebody_same 0 last k (values_of entries) job (rw (list_is a) a.rising) (sym (here_is a k) ∙ found)

  pub mail_none : (a : AreJobs last entries waiting) (k : ℕ) (change : Mail → Mail) → lookup (is_at (nat_cmp k)) entries ≡ None → on_mail k change (values_of entries) ≡ values_of entries
  mail_none a k change none = unchanged k change (values_of entries) (sym (here_is a k) ∙ none)

  pub received : (a : AreJobs last entries waiting) (k : ℕ) (failure : Option Failure) (given : Option (Option (Result (List ℕ) Error))) (job : ActiveJob) (b : Body) (new : List (ℕ × ActiveJob)) → lookup (is_at (nat_cmp k)) entries ≡ Some job
      → new ≡ set_value (is_at (nat_cmp k)) entries (record job { body = b }) → IfNone given ((mail_of job.body ≡ None) × (b ≡ job.body))
      → IfSome given (λ x. (mail : Mail) × (left : Mail) × (mail_of job.body ≡ Some mail) × Receives failure mail x left × (b ≡ with_mail (λ _. left) job.body))
      → ReceivesFrom failure (values_of entries) k given (values_of new)
  received a k failure None job b new found set none some =
      let at : job_at (values_of entries) k ≡ Some job = sym (here_is a k) ∙ found in
      (ap mail_in at ∙ none.0, mail_same a k job b new found set none.1)
  received a k failure (Some x) job b new found set none some =
      let at : job_at (values_of entries) k ≡ Some job = sym (here_is a k) ∙ found in
      (some.0, some.1, ap mail_in at ∙ some.2, some.3, mail_changed a k (λ _. some.1) job b new found set some.4)

  pub received_not : AreJobs last entries waiting → (k : ℕ) → lookup (is_at (nat_cmp k)) entries ≡ None → mail_at (values_of entries) k ≡ None
  received_not a k none = ap mail_in (sym (here_is a k) ∙ none)

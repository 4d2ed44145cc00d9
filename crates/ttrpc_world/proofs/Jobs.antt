-- A server's jobs: around a job, and what is told beside any.
use Rattle.ttrpc_world.proofs.Words.{[], ActiveJob, all_at, AllByRecursion, ap, arith, astray, at_stays, between_other, between_own, Body, Bool, box_of, CallState, cases_Bool, changed_at, deadline_in, Dropped, due_jobs, EndsOne, eqb-true, Error, false, if◌then◌else◌, inl, inr, is_due, is_stream, IsDeaf, IsPatient, IsPlain, IsTaken, IsTooSoon, job_at, jobs_at, leb-false, leb-true, List, Mail, mail_in, mail_of, MessageHeader, nat_eq, nat_le, None, on_mail, Option, past_error, reaches, refl, Some, stream_id_of, StreamBody, subst, sym, true, UnaryBody, under_both, under_other, unknown_stream, Waiting, with_mail, without_receiver, ℕ, ◌++◌, ◌∙◌, ◌∷◌, ◌≡◌, ◌≢◌, ◌⊎◌}
use Rattle.ttrpc_world.proofs.Numbers.{AreRight}

-- ---- jobs around a job

pub not_here : (k : ℕ) (front back : List ActiveJob) (j : ActiveJob) → j.header.stream_id ≢ k → jobs_at (front ++ j ∷ back) k ≡ jobs_at (front ++ back) k
not_here k front back j other = between_other stream_id_of k front back j other ∙ sym (under_both stream_id_of k front back)

-- A job that was taken: the function gives its stream, and what there is under that.
pub record IsAt (f : ℕ → ℕ) (jobs : List ActiveJob) (id : ℕ) (j : ActiveJob) (at : IsTaken jobs id j) : Type 0 where
  pub stream : f id ≡ j.header.stream_id
  pub own : jobs_at jobs j.header.stream_id ≡ jobs_at at.front j.header.stream_id ++ j ∷ jobs_at at.back j.header.stream_id

pub is_at : (f : ℕ → ℕ) (jobs : List ActiveJob) (id : ℕ) (j : ActiveJob) → AreRight f jobs → (t : IsTaken jobs id j) → IsAt f jobs id j t
is_at f jobs id j right t = record {
  stream = ap f (sym t.is_job) ∙ all_at (λ (x : ActiveJob). f x.id ≡ x.header.stream_id) t.front t.back j (subst (λ (js : List ActiveJob). AreRight f js) t.is right);
  own = ap (λ js. jobs_at js j.header.stream_id) t.is ∙ between_own stream_id_of j.header.stream_id t.front t.back j refl;
}

-- A job that a number names.
pub job_is : (jobs : List ActiveJob) (id : ℕ) (j : ActiveJob) → job_at jobs id ≡ Some j → (front : List ActiveJob) × (back : List ActiveJob) × (jobs ≡ front ++ j ∷ back) × (j.id ≡ id)
job_is [] id j e = cc
job_is (x ∷ jobs) id j e = by (nat_eq x.id id) refl e (λ later. job_is jobs id j later)
  where
    by : (t : Bool) → nat_eq x.id id ≡ t → (if t then Some x else job_at jobs id) ≡ Some j → (job_at jobs id ≡ Some j → (front : List ActiveJob) × (back : List ActiveJob) × (jobs ≡ front ++ j ∷ back) × (j.id ≡ id))
        → (front : List ActiveJob) × (back : List ActiveJob) × (x ∷ jobs ≡ front ++ j ∷ back) × (j.id ≡ id)
    by true own is later = let same : x ≡ j = cc in ([], jobs, ap (λ (y : ActiveJob). y ∷ jobs) same, ap ActiveJob.id (sym same) ∙ eqb-true x.id id own)
    by false own is later = let l = later is in (x ∷ l.0, l.1, ap (λ (ys : List ActiveJob). x ∷ ys) l.2, l.3)

-- the job whose mailbox a number names
pub mailed : (job : Option ActiveJob) (m : Mail) → mail_in job ≡ Some m → (j : ActiveJob) × (job ≡ Some j) × (j.body ≡ StreamBody m)
mailed None m e = cc
mailed (Some j) m e = (j, refl, by j.body e)
  where
    by : (body : Body) → mail_of body ≡ Some m → body ≡ StreamBody m
    by (UnaryBody deadline) is = cc
    by (StreamBody x) is = let same : x ≡ m = cc in ap (λ (y : Mail). StreamBody y) same

-- a number that is of another stream's job changes nothing here
pub untouched : (f : ℕ → ℕ) (n id : ℕ) (change : Mail → Mail) (jobs : List ActiveJob) → AreRight f jobs → f id ≢ n → jobs_at (on_mail id change jobs) n ≡ jobs_at jobs n
untouched f n id change [] right e = refl
untouched f n id change (j ∷ jobs) right e = elim (cases_Bool (nat_eq j.id id)) [
  | inl own ↦
      let stream : j.header.stream_id ≢ n = λ same. e (ap f (sym (eqb-true j.id id own)) ∙ right.0 ∙ same) in
      let changed : (changed_at id change j).header.stream_id ≢ n = λ same. stream (ap (λ (h : MessageHeader). h.stream_id) (sym ((at_stays id change).header j)) ∙ same) in
      under_other stream_id_of n (changed_at id change j) (on_mail id change jobs) changed ∙ untouched f n id change jobs right.1 e ∙ sym (under_other stream_id_of n j jobs stream)
  | inr other ↦
      let same : changed_at id change j ≡ j = rw other refl in
      ap (λ (x : ActiveJob). jobs_at (x ∷ on_mail id change jobs) n) same ∙ ap (λ (xs : List ActiveJob). if nat_eq j.header.stream_id n then j ∷ xs else xs) (untouched f n id change jobs right.1 e)
]

-- what asking beside any mailbox tells is no end
pub aside_plain : (job : Option ActiveJob) (made : Bool) (error : Error) → astray past_error job made ≡ Some error → IsPlain error
aside_plain None true error e = let same : past_error ≡ error = cc in subst IsPlain same (λ m. refl)
aside_plain None false error e = let same : unknown_stream ≡ error = cc in subst IsPlain same (λ m. refl)
aside_plain (Some j) made error e = by (is_stream j.body) e
  where
    by : (b : Bool) → (if b then None else Some unknown_stream) ≡ Some error → IsPlain error
    by true is = cc
    by false is = let same : unknown_stream ≡ error = cc in subst IsPlain same (λ m. refl)

-- a mailbox whose receiver is dropped, or another's
pub deaf : (id : ℕ) (j : ActiveJob) → IsDeaf (changed_at id without_receiver) j
deaf id j = by (nat_eq j.id id) j.body refl
  where
    by : (own : Bool) (body : Body) → j.body ≡ body → (box_of (if own then record j { body = with_mail without_receiver j.body } else j).body ≡ box_of j.body) ⊎ ((box_of (if own then record j { body = with_mail without_receiver j.body } else j).body).receiver ≡ Dropped)
    by false body is = inl refl
    by true (UnaryBody deadline) is = inl (ap (λ (x : Body). box_of (with_mail without_receiver x)) is ∙ sym (ap box_of is))
    by true (StreamBody m) is = inr (ap (λ (x : Body). (box_of (with_mail without_receiver x)).receiver) is)

-- it is gone
pub gone_at : (old : List ActiveJob) (id : ℕ) (j : ActiveJob) (new : List ActiveJob) → (p : EndsOne old id j new) → (n : ℕ) → jobs_at new n ≡ jobs_at p.at.front n ++ jobs_at p.at.back n
gone_at old id j new p n = ap (λ js. jobs_at js n) p.jobs ∙ under_both stream_id_of n p.at.front p.at.back

pub gone_others : (old : List ActiveJob) (id : ℕ) (j : ActiveJob) (new : List ActiveJob) → (p : EndsOne old id j new) → (n : ℕ) → j.header.stream_id ≢ n → jobs_at new n ≡ jobs_at old n
gone_others old id j new p n e = ap (λ js. jobs_at js n) p.jobs ∙ sym (ap (λ js. jobs_at js n) p.at.is ∙ not_here n p.at.front p.at.back j e)

-- ---- jobs that are due

-- those that are found due are
pub all_due : (now : ℕ) (js : List ActiveJob) → AllByRecursion (λ (j : ActiveJob). is_due now j ≡ true) (due_jobs now js)
all_due now [] = tt
all_due now (j ∷ js) = by (is_due now j) refl (all_due now js)
  where
    by : (b : Bool) → is_due now j ≡ b → AllByRecursion (λ (i : ActiveJob). is_due now i ≡ true) (due_jobs now js) → AllByRecursion (λ (i : ActiveJob). is_due now i ≡ true) (if b then j ∷ due_jobs now js else due_jobs now js)
    by true e later = (e, later)
    by false e later = later

-- A job that is due has an earlier deadline than a call that waits and isn't.
pub too_soon : (now : ℕ) (call : Option CallState) (j : ActiveJob) → is_due now j ≡ true → ((d : Option ℕ) → call ≡ Some (Waiting d) → reaches now d ≡ false) → IsTooSoon call j
too_soon now call j due undue = by (deadline_in j.body) refl due
  where
    by : (at : Option ℕ) → deadline_in j.body ≡ at → reaches now at ≡ true → IsTooSoon call j
    by None is due = cc
    by (Some at) is due = (
      λ none. let bad : Some at ≡ None = sym is ∙ none in cc,
      λ d waits patient.
          let p = subst (λ (o : Option ℕ). IsPatient d o) is patient in
          let bad : nat_le p.0 now ≡ false = ap (reaches now) (sym p.1) ∙ undue d waits in
          absurd (let no : ⊥ = omega (arith, leb-true at now due, leb-false p.0 now bad, p.2) in no),
    )

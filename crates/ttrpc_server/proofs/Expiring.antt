-- The jobs that are due expire, one after the other.
use Rattle.ttrpc_server.proofs.Words.{arith, ◌≡◌, ◌≤◌, ◌+◌, ◌∙◌, ℕ, length, List, [], ◌∷◌, ◌++◌, append_assoc, Some, refl, sym, ap, subst, cases_Bool, inl, inr, OutboundTransform, Outbox, ActiveJob, Async, ExpireAll, ExpiresOne, IsJob, IsKept, JobList, Rising, SendsOwnAnswer, Server, due_jobs, is_due, timeout_response}
use Rattle.std.specs.Prelude.{drop, slice_get}
use Rattle.std.proofs.lemmas.List.{drop_all, drop_more}
use Rattle.std.proofs.lemmas.Option.{get_or_from_slice_get, slice_get_within}
use Rattle.ttrpc_connection.proofs.Words.{append-nil}
use Rattle.ttrpc_server.specs.declared.expiry.StopReason.{StopReason}
use Rattle.ttrpc_server.specs.Inside.{ExpiresAt, IsStop, StopsExpiring}
use Rattle.ttrpc_server.specs.Kept.{Expiring, Indexed}
use Rattle.ttrpc_server.proofs.Due.{ids_of}
use Rattle.ttrpc_server.proofs.Keyed.{one_less}
use Rattle.ttrpc_server.proofs.Kept.{kept_ended, one_fewer}

-- the first of the jobs that are due
pub record FirstDue (now id : ℕ) (rest : List ℕ) (js : List ActiveJob) : Type 0 where
  pub job : ActiveJob
  pub front : List ActiveJob
  pub back : List ActiveJob
  pub is : js ≡ front ++ job ∷ back
  pub is_job : job.id ≡ id
  pub due : due_jobs now js ≡ job ∷ due_jobs now (front ++ back)
  pub left : rest ≡ ids_of (due_jobs now (front ++ back))

pub first_due : (now id : ℕ) (rest : List ℕ) (js : List ActiveJob) → id ∷ rest ≡ ids_of (due_jobs now js) → FirstDue now id rest js
first_due now id rest [] is = absurd (cc)
first_due now id rest (j ∷ js) is = elim (cases_Bool (is_due now j)) [
  | inl due ↦
      let at : id ∷ rest ≡ j.id ∷ ids_of (due_jobs now js) = rw due at is in
      record { job = j; front = []; back = js; is = refl; is_job = cc; due = rw due refl; left = cc }
  | inr not ↦
      let x = first_due now id rest js (rw not at is) in
      record {
        job = x.job;
        front = j ∷ x.front;
        back = x.back;
        is = ap (λ (l : List ActiveJob). j ∷ l) x.is;
        is_job = x.is_job;
        due = rw not x.due;
        left = rw not x.left;
      }
]

-- in its place
abbrev pub as_found : {now id : ℕ} {rest : List ℕ} {js : List ActiveJob} (x : FirstDue now id rest js) → IsJob js id x.job
as_found x = record { front = x.front; back = x.back; is = x.is; is_job = x.is_job }

drop_at : (xs : List ℕ) (i x : ℕ) → slice_get xs i ≡ Some x → drop i xs ≡ x ∷ drop (i + 1) xs
drop_at xs i x there = drop_more xs i x (slice_get_within xs i x there) ∙ ap (λ y. y ∷ drop (i + 1) xs) (get_or_from_slice_get xs i x x there)

none_due : (now : ℕ) (js : List ActiveJob) → [] ≡ ids_of (due_jobs now js) → due_jobs now js ≡ []
none_due now js is = by (due_jobs now js) is
  where
    by : (ks : List ActiveJob) → [] ≡ ids_of ks → ks ≡ []
    by [] is = refl
    by (k ∷ ks) is = cc

-- ---- one more expires

module _ {O : Type 0} (out : OutboundTransform O) where
  expire_more : (js : List ActiveJob) (j : ActiveJob) (old mid new : Server) (from between to : Outbox O) → ExpireAll out old from js mid between → ExpiresOne out mid between j new to → ExpireAll out old from (js ++ j ∷ []) new to
  expire_more [] j old mid new from between to same one =
      (new, to, subst (λ (b : Outbox O). ExpiresOne out old b j new to) same.1 (subst (λ (m : Server). ExpiresOne out m between j new to) same.0 one), (refl, refl))
  expire_more (i ∷ js) j old mid new from between to all one = (all.0, all.1, all.2, expire_more js j all.0 mid new all.1 between to all.3 one)

  -- some of the jobs that are due have expired, and the others are listed from this place on
  pub record SoFar (old : Server) (from : Outbox O) (now place : ℕ) (mid : Server) (index : Indexed) (expiring : Expiring) (to : Outbox O) : Type 0 where
    pub async : mid.rules ≡ Async
    pub expired : List ActiveJob
    pub due : due_jobs now old.jobs.list ≡ expired ++ due_jobs now mid.jobs.list
    pub expire : ExpireAll out old from expired mid to
    pub listed : drop place expiring.due ≡ ids_of (due_jobs now mid.jobs.list)
    pub kept : IsKept mid.rules mid.jobs.list index
    pub rising : Rising 0 mid.jobs.list mid.jobs.last
    pub room : length mid.jobs.list ≤ expiring.room

  pub next_due : (old : Server) (from : Outbox O) (now place : ℕ) (mid : Server) (index : Indexed) (expiring : Expiring) (to : Outbox O) → SoFar old from now place mid index expiring to
      → (id : ℕ) → slice_get expiring.due place ≡ Some id → FirstDue now id (drop (place + 1) expiring.due) mid.jobs.list
  next_due old from now place mid index expiring to p id there = first_due now id (drop (place + 1) expiring.due) mid.jobs.list (sym (drop_at expiring.due place id there) ∙ p.listed)

  pub one_more : (old : Server) (from : Outbox O) (now place : ℕ) (mid : Server) (index : Indexed) (expiring : Expiring) (to : Outbox O) → SoFar old from now place mid index expiring to → mid.expired ≡ expiring.expired
      → (id : ℕ) (x : FirstDue now id (drop (place + 1) expiring.due) mid.jobs.list) (left : JobList) (less : Indexed) (told : Expiring) (next : Outbox O) → ExpiresAt out mid.jobs index expiring to x.job (as_found x) left less told next
      → SoFar old from now (place + 1) (record mid { jobs = left; expired = told.expired }) less told next
  one_more old from now place mid index expiring to p same id x left less told next e =
      let count = one_fewer mid.jobs.list id x.job (as_found x) in
      let now_list = ap (λ (l : JobList). length l.list) e.left_are in
      let wide = e.room in
      let roomy = p.room in
      record {
        async = p.async;
        expired = p.expired ++ x.job ∷ [];
        due = p.due ∙ ap (λ (l : List ActiveJob). p.expired ++ l) x.due ∙ ap (λ (l : JobList). p.expired ++ x.job ∷ due_jobs now l.list) (sym e.left_are) ∙ sym (append_assoc p.expired (x.job ∷ []) (due_jobs now left.list));
        expire = expire_more p.expired x.job old mid _ from to next p.expire (record {
          at = record { front = x.front; back = x.back; is = x.is; is_job = refl };
          room = e.enough;
          state = rw (e.left_are, e.expired, same) refl;
          sent = e.answers.0;
          answers = subst (λ r. SendsOwnAnswer r out to.half x.job.header.stream_id timeout_response e.answers.0) (sym p.async) e.answers.1;
          sends = e.answers.2;
        });
        listed = ap (λ (l : List ℕ). drop (place + 1) l) e.due ∙ x.left ∙ ap (λ (l : JobList). ids_of (due_jobs now l.list)) (sym e.left_are);
        kept = rw e.left_are (kept_ended mid.rules index less mid.jobs.list mid.jobs.last id x.job (as_found x) p.kept p.rising e.loses);
        rising = rw e.left_are (one_less 0 mid.jobs.last x.front x.back x.job (rw x.is at p.rising));
        room = omega (arith, count, now_list, wide, roomy);
      }

  -- if no more of them expire, the next one is left
  pub stops : (old : Server) (from : Outbox O) (now place : ℕ) (mid : Server) (index : Indexed) (expiring : Expiring) (to : Outbox O) → SoFar old from now place mid index expiring to
      → (id : ℕ) → FirstDue now id (drop (place + 1) expiring.due) mid.jobs.list → (left : JobList) (told : List ℕ) (next : Outbox O) → left ≡ mid.jobs → told ≡ mid.expired → next ≡ to
      → (stop : StopReason) → IsStop out to stop → StopsExpiring out old from now stop (record mid { jobs = left; expired = told }) next
  stops old from now place mid index expiring to p id x left told next jobs expired outbox stop why = rw (jobs, expired, outbox) (record {
    expired = p.expired;
    first = x.job;
    others = due_jobs now (x.front ++ x.back);
    due = p.due ∙ ap (λ (l : List ActiveJob). p.expired ++ l) x.due;
    expire = p.expire;
    why = why;
  })

  -- where none is listed any more, all that were due have expired
  pub all_expired : (old : Server) (from : Outbox O) (now place : ℕ) (mid : Server) (index : Indexed) (expiring : Expiring) (to : Outbox O) → SoFar old from now place mid index expiring to → length expiring.due ≤ place
      → ExpireAll out old from (due_jobs now old.jobs.list) mid to
  all_expired old from now place mid index expiring to p past =
      let none = none_due now mid.jobs.list (sym (drop_all place expiring.due past) ∙ p.listed) in
      subst (λ js. ExpireAll out old from js mid to) (sym (p.due ∙ ap (λ l. p.expired ++ l) none ∙ append-nil p.expired)) p.expire

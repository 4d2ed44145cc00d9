-- What a row leaves of a server, whichever row it is.
use Rattle.ttrpc_server.proofs.Words.{◌≡◌, ◌≢◌, ◌≤◌, ◌∙◌, ◌+◌, ℕ, List, [], ◌∷◌, ◌++◌, inl, inr, Option, refl, sym, ap, arith, pushed_other, pushed_own, MessageHeader, Request, Body, OutboundTransform, Sent, ActiveJob, JobList, Rising, Server, Row, MakeJob, Does, jobs_at}
use Rattle.std.specs.Prelude.{◌⊎◌, map}
use Rattle.ttrpc_server.specs.State.{brought_by, changed_under, new_job, with_made, with_newest}
use Rattle.ttrpc_server.specs.Streams.{made_by}
use Rattle.ttrpc_server.specs.Table.{MakeStream, PutIn}
use Rattle.ttrpc_server.proofs.Keyed.{rising_more}
use Rattle.ttrpc_server.proofs.Mapped.{mapped_at, rising_mapped, StaysFound, under_stays, unmoved}
use Rattle.ttrpc_server.proofs.Streams.{stream_id_of}

-- These are the jobs with mailboxes changed.
pub record AreChanged (old new : List ActiveJob) : Type 0 where
  pub g : ActiveJob → ActiveJob
  pub found : StaysFound g
  pub is : new ≡ map g old

none_changed : (jobs : List ActiveJob) → jobs ≡ map (λ j. j) jobs
none_changed [] = refl
none_changed (j ∷ jobs) = ap (λ xs. j ∷ xs) (none_changed jobs)

pub same_jobs : (old new : List ActiveJob) → new ≡ old → AreChanged old new
same_jobs old new same = record { g = λ j. j; found = record { id = λ j. refl; header = λ j. refl; deadline = λ j. refl; request = λ j. refl; stream = λ j. refl }; is = same ∙ none_changed old }

-- One more job is made, or mailboxes change.
abbrev pub JobsLeft : JobList → JobList → Type 0
JobsLeft old new = ((job : ActiveJob) × (job.id ≡ old.last + 1) × (new.last ≡ old.last + 1) × (new.list ≡ old.list ++ job ∷ [])) ⊎ (AreChanged old.list new.list × (new.last ≡ old.last))

-- WHAT A ROW LEAVES: the rules and the services stay, a job is made or mailboxes change, and none but those of the frame's stream.
pub record RowLeaves (row : Row) (old : Server) (header : MessageHeader) (now : ℕ) (new : Server) : Type 0 where
  pub rules : new.rules ≡ old.rules
  pub services : new.services ≡ old.services
  pub jobs : JobsLeft old.jobs new.jobs
  pub newest : new.jobs.newest ≡ old.jobs.newest
  pub made : jobs_at new.jobs.list header.stream_id ≡ made_by row old header now (jobs_at old.jobs.list header.stream_id)
  pub elsewhere : (k : ℕ) → k ≢ header.stream_id → jobs_at new.jobs.list k ≡ jobs_at old.jobs.list k

-- a job more, of this request
makes : (row : Row) (old : Server) (header : MessageHeader) (now : ℕ) (request : Request) (body : Body)
    → made_by row old header now (jobs_at old.jobs.list header.stream_id) ≡ jobs_at old.jobs.list header.stream_id ++ new_job (old.jobs.last + 1) header request body ∷ []
    → RowLeaves row old header now (with_made old header request body)
makes row old header now request body is =
    let job = new_job (old.jobs.last + 1) header request body in
    record {
      rules = refl;
      services = refl;
      jobs = inl (job, refl, refl, refl);
      newest = refl;
      made = pushed_own stream_id_of header.stream_id job old.jobs.list refl ∙ sym is;
      elsewhere = λ k apart. pushed_other stream_id_of k job old.jobs.list (λ same. apart (sym same));
    }

pub row_leaves : {O : Type 0} (out : OutboundTransform O) (row : Row) (old : Server) (o : O) (header : MessageHeader) (now : ℕ) (sent : List Sent) (new : Server) → Does out row old o header now sent new → RowLeaves row old header now new
row_leaves out (MakeJob request) old o header now sent new does = rw does.0 (makes (MakeJob request) old header now request _ refl)
row_leaves out (MakeStream request) old o header now sent new does = rw does.0 (makes (MakeStream request) old header now _ _ refl)
row_leaves out (PutIn payload) old o header now sent new does =
    let into = brought_by header payload in
    let g = changed_under header.stream_id into in
    let found = under_stays header.stream_id into in
    rw does.0 (record {
      rules = refl;
      services = refl;
      jobs = inr (record { g = g; found = found; is = refl }, refl);
      newest = refl;
      made = mapped_at g found old.jobs.list header.stream_id;
      elsewhere = λ k apart. mapped_at g found old.jobs.list k ∙ unmoved k header.stream_id into old.jobs.list apart;
    })
row_leaves out row old o header now sent new does =
    rw does.0 (record { rules = refl; services = refl; jobs = inr (same_jobs old.jobs.list old.jobs.list refl, refl); newest = refl; made = refl; elsewhere = λ k apart. refl })

-- what a row makes is the same, whichever request is the newest
pub made_seen : (row : Row) (s : Server) (newest : Option ℕ) (header : MessageHeader) (now : ℕ) (before : List ActiveJob) → made_by row (with_newest s newest) header now before ≡ made_by row s header now before
made_seen (MakeJob request) s newest header now before = refl
made_seen (MakeStream request) s newest header now before = refl
made_seen (PutIn payload) s newest header now before = refl
made_seen row s newest header now before = refl

-- ids go on to rise
pub left_rising : (old new : JobList) → JobsLeft old new → Rising 0 old.list old.last → Rising 0 new.list new.last
left_rising old new (inl made) rising = rw (made.2, made.3) (rising_more 0 old.last old.list made.0 made.1 rising)
left_rising old new (inr changed) rising = rw (changed.0.is, changed.1) (rising_mapped changed.0.g changed.0.found 0 old.last old.list rising)

pub left_last : (old new : JobList) → JobsLeft old new → old.last ≤ new.last
left_last old new (inl made) = omega (arith, made.2)
left_last old new (inr changed) = omega (arith, changed.1)

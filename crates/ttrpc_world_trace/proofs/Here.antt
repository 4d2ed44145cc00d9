-- All there is at one id, how it came to be used, and how far the server's work has come. No net, no queue and no bytes.
use Rattle.ttrpc_world_trace.proofs.StoryWords.{[], Act, ActiveJob, acts, Answered, Asked, asked_by, Began, Bool, CallState, call_at, Called, Client, Error, false, Flow, flows, Flying, is_stream, jobs_at, List, Ok, Opened, Option, parcels, Ran, refl, Request, Response, Result, Some, StreamState, stream_at, work, ℕ, ◌++◌, ◌∷◌, ◌≡◌}
use Rattle.ttrpc_world_trace.specs.declared.events.Entry.{Entry}

-- what a trace says of an id and of its items, the frames in flight under it, its jobs at the server, and what the client keeps
pub record Here : Type 0 where
  pub acts : List Act
  pub flows : List Flow
  pub ups : List Flying
  pub jobs : List ActiveJob
  pub downs : List Flying
  pub call : Option CallState
  pub stream : Option StreamState

-- THE ONE PLACE WHERE IT IS MADE, of a trace, of all that is in flight each way, of the jobs and of the client. An event
-- that isn't about an id leaves this there.
abbrev pub here_at : (ℕ → ℕ) → List Entry → List Flying → List Flying → List ActiveJob → Client → ℕ → Here
here_at stream_of trace up down jobs client k = record {
  acts = acts stream_of k trace;
  flows = flows stream_of k trace;
  ups = parcels k up;
  jobs = jobs_at jobs k;
  downs = parcels k down;
  call = call_at client k;
  stream = stream_at client k;
}

-- how an id came to be used: by a call, or by a stream that was opened
pub data Birth : Type 0 where
  ByCall : (request : Request) → Birth
  ByOpen : (request : Request) → (up down : Bool) → Birth

-- not yet, or so
pub data Origin : Type 0 where
  Unborn : Origin
  Born : (b : Birth) → Origin

-- the act that is
abbrev pub first_act : Birth → Act
first_act (ByCall request) = Called request
first_act (ByOpen request up down) = Opened request up down

-- and what that is to its items
abbrev pub first_flow : Birth → Flow
first_flow (ByCall request) = Asked request
first_flow (ByOpen request up down) = Began request up

-- its request
abbrev pub request_of : Birth → Request
request_of (ByCall request) = request
request_of (ByOpen request up down) = request

-- how far the server's work has come
pub data Work : Type 0 where
  -- nothing was asked
  Idle : Work
  -- the request is in flight
  Asking : (x : Flying) → Work
  -- a job waits
  Waits : (j : ActiveJob) → Work
  -- it was handed out
  Runs : (j : ActiveJob) → Work
  -- it has its response, and goes on
  Left : (j : ActiveJob) → (response : Response) → Work
  -- nothing of it is left to be done
  Over : (done : List Act) → Work

-- a job was handed out
abbrev pub ran_work : Birth → ActiveJob → List Act
ran_work b j = first_act b ∷ Ran j.id (is_stream j.body) (asked_by (is_stream j.body) (request_of b)) ∷ []

-- and answered, as a job of this kind
abbrev pub answered_work : Birth → ActiveJob → Bool → Result (Option Response) Error → List Act
answered_work b j kind result = first_act b ∷ Ran j.id (is_stream j.body) (asked_by (is_stream j.body) (request_of b)) ∷ Answered kind result ∷ []

-- the acts but for the outcome
abbrev pub works_of : Origin → Work → List Act
works_of (Born b) (Asking x) = first_act b ∷ []
works_of (Born b) (Waits j) = first_act b ∷ []
works_of (Born b) (Runs j) = ran_work b j
works_of (Born b) (Left j response) = answered_work b j false (Ok (Some response))
works_of (Born b) (Over done) = done
works_of origin work = []

-- what is in flight to the server, beside data
abbrev pub ups_of : Work → List Flying
ups_of (Asking x) = x ∷ []
ups_of work = []

-- the jobs
abbrev pub jobs_of : Work → List ActiveJob
jobs_of (Waits j) = j ∷ []
jobs_of (Runs j) = j ∷ []
jobs_of (Left j response) = j ∷ []
jobs_of work = []

-- these acts are the call, one run of its request, and this answer
abbrev pub IsAnswer : Origin → List Act → Response → Type 0
IsAnswer Unborn done r = ⊥
IsAnswer (Born b) done r = (job : ℕ) × (stream : Bool) × (done ≡ first_act b ∷ Ran job stream (asked_by stream (request_of b)) ∷ Answered stream (Ok (Some r)) ∷ [])

-- ---- lists of at most one item

pub no_cons : {X : Type 0} (x : X) (xs : List X) → x ∷ xs ≡ [] → ⊥
no_cons x xs h = cc

pub never_empty : {X : Type 0} (front back : List X) (x : X) → front ++ x ∷ back ≡ [] → ⊥
never_empty [] back x h = cc
never_empty (z ∷ front) back x h = cc

pub nil_parts : {X : Type 0} (front back : List X) → front ++ back ≡ [] → (front ≡ []) × (back ≡ [])
nil_parts [] back h = (refl, h)
nil_parts (x ∷ front) back h = cc

-- a list of one item, cut around an item
pub only_one : {X : Type 0} (front back : List X) (x y : X) → front ++ x ∷ back ≡ y ∷ [] → (front ≡ []) × (x ≡ y) × (back ≡ [])
only_one [] back x y h = (refl, cc, cc)
only_one (z ∷ []) back x y h = let bad : x ∷ back ≡ [] = cc in cc
only_one (z ∷ w ∷ front) back x y h = let bad : w ∷ (front ++ x ∷ back) ≡ [] = cc in cc

-- The headline for one id. No handler runs without a call or a stream, twice for one of them, or with another request. A call has at
-- most one outcome, and an `Ok` outcome is the answer of its one run.
-- Source: this project's.
use Rattle.std.specs.Prelude.{◌≡◌, ◌≤◌, ◌⊎◌, ℕ, List, [], ◌∷◌, length, Bool, true, false, Option, Some, None, Result, Ok}
use Rattle.ttrpc_proto.specs.declared.messages.Status.{Status}
use Rattle.ttrpc_proto.specs.Messages.{is_ok_code}
use Rattle.ttrpc_server.specs.State.{without_payload}
use Rattle.ttrpc_world_trace.specs.Types.{Error, Request, Response}
use Rattle.ttrpc_world_trace.specs.Trace.{Act, Called, Opened, Ran, Answered, Gave}

-- ---- parts of a story

-- Returns the outcomes, in order.
abbrev pub outcomes : List Act → List (Result Response Error)
outcomes [] = []
outcomes (Gave outcome ∷ xs) = outcome ∷ outcomes xs
outcomes (act ∷ xs) = outcomes xs

-- Returns all acts but the outcomes.
abbrev pub work : List Act → List Act
work [] = []
work (Gave outcome ∷ xs) = work xs
work (act ∷ xs) = act ∷ work xs

-- Returns the requests with which calls were accepted or streams were opened, in order.
abbrev pub names : List Act → List Request
names [] = []
names (Called request ∷ xs) = request ∷ names xs
names (Opened request up down ∷ xs) = request ∷ names xs
names (act ∷ xs) = names xs

-- Returns the requests with which calls were accepted, in order.
abbrev pub calls : List Act → List Request
calls [] = []
calls (Called request ∷ xs) = request ∷ calls xs
calls (act ∷ xs) = calls xs

-- Returns the ids of the jobs that were handed out, in order.
abbrev pub runs : List Act → List ℕ
runs [] = []
runs (Ran job stream request ∷ xs) = job ∷ runs xs
runs (act ∷ xs) = runs xs

-- Holds if a response has no status, or one with the code OK.
abbrev pub HasOkStatus : Option Status → Type 0
HasOkStatus None = Unit {0}
HasOkStatus (Some status) = is_ok_code status.code ≡ true

-- Returns the request of a job for a call or a stream with this request. The flag is true for a stream's job: its request has no
-- payload, since the payload is the stream's first item.
abbrev pub asked_by : Bool → Request → Request
asked_by true request = without_payload request
asked_by false request = request

-- Holds if these acts are the first one, two or three of these: the act `name`, one run of exactly this request, and one answer.
abbrev pub IsBegun : Act → Request → List Act → Type 0
IsBegun name request xs = (xs ≡ name ∷ [])
    ⊎ ((job : ℕ) × (stream : Bool) × ((xs ≡ name ∷ Ran job stream (asked_by stream request) ∷ [])
    ⊎ ((kind : Bool) × (result : Result (Option Response) Error) × (xs ≡ name ∷ Ran job stream (asked_by stream request) ∷ Answered kind result ∷ []))))

-- Holds if these are the acts of one call or one stream without the outcome: its call or opening, and then at most one run of its
-- request and one answer.
abbrev pub IsWorkOf : List Act → Type 0
IsWorkOf xs = ((request : Request) × IsBegun (Called request) request xs)
    ⊎ ((request : Request) × (up : Bool) × (down : Bool) × IsBegun (Opened request up down) request xs)

-- THE HEADLINE, for one id. Holds if there are no acts but outcomes, or these acts are those of one call or one stream. There is at
-- most one outcome, and none if no call has this id. If the outcome is `Ok(r)`, then the status of r is OK, and exactly four acts
-- happened. These are, in order, the call, one run of exactly its request, one answer, which is `Ok(r)`, and the outcome. A stream's
-- job has the request without its payload.
pub record IsExactlyOnce (xs : List Act) : Type 0 where
  pub work_is : (work xs ≡ []) ⊎ IsWorkOf (work xs)
  pub one_outcome : length (outcomes xs) ≤ 1
  pub no_call : calls xs ≡ [] → outcomes xs ≡ []
  pub whole : (r : Response) → outcomes xs ≡ Ok r ∷ []
      → HasOkStatus r.status × ((request : Request) × (job : ℕ) × (stream : Bool)
      × (xs ≡ Called request ∷ Ran job stream (asked_by stream request) ∷ Answered stream (Ok (Some r)) ∷ Gave (Ok r) ∷ []))

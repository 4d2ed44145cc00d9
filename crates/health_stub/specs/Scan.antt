-- The findings of a pass over the entries of a trace.
-- Source: this project's.
use Rattle.std.specs.Prelude.{◌≡◌, ℕ, ℤ, List, map, All, Contains, Option, None, Some, Ok}
use Rattle.std.specs.List.Sorted.{IsStrictlyIncreasing}
use Rattle.ttrpc_proto.specs.declared.messages.Request.{Request}
use Rattle.ttrpc_proto.specs.declared.messages.Response.{Response}
use Rattle.ttrpc_server.specs.declared.job.Job.{Job}
use Rattle.ttrpc_world_trace.specs.declared.events.Entry.{Entry}
use Rattle.ttrpc_world_trace.specs.declared.events.Event.TheVariants.{Outcome}
use Rattle.ttrpc_world_trace.specs.declared.events.Reply.TheVariants.{Outcome as Given}
use Rattle.health_stub.specs.declared.messages.HealthCheckResponse.{HealthCheckResponse}
use Rattle.health_stub.specs.declared.table.HealthTable.{HealthTable}
use Rattle.health_stub.specs.Health.{check_of, response_in, status_asked}
use Rattle.health_stub.specs.Report.{AnswersWith, IsAnsweredOtherwise, IsCheck, IsCheckCall, WasHanded, WasTold}

-- ---- the answers

-- the payload that the table gives to a request means its status again
abbrev pub MeansAgain : HealthTable → Request → Type 0
MeansAgain table request = (status : ℤ) → status_asked table request ≡ Some status → response_in (check_of table request).payload ≡ Some (record { status = status })

-- each accepted answer of a job is Ok of the table's response, which means its status again
pub record IsAnsweredSo (table : HealthTable) (trace : List Entry) (job : Job) : Type 0 where
  pub answers : All (λ (e : Entry). (response : Option Response) → AnswersWith job.id response e → response ≡ Some (check_of table job.request)) trace
  pub again : MeansAgain table job.request

-- so is each job of `Check`
abbrev pub AreAnsweredSo : HealthTable → List Entry → Type 0
AreAnsweredSo table trace = (job : Job) → WasHanded trace job → IsCheck job.request → IsAnsweredSo table trace job

-- ---- the statuses

-- under their ids
abbrev pub Told : Type 0
Told = List (ℕ × HealthCheckResponse)

-- the outcome of a call of `Check` was Ok of a response that means this
pub record IsToldTo (trace : List Entry) (id : ℕ) (value : HealthCheckResponse) : Type 0 where
  pub request : Request
  pub response : Response
  pub call : IsCheckCall trace id request
  pub told : WasTold trace id response
  pub decoded : response_in response.payload ≡ Some value

-- the outcome that is given here, if it is Ok and of a call of `Check`, is among these
abbrev pub HasStatus : List Entry → Told → Entry → Type 0
HasStatus trace told e = (id : ℕ) (request : Request) (response : Response)
    → e ≡ record { event = Outcome id; reply = Given (Some (Ok response)) } → IsCheckCall trace id request → Contains (map (λ x. x.0) told) id

-- they are all there, and no other
pub record AreTold (trace : List Entry) (told : Told) : Type 0 where
  pub every : All (HasStatus trace told) trace
  pub no_other : All (λ (x : ℕ × HealthCheckResponse). IsToldTo trace x.0 x.1) told

-- ---- both

-- what is found in a trace: that a job of `Check` was answered otherwise, or the statuses by rising id
abbrev pub IsFound : HealthTable → List Entry → Option Told → Type 0
IsFound table trace None = IsAnsweredOtherwise table trace
IsFound table trace (Some told) = AreAnsweredSo table trace × IsStrictlyIncreasing (map (λ (x : ℕ × HealthCheckResponse). x.0) told) × AreTold trace told

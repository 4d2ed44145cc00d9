-- The report of a run, by its trace alone: the answers to the jobs of `Check`, and the statuses that its callers
-- received.
-- Source: this project's.
use Rattle.std.specs.Prelude.{◌≡◌, ◌≢◌, ℕ, List, codes, map, All, Any, Contains, Option, Some, None, Ok, unwrap_or}
use Rattle.std.specs.List.Sorted.{IsStrictlyIncreasing}
use Rattle.std.specs.Result.{result_ok}
use Rattle.ttrpc_proto.specs.declared.messages.Request.{Request}
use Rattle.ttrpc_proto.specs.declared.messages.Response.{Response}
use Rattle.ttrpc_server.specs.declared.job.Job.{Job}
use Rattle.ttrpc_world_trace.specs.declared.events.Entry.{Entry}
use Rattle.ttrpc_world_trace.specs.declared.events.Event.{Event}
use Rattle.ttrpc_world_trace.specs.declared.events.Event.TheVariants.{Answer, Call, EndStream, Outcome, Respond, Take}
use Rattle.ttrpc_world_trace.specs.declared.events.Reply.{Reply}
use Rattle.ttrpc_world_trace.specs.declared.events.Reply.TheVariants.{Done, Outcome as Given, Handed, Named}
use Rattle.health_stub.specs.declared.messages.HealthCheckResponse.{HealthCheckResponse}
use Rattle.health_stub.specs.declared.table.HealthTable.{HealthTable}
use Rattle.health_stub.specs.Health.{check_of, response_in, status_asked}

-- a request that names `Check` of demo.Health
pub record IsCheck (request : Request) : Type 0 where
  pub service : request.service ≡ codes "demo.Health"
  pub method : request.method ≡ codes "Check"

-- ---- the answers to jobs

-- The job that was answered here, if an answer was accepted, and the response, if the answer is Ok of one.
abbrev pub answered : Event → Reply → Option (ℕ × Option Response)
answered (Answer job result) Done = Some (job, result_ok result)
answered (Respond job response) Done = Some (job, Some response)
answered (EndStream job result) Done = Some (job, unwrap_or (result_ok result) None)
answered event reply = None

-- an accepted answer of this job was Ok of this response, or wasn't
abbrev pub AnswersWith : ℕ → Option Response → Entry → Type 0
AnswersWith job response e = answered e.event e.reply ≡ Some (job, response)

-- a job was handed out
abbrev pub WasHanded : List Entry → Job → Type 0
WasHanded trace job = Contains trace (record { event = Take; reply = Handed (Some job) })

-- An accepted answer to a job of `Check` isn't Ok of the response that the table gives to the job's request.
pub record IsAnsweredOtherwise (table : HealthTable) (trace : List Entry) : Type 0 where
  pub job : Job
  pub response : Option Response
  pub handed : WasHanded trace job
  pub is_check : IsCheck job.request
  pub answers : Any (AnswersWith job.id response) trace
  pub otherwise : response ≢ Some (check_of table job.request)

-- ---- what callers were told

-- this call was made, of `Check`, by this request
pub record IsCheckCall (trace : List Entry) (id : ℕ) (request : Request) : Type 0 where
  pub called : Contains trace (record { event = Call request; reply = Named id })
  pub is_check : IsCheck request

-- the outcome of a call was Ok of this response
abbrev pub WasTold : List Entry → ℕ → Response → Type 0
WasTold trace id response = Contains trace (record { event = Outcome id; reply = Given (Some (Ok response)) })

-- An entry of the list. The call is one of `Check`, and its outcome was Ok. The value is the decoded payload of that
-- outcome. Its status is the table's last for the name in that call's own request.
pub record IsOfCall (table : HealthTable) (trace : List Entry) (id : ℕ) (value : HealthCheckResponse) : Type 0 where
  pub request : Request
  pub response : Response
  pub call : IsCheckCall trace id request
  pub told : WasTold trace id response
  pub decoded : response_in response.payload ≡ Some value
  pub status : status_asked table request ≡ Some value.status

-- THE LIST: by rising id, every call of `Check` with an Ok outcome, and no other.
pub record IsListed (table : HealthTable) (trace : List Entry) (list : List (ℕ × HealthCheckResponse)) : Type 0 where
  pub rising : IsStrictlyIncreasing (map (λ x. x.0) list)
  pub every : (id : ℕ) (request : Request) (response : Response) → IsCheckCall trace id request → WasTold trace id response → Contains (map (λ x. x.0) list) id
  pub no_other : All (λ (x : ℕ × HealthCheckResponse). IsOfCall table trace x.0 x.1) list

-- WHAT IS REPORTED OF A TRACE: none exactly if a job of `Check` was answered otherwise than by the table, and else the list.
abbrev pub IsReported : HealthTable → List Entry → Option (List (ℕ × HealthCheckResponse)) → Type 0
IsReported table trace None = IsAnsweredOtherwise table trace
IsReported table trace (Some list) = ¬ (IsAnsweredOtherwise table trace) × IsListed table trace list

-- WHY A STATUS IS THE TABLE'S: an Ok outcome is the answer of the one job, whose request is the call's, and that is the response
-- of the table, which means its status again.
use Rattle.std.proofs.Common.{◌≡◌, ◌∙◌, ℕ, ℤ, List, Any, None, Ok, Option, Some, ap, codes, map, refl, subst, sym, true}
use Rattle.std.proofs.lemmas.List.Elements.{All-contains, All-weaker}
use Rattle.std.specs.List.Sorted.{IsStrictlyIncreasing}
use Rattle.std.specs.Option.{option_map}
use Rattle.std.specs.Result.{result_ok}
use Rattle.ttrpc_proto.specs.declared.messages.Request.{Request}
use Rattle.ttrpc_proto.specs.declared.messages.Response.{Response}
use Rattle.ttrpc_server.specs.State.{Services, has_method}
use Rattle.ttrpc_server.specs.declared.job.Job.{Job}
use Rattle.ttrpc_world_trace.specs.Told.{HasOkStatus, IsExactlyOnce}
use Rattle.ttrpc_world_trace.specs.Trace.{IsOneToOne, IsStreamOf, acts}
use Rattle.ttrpc_world_trace.specs.declared.events.Entry.{Entry}
use Rattle.ttrpc_world_trace.specs.declared.events.Event.TheVariants.{Outcome}
use Rattle.ttrpc_world_trace.specs.declared.events.Reply.TheVariants.{Outcome as Given}
use Rattle.health_stub.specs.declared.messages.HealthCheckRequest.{HealthCheckRequest}
use Rattle.health_stub.specs.declared.messages.HealthCheckResponse.{HealthCheckResponse}
use Rattle.health_stub.specs.declared.table.HealthTable.{HealthTable}
use Rattle.health_stub.specs.Health.{answer_by, asked_of, check_of, last_of, response_in, status_asked, statuses, statuses_of}
use Rattle.health_stub.specs.Report.{AnswersWith, IsAnsweredOtherwise, IsCheck, IsListed, IsOfCall, IsReported}
use Rattle.health_stub.specs.Scan.{AreAnsweredSo, AreTold, HasStatus, IsAnsweredSo, IsFound, IsToldTo, Told}
use Rattle.health_stub.proofs.Story.{AreOfMethods, IsOwn, own}

-- ---- a response of an OK status tells a status

told_of : (name : List ℕ) (list : Option (List ℤ)) → HasOkStatus (answer_by (statuses_of name list)).status → (status : ℤ) × (option_map last_of (result_ok (statuses_of name list)) ≡ Some status)
told_of name None ok = cc
told_of name (Some list) ok = (last_of list, refl)

told_to : (table : HealthTable) (asked : Option HealthCheckRequest) → HasOkStatus (answer_by (asked_of table asked)).status → (status : ℤ) × (option_map last_of (result_ok (asked_of table asked)) ≡ Some status)
told_to table None ok = cc
told_to table (Some q) ok = told_of q.service (statuses table q.service) ok

-- ---- a run

module _ (table : HealthTable) (trace : List Entry) (so : AreAnsweredSo table trace) where
  -- what a job of `Check` was answered is what the table gives
  by_table : (job : Job) → (a : IsAnsweredSo table trace job) → (response : Option Response) → Any (AnswersWith job.id response) trace → response ≡ Some (check_of table job.request)
  by_table job a response at = subst (λ (e : Entry). (r : Option Response) → AnswersWith job.id r e → r ≡ Some (check_of table job.request)) at.3 (a.answers at.0 at.1 at.2) response at.4

  pub not_otherwise : ¬ (IsAnsweredOtherwise table trace)
  not_otherwise o = o.otherwise (by_table o.job (so o.job o.handed o.is_check) o.response o.answers)

  module _ (services : Services) (f : ℕ → ℕ) (agrees : IsStreamOf f trace) (one_to_one : IsOneToOne f) (once : (id : ℕ) → IsExactlyOnce (acts f id trace)) (methods : AreOfMethods services trace)
      (is_method : has_method services (codes "demo.Health") (codes "Check") ≡ true) where
    of_call : (id : ℕ) (value : HealthCheckResponse) → IsToldTo trace id value → IsOfCall table trace id value
    of_call id value t =
        let o : IsOwn trace t.request t.response = own services f trace id t.request t.response agrees one_to_one (once id) methods is_method t.call t.told in
        let a = so o.job o.handed (subst IsCheck (sym o.request_is) t.call.is_check) in
        let is_answer : Some t.response ≡ Some (check_of table o.job.request) = by_table o.job a (Some t.response) o.answers in
        let is : t.response ≡ check_of table o.job.request = cc is_answer in
        let told = told_to table _ (subst (λ (r : Response). HasOkStatus r.status) is o.ok) in
        let means : Some value ≡ Some (record { status = told.0 }) = sym t.decoded ∙ ap (λ (r : Response). response_in r.payload) is ∙ a.again told.0 told.1 in
        let status_is : value.status ≡ told.0 = ap (λ (v : HealthCheckResponse). v.status) (cc means) in
        record {
          request = t.request;
          response = t.response;
          call = t.call;
          told = t.told;
          decoded = t.decoded;
          status = ap (λ (q : Request). status_asked table q) (sym o.request_is) ∙ told.1 ∙ ap (λ (s : ℤ). Some s) (sym status_is);
        }

    listed : (list : Told) → IsStrictlyIncreasing (map (λ (x : ℕ × HealthCheckResponse). x.0) list) → AreTold trace list → IsListed table trace list
    listed list rising t = record {
      rising = rising;
      every = λ id request response call told. All-contains (HasStatus trace list) trace (record { event = Outcome id; reply = Given (Some (Ok response)) }) t.every told id request response refl call;
      no_other = All-weaker (λ (x : ℕ × HealthCheckResponse). IsToldTo trace x.0 x.1) (λ (x : ℕ × HealthCheckResponse). IsOfCall table trace x.0 x.1) (λ x told. of_call x.0 x.1 told) list t.no_other;
    }

-- WHAT IS REPORTED OF A RUN, by what is known of its trace and of what was found in it.
pub reported : (services : Services) (f : ℕ → ℕ) (table : HealthTable) (trace : List Entry) → IsStreamOf f trace → IsOneToOne f → ((id : ℕ) → IsExactlyOnce (acts f id trace)) → AreOfMethods services trace
    → has_method services (codes "demo.Health") (codes "Check") ≡ true → (report : Option Told)
    → IsFound table trace report
    → IsReported table trace report
reported services f table trace agrees one_to_one once methods is_method None otherwise = otherwise
reported services f table trace agrees one_to_one once methods is_method (Some list) found = (
  not_otherwise table trace found.0,
  listed table trace found.0 services f agrees one_to_one once methods is_method list found.1 found.2,
)

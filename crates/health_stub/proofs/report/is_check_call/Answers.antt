use Rattle.std.proofs.Common.{◌≡◌, ◌<◌, ℕ, List, Bool, Contains, true, false, arith, length, rules, subst, tests}
use Rattle.std.proofs.lemmas.Iterator.{YieldsList-from_slice, cases_from_any}
use Rattle.std.proofs.lemmas.List.Elements.{Contains-get_or}
use Rattle.std.specs.Bool.{MatchBool, OnFalse, OnTrue}
use Rattle.std.specs.List.{AllWithin, HoldsAt}
use Rattle.ttrpc_world_trace.specs.declared.events.Entry.{Entry}
use Rattle.ttrpc_world_trace.specs.declared.events.Event.TheVariants.{Call, Take}
use Rattle.ttrpc_world_trace.specs.declared.events.Reply.TheVariants.{Done, Named}
use Rattle.ttrpc_proto.specs.declared.messages.Request.{Request}
use Rattle.health_stub.specs.Report.{IsCheck, IsCheckCall}
use Rattle.health_stub.proofs.report.is_check_call.Goals as goal

module _ (id : ℕ) where
  Yes : Entry → Type 0
  Yes e = (request : Request) × (e ≡ record { event = Call request; reply = Named id }) × IsCheck request

  No : Entry → Type 0
  No e = (request : Request) → e ≡ record { event = Call request; reply = Named id } → ¬ (IsCheck request)

  Cases : Bool → List Entry → Type 0
  Cases r xs = MatchBool r ((k : ℕ) × (k < length xs) × HoldsAt Yes xs k) (AllWithin No xs 0 (length xs))

  yes : (r : Bool) (xs : List Entry) → Cases r xs → OnTrue r ((request : Request) × IsCheckCall xs id request)
  unfolding Yes No Cases
  yes false xs h = tt
  yes true xs h =
      let d : Entry = record { event = Take; reply = Done } in
      let y = h.2 d in
      (y.0, record { called = subst (Contains xs) y.1 (Contains-get_or xs h.0 d h.1); is_check = y.2 })

  no : (r : Bool) (xs : List Entry) → Cases r xs → OnFalse r ((request : Request) → ¬ (IsCheckCall xs id request))
  unfolding Yes No Cases
  no true xs h = tt
  no false xs h = λ request call. h call.called.0 (record { event = Call request; reply = Named id }) (omega arith) call.called.1 request call.called.2 call.is_check

cases : (c : goal.After-any) → Cases c.args.id c.any.result c.args.trace.now
unfolding Cases Yes No
cases c = cases_from_any _ _ c.any.result (Yes c.args.id) (No c.args.id) c.any.ensures.ran (YieldsList-from_slice c.args.trace.now cc) (λ x q k. search (rules, tests)) (λ x q k. (search (rules, tests), search (rules, tests)))

pub returns-clause-yes : goal.returns-clause-yes
returns-clause-yes c = yes c.args.id c.any.result c.args.trace.now (cases c)

pub returns-clause-no : goal.returns-clause-no
returns-clause-no c = no c.args.id c.any.result c.args.trace.now (cases c)

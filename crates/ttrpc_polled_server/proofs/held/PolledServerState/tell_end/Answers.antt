use Rattle.std.proofs.Common.{rules, inl, inr, refl, subst, Err}
use Rattle.ttrpc_polled_server.specs.Steps.{IsEnded}
use Rattle.ttrpc_polled_server.proofs.Refusals.{refusal_fails, refusal_told, refusal_waits}
use Rattle.ttrpc_polled_server.proofs.held.PolledServerState.tell_end.Goals as goal
use Rattle.ttrpc_polled_server.proofs.held.PolledServerState.tell_end.Goals.{in-Ok-step, in-Err-step}

pub returns-in-Ok-clause-ends : goal.returns-in-Ok-clause-ends
returns-in-Ok-clause-ends g c = λ _. inl c.in-Ok.ensures

pub returns-in-Err-NoRoom-step : goal.returns-in-Err-NoRoom-step
returns-in-Err-NoRoom-step g c =
    let again = subst (λ e. IsEnded g.O.OutboundTransform c.step.new.core c.args.id c.failed.result (Err e) c.step-2.new.core) c.in-Err-NoRoom-step.field-0-is c.in-Err-NoRoom-step.ensures in
    let waits = refusal_waits g.O.OutboundTransform c.args.self.now.core c.args.id c.args.ended.now c.in-Err.refusal c.step.new.core c.in-Err.ensures c.failed.result c.failed.ensures c.step-2.new.core again in
    record { ends = λ never. cc; running = inl refl; streams = inl refl; waits = λ _. (rw waits.0 refl, waits.1) }

pub returns : goal.returns
returns g c = elim c.match-step-2.branch [
  | in-Ok-step w ↦
      rw w.self-is
      (record {
        ends = λ _. refusal_told g.O.OutboundTransform c.args.self.now.core c.args.id c.args.ended.now c.in-Err.refusal c.step.new.core (search rules) c.in-Err.ensures c.failed.result c.failed.ensures c.step-2.new.core w.in-Ok-step.ensures;
        running = inl refl;
        streams = inl refl;
        waits = λ never. cc;
      })
  | in-Err-step w ↦
      rw w.self-is
      (record {
        ends = λ _. refusal_fails g.O.OutboundTransform c.args.self.now.core c.args.id c.args.ended.now c.in-Err.refusal c.step.new.core (search rules) c.in-Err.ensures c.failed.result c.failed.ensures
            w.in-Err-step.refusal c.step-2.new.core (search rules) w.in-Err-step.ensures w.wake_all.new.self.core (search rules);
        running = inr (search rules);
        streams = inr (search rules);
        waits = λ never. cc;
      })
]

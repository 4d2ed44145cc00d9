use Rattle.std.proofs.Common.{rules, ◌≡◌, ℕ, false, None, Option, Some, IfSome, inl, subst}
use Rattle.std.specs.Prelude.{is_none}
use Rattle.ttrpc_client.specs.State.{IsDeadline}
use Rattle.ttrpc_sync_client.specs.Held.{TellsEnded}
use Rattle.ttrpc_sync_client.specs.declared.ports.read_turn.ReadTurn.{ReadTurn}
use Rattle.ttrpc_sync_client.proofs.connection.tick_if_due.Goals as goal

-- what holds beside a value that is there
beside : (o : Option ℕ) (A : Type 0) (P : ℕ → Type 0) → is_none o ≡ false → IfSome o (λ x. A × P x) → A
beside None A P is some = cc
beside (Some x) A P is some = some.0

pub returns-clause-ok : goal.returns-clause-ok
returns-clause-ok g c =
    let is : is_none c.next_deadline.result ≡ false = search rules in
    let alive : c.args.held.now.core.connection.failure ≡ None =
    beside c.next_deadline.result (c.args.held.now.core.connection.failure ≡ None) (IsDeadline c.args.held.now.core.state.calls) is c.next_deadline.ensures.some in
    inl (record {
      now = c.in_ok-moment.field-0;
      ticked = c.tick.new.self.core;
      places = c.note_ended.result;
      ticks = c.tick.ensures.alive alive;
      tells = subst (λ (turn : ReadTurn). TellsEnded c.tick.new.self.core turn c.note_ended.result c.note_ended.new.self.core c.note_ended.new.self.reading)
          c.tick.ensures.turns.1 c.note_ended.ensures.told;
    })

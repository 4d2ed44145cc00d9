-- The sources at which the futures of a server wait.
-- Source: this project's.
use Rattle.std.specs.Prelude.{◌≡◌, ◌⊎◌, ◌<◌, ℕ, None, IfSome, IsSome, true, false}
use Rattle.std.specs.Arc.{arc_value}
use Rattle.futures.specs.Task.{Covers}
use Rattle.futures.specs.declared.task.context.Context.{Context}
use Rattle.futures.specs.Queued.{AllPollable, set_len, set_places}
use Rattle.tokio.specs.Net.{listener_readable}
use Rattle.tokio.specs.Timers.{sleep_source}
use Rattle.ttrpc_polled.specs.Needs.{LinkNeeds}
use Rattle.ttrpc_polled_server.specs.Handling.{HandledCanPoll}
use Rattle.ttrpc_polled_server.specs.declared.connection.ServerConnection.{ServerConnection}
use Rattle.ttrpc_polled_server.specs.declared.running.Finishing.{Finishing}
use Rattle.ttrpc_polled_server.specs.declared.serving.Serving.{Serving}
use Rattle.ttrpc_polled_server.specs.declared.shared.ServerShared.{ServerShared}

-- the source at which a connection waits for something to write
abbrev pub asked_source : {O I : Type 0} → ServerShared O I → ℕ
asked_source shared = shared.asked.id

module _ {R M T S W O I F G : Type 0} where
  -- each handler that runs may be polled
  abbrev pub CanPoll : (F → Type 0) → (G → Type 0) → ServerConnection R M T S W O I F G → Type 0
  CanPoll method stream c = AllPollable (λ (f : Finishing F G O I). f.ended ≡ None → HandledCanPoll method stream f.running.handled) (set_places c.jobs)

  -- only its handlers, its batch of answers and the end that it hasn't reported changed
  abbrev pub IsSameBeside : ServerConnection R M T S W O I F G → ServerConnection R M T S W O I F G → Type 0
  IsSameBeside old new = new ≡ record old { jobs = new.jobs; answer_batch = new.answer_batch; untold = new.untold }

  -- Before a poll of the connection does anything else, it has asked to be woken when the connection is to end, unless
  -- it ends already.
  abbrev pub HasAsked : ServerConnection R M T S W O I F G → Context → Type 0
  HasAsked c cx = c.is_ending ≡ false → Covers cx (λ s. s ≡ (arc_value c.connection_slot.stop).told.id)

  -- The connection waits to learn that it is to end. It also waits for the end of its time, if it ends or its time has
  -- a limit.
  abbrev pub EndNeeds : ServerConnection R M T S W O I F G → ℕ → Type 0
  EndNeeds c s = ((c.is_ending ≡ false) × (s ≡ (arc_value c.connection_slot.stop).told.id)) ⊎ (((c.is_ending ≡ true) ⊎ IsSome c.grace.set_for) × (s ≡ sleep_source c.grace.sleep))

  -- The connection waits for its handlers, if some run, for its link, unless that is over, and for its end.
  abbrev pub ConnectionNeeds : (S → ℕ → Type 0) → (W → ℕ → Type 0) → ServerConnection R M T S W O I F G → ℕ → Type 0
  ConnectionNeeds reads writes c s = ((0 < set_len c.jobs) × (s ≡ c.jobs.tasks.source.id))
      ⊎ ((c.is_over ≡ false) × LinkNeeds reads writes asked_source c.link s)
      ⊎ EndNeeds c s

-- A server that accepts waits for a connection. While it rests it waits for the end of its rest or of a connection.
abbrev pub AcceptNeeds : {R M T A V : Type 0} → Serving R M T A V → ℕ → Type 0
AcceptNeeds v s = ((v.rests ≡ false) × IfSome v.listener (λ listener. s ≡ listener_readable listener.listener) × IsSome v.listener)
    ⊎ ((v.rests ≡ true) × ((s ≡ (arc_value v.with.stop).left.id) ⊎ (s ≡ sleep_source v.rest.sleep)))

-- The server also waits for the request to stop.
abbrev pub ServingNeeds : {R M T A V : Type 0} → Serving R M T A V → ℕ → Type 0
ServingNeeds v s = (s ≡ (arc_value v.with.stop).told.id) ⊎ AcceptNeeds v s

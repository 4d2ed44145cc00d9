-- A stream has ended once its end was sent and its job forgotten.
use Rattle.ttrpc_server.proofs.Words.{◌≡◌, ◌∙◌, ℕ, true, None, sym, ap, subst, is_at, nat_cmp, ActiveJob, Async, EndsOne, Error, IsTaken, OutboundTransform, Response, Server, with_list}
use Rattle.std.proofs.Common.{Option, Result}
use Rattle.std.specs.Set.{remove_key}
use Rattle.ttrpc_server.specs.declared.server.ServerCore.{ServerCore}
use Rattle.ttrpc_server.specs.State.{is_stream}
use Rattle.ttrpc_server.specs.Streaming.{EndsStream, SendsEnd}

pub ends_so : {O I : Type 0} (out : OutboundTransform O) (old mid : ServerCore O I) (t : Server) (id : ℕ) (end : Result (Option Response) Error) (job : ActiveJob) → old.connection.failure ≡ None → old.state.rules ≡ Async
    → IsTaken old.state.jobs.list id job → is_stream job.body ≡ true → SendsEnd out old.connection.outbox job.header.stream_id end mid.connection.outbox
    → mid ≡ record old { connection = record old.connection { outbox = mid.connection.outbox } }
    → ((j : ActiveJob) → IsTaken mid.state.jobs.list id j → EndsOne mid.state.jobs.list id j t.jobs.list)
    → t ≡ record (with_list mid.state t.jobs.list) { heard = remove_key (is_at (nat_cmp id)) mid.state.heard }
    → EndsStream out old id end (record mid { state = t })
ends_so {O} {I} out old mid t id end job alive async at stream sends same ended left =
    let state : mid.state ≡ old.state = ap (λ (c : ServerCore O I). c.state) same in
    record {
      alive = alive;
      rules = async;
      job = job;
      ends = subst (λ (s : Server). EndsOne s.jobs.list id job t.jobs.list) state (ended job (subst (λ (s : Server). IsTaken s.jobs.list id job) (sym state) at));
      stream = stream;
      sends = sends;
      same = ap (λ (s : Server). record mid { state = s }) left
          ∙ ap (λ (c : ServerCore O I). record c { state = record (with_list c.state t.jobs.list) { heard = remove_key (is_at (nat_cmp id)) c.state.heard } }) same;
    }

-- The ids of the requests in flight to the server rise, from above that of the newest request.
use Rattle.ttrpc_world.specs.Headline.Requests.{newest_behind, RequestsInFlight, RequestsRise}
use Rattle.ttrpc_world.proofs.Keeps.{AreSteady}
use Rattle.ttrpc_world.proofs.Numbers.{asks, Between, past, streams_of}
use Rattle.ttrpc_pair.specs.Types.{IsAbove}
use Rattle.ttrpc_world.proofs.Payloads.{seen_up}
use Rattle.ttrpc_world.proofs.Sentences.{begins, kept_at_end}
use Rattle.ttrpc_world.proofs.Words.{[], arith, Bool, Entry, false, Flying, Halves, id_of, IsFresh, List, Net, None, Option, refl, Runs, safe_limit, Settings, Some, subst, sym, true, ℕ, ◌++◌, ◌+◌, ◌∷◌, ◌≡◌}

behind_seen : (t : Bool) (low id : ℕ) (newest : Option ℕ) → IsAbove low newest → IsAbove (past t low id) (newest_behind t id newest)
behind_seen true low id newest seen = omega arith
behind_seen false low id newest seen = seen

requests_rise : (newest : Option ℕ) (low : ℕ) (xs : List Flying) (next : ℕ) → IsAbove low newest → Between low xs next → RequestsRise newest xs next
requests_rise newest low [] next seen between = seen_up newest low next between seen
requests_rise newest low (x ∷ xs) next seen between = (
  λ e. seen_up newest low (id_of x) (between.0 e) seen,
  requests_rise (newest_behind (asks x) (id_of x) newest) (past (asks x) low (id_of x)) xs next (behind_seen (asks x) low (id_of x) newest seen) between.1,
)

pub requests_at_end : {CO CI SO SI : Type 0} (c : Halves CO CI) (s : Halves SO SI) (seals : Bool) (steady : AreSteady c s seals)
    (w v : Net CO CI SO SI) (trace : List Entry) → IsFresh c s w → Runs c s seals w trace v → v.server.connection.failure ≡ None → RequestsInFlight c s v
requests_at_end c s seals steady w v trace n p alive =
    let g = streams_of c s seals w trace v n p in
    let set : Settings = record { rules = w.server.state.rules; services = w.server.state.services; limit = safe_limit s.out w.server.connection.outbox.half; clean = ⊥ } in
    let i = kept_at_end c s seals steady set g.f [] trace w v (begins c s seals steady set g.f w trace v (refl, refl, refl) n p g.right (λ never. absurd never)) in
    let b = i.upward.bytes alive in
    record {
      transit = b.transit;
      queued = b.queued;
      bytes = b.bytes;
      seals = rw b.all (i.upward.linked alive);
      rise = rw b.all (requests_rise v.server.state.jobs.newest i.numbers.low i.up v.client.state.next i.numbers.seen i.numbers.between);
    }

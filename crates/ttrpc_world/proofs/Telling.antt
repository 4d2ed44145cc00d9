-- THE HEADLINE, for any run from a fresh start.
use Rattle.ttrpc_world.proofs.Calls.{whole_calls}
use Rattle.ttrpc_world.proofs.Keeps.{AreSteady}
use Rattle.ttrpc_world.proofs.Sentences.{begins, in_order, kept_at_end}
use Rattle.ttrpc_world.proofs.WholeStreams.{whole_streams}
use Rattle.ttrpc_world.proofs.Numbers.{one_to_one, stream_of_run, streams_of}
use Rattle.ttrpc_world.proofs.Words.{[], Bool, Entry, exactly_once, Halves, IsFresh, IsTold, List, Net, refl, Runs, safe_limit, Settings, ℕ}

pub told : {CO CI SO SI : Type 0} (c : Halves CO CI) (s : Halves SO SI) (seals : Bool) (steady : AreSteady c s seals)
    (w v : Net CO CI SO SI) (trace : List Entry) → IsFresh c s w → Runs c s seals w trace v → (stream_of : ℕ → ℕ) × IsTold w.server.state.rules w.server.state.services (safe_limit s.out w.server.connection.outbox.half) stream_of trace
told c s seals steady w v trace n p =
    let g = streams_of c s seals w trace v n p in
    let set : Settings = record { rules = w.server.state.rules; services = w.server.state.services; limit = safe_limit s.out w.server.connection.outbox.half; clean = ⊥ } in
    let x = begins c s seals steady set g.f w trace v (refl, refl, refl) n p g.right (λ never. absurd never) in
    let i = kept_at_end c s seals steady set g.f [] trace w v x in (
      g.f,
      record {
        agrees = stream_of_run c s seals g.f w trace v p g.right;
        one_to_one = one_to_one g.f v.server.state.jobs.last i.numbers.low i.numbers.rise g.zero_ g.beyond i.numbers.within;
        exactly_once = λ id. exactly_once (i.stories id);
        in_order = in_order c s seals steady set g.f w trace v x;
        whole_calls = whole_calls c s seals steady w v trace g.f n p g.right;
        whole_streams = whole_streams c s seals steady w v trace g.f n p g.right;
      },
    )

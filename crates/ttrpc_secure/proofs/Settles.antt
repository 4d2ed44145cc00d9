-- What it comes to that a frame is settled with what a half gave.
use Rattle.std.proofs.Common.{◌≡◌, ◌+◌, ◌≤◌, ◌∙◌, ℕ, List, length, Result, Ok, Err, IfOk, OnOk, OnErr, MatchResult, ap, arith}
use Rattle.ttrpc_proto.specs.declared.framing.outgoing.Queued.{Queued}
use Rattle.ttrpc_proto.specs.Framing.Queue.{Queue, IsQueue, filled, free, held, with_frame, with_payload}
use Rattle.ttrpc_proto.proofs.Queues.{held_with_frame, length-written, placed_filled, with_frame_is_queue}
use Rattle.ttrpc_secure.specs.Sends.{emptied}

pub settled_ok : {A E F G : Type 0} {given filled : A → Type 0} (withdrawn : E → Type 0) (f : E → F) (s : Result A E) (r : Result (Unit {0}) F)
    → MatchResult s (λ a. (r ≡ Ok tt) × filled a) (λ e. (r ≡ Err (f e)) × withdrawn e)
    → IfOk s given → ((a : A) → given a → filled a → G) → OnOk r G
settled_ok withdrawn f (Ok a) r m h k = rw m.0 (k a h m.1)
settled_ok withdrawn f (Err e) r m h k = rw m.0 tt

pub settled_err : {A E F G same : Type 0} (filled : A → Type 0) {withdrawn : E → Type 0} (f : E → F) (s : Result A E) (r : Result (Unit {0}) F)
    → MatchResult s (λ a. (r ≡ Ok tt) × filled a) (λ e. (r ≡ Err (f e)) × withdrawn e)
    → OnErr s same → ((e : E) → same → withdrawn e → G) → OnErr r G
settled_err filled f (Ok a) r m h k = rw m.0 tt
settled_err filled f (Err e) r m h k = rw m.0 (k e h m.1)

-- a frame that was queued without its payload, with room for one, gets one that is no longer
pub sealed_is_queued : (q r : Queue) (f : Queued) (sealed : List ℕ) (room : ℕ) → r ≡ with_frame q (emptied f) → IsQueue q → 10 + room ≤ free q → length sealed ≤ room
    → filled r sealed ≡ with_frame q (with_payload f sealed)
sealed_is_queued q r f sealed room placed h fits short =
    let e = emptied f in
    let size = length-written e.message in
    let more = held_with_frame q e h in
    ap (λ q. filled q sealed) placed ∙ placed_filled q e sealed h (omega (arith, size, more, fits, short))

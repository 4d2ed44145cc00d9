-- What is idle: a piece of no bytes makes no frame whole, a queue that has no byte to lend has no frame,
-- and where no byte is reported the frames stay.
use Rattle.std.proofs.Common.{◌≡◌, ◌∷◌, ◌∙◌, ◌+◌, ◌-◌, arith, sym, List, [], ℕ, append-nil, refl, length, drop, nat_lt, Bool, true}
use Rattle.std.proofs.lemmas.Bool.{lt-ltb}
use Rattle.std.proofs.lemmas.List.{length-drop}
use Rattle.ttrpc_proto.proofs.Pieces.{no_frame}
use Rattle.ttrpc_proto.specs.declared.framing.frame.Incoming.{Incoming}
use Rattle.ttrpc_proto.specs.declared.framing.outgoing.Queued.{Queued}
pub use Rattle.ttrpc_world_trace.proofs.Bytes.{all_has_come}
pub use Rattle.ttrpc_proto.specs.Framing.Frames.{Fed}
pub use Rattle.ttrpc_proto.specs.Framing.Queue.{IsQueue}
use Rattle.ttrpc_proto.specs.Framing.Frames.{Held, Holds}
use Rattle.ttrpc_proto.specs.Framing.Queue.{after_report, first_open, IsWithin, open_part, Queue, report_first, with_lent, written}

pub no_frames_come : (held new : Held) (before : List ℕ) (frames : List Incoming) → Holds held before → Fed held [] frames new → frames ≡ []
no_frames_come held new before [] holds fed = refl
no_frames_come held new before (i ∷ is) holds fed =
    let after = (fed before holds).1 in
    absurd (no_frame i before after.0 after.1 (sym (append-nil before) ∙ after.2) after.3 holds.1)

none_open : (frames : List Queued) (n : ℕ) → IsWithin frames n → length (first_open frames n) ≡ 0 → frames ≡ []
none_open [] n within e = refl
none_open (f ∷ fs) n within e = absurd (let long : length (drop n (written f.message)) ≡ length (written f.message) - n = length-drop n (written f.message) in let no : ⊥ = omega (arith, within, e, long) in no)

pub none_to_lend : (q : Queue) → IsQueue q → length (open_part q) ≡ 0 → q.frames ≡ []
none_to_lend q is e = none_open q.frames q.reported is.within e

report_none : (frames : List Queued) (n k : ℕ) (begun : Bool) (sent : ℕ) (gone : List ℕ) → IsWithin frames n → k ≡ 0 → (report_first frames (n + k) begun sent gone).frames ≡ frames
report_none [] n k begun sent gone within e = refl
report_none (f ∷ fs) n k begun sent gone within e = let less : nat_lt (n + k) (length (written f.message)) ≡ true = lt-ltb (n + k) (length (written f.message)) (omega (arith, within, e)) in rw less refl

-- no byte was reported
pub none_reported : (q : Queue) (k : ℕ) → IsQueue q → k ≡ 0 → (after_report (with_lent q k) k).frames ≡ q.frames
none_reported q k is e = report_none q.frames q.reported k (with_lent q k).begun q.sent q.gone is.within e

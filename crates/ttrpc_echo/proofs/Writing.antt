-- What is unsent leaves as the writer takes it.
use Rattle.std.proofs.Common.{◌≡◌, ◌≤◌, ◌+◌, ℕ, Bool, true, false, nat_lt, List, [], ◌∷◌, ◌++◌, length, take, drop, Option, refl, sym, ap, ◌∙◌, append_assoc}
use Rattle.std.proofs.lemmas.List.{append-nil}
use Rattle.std.specs.Io.KnownBytes.{Appends}
use Rattle.ttrpc_proto.specs.declared.framing.outgoing.Queued.{Queued}
use Rattle.ttrpc_proto.specs.Framing.Queue.{Queue, IsQueue, IsWithin, first_open, open_part, unsent, with_lent, report_first, report_finishes, after_report, written, written_all}
use Rattle.ttrpc_proto.specs.Framing.Queue as queue
use Rattle.ttrpc_proto.proofs.Departures.{bytes_are_written}
use Rattle.ttrpc_proto.proofs.Queues.{with_lent_is_queue, after_report_is_queue}
use Rattle.ttrpc_secure.specs.declared.plain.Plain.{Plain}
use Rattle.ttrpc_server.specs.declared.server.ServerCore.{ServerCore}
use Rattle.ttrpc_echo.specs.Serving.{IsReady, WritesOut}
use Rattle.ttrpc_echo.proofs.Known.{appends_twice}

-- the core with this queue
abbrev pub with_queue : ServerCore Plain Plain → Queue → ServerCore Plain Plain
with_queue s q = record s { connection = record s.connection { outbox = record s.connection.outbox { queue = q } } }

-- n bytes were lent, and k of them were reported
abbrev pub lent_and_reported : ServerCore Plain Plain → ℕ → ℕ → ServerCore Plain Plain
lent_and_reported s n k = with_queue s (after_report (with_lent s.connection.outbox.queue n) k)

finishes_or_keeps : (fs : List Queued) (n : ℕ) (begun : Bool) (sent : ℕ) (gone : List ℕ) → report_finishes fs n ++ (report_first fs n begun sent gone).frames ≡ fs
finishes_or_keeps [] n begun sent gone = refl
finishes_or_keeps (f ∷ fs) n begun sent gone = by (nat_lt n (length (written f.message))) refl
  where
    by : (b : Bool) → nat_lt n (length (written f.message)) ≡ b → report_finishes (f ∷ fs) n ++ (report_first (f ∷ fs) n begun sent gone).frames ≡ f ∷ fs
    by true e = rw e refl
    by false e = rw e refl

-- n bytes were lent, and k of them were reported
pub lent_leaves : (q : Queue) (n k : ℕ) → IsQueue q → n ≤ length (open_part q) → k ≤ n → unsent q ≡ take k (open_part q) ++ unsent (after_report (with_lent q n) k)
lent_leaves q n k valid within less =
    let rest = unsent (after_report (with_lent q n) k) in
    let written = bytes_are_written (queue.Lent n ∷ queue.Reported k ∷ []) q valid (within, (less, tt)) in
    ap (λ fs. drop q.reported (written_all fs)) (sym (finishes_or_keeps q.frames (q.reported + k) (with_lent q n).begun q.sent q.gone))
    ∙ sym written
    ∙ ap (λ xs. xs ++ rest) (append-nil (take k (open_part q)))

pub writes_more : (a b : ServerCore Plain Plain) (n k : ℕ) (x y z : Option (List ℕ)) (bytes : List ℕ) → IsReady b → WritesOut a x b y
    → n ≤ length (open_part b.connection.outbox.queue) → k ≤ n → bytes ≡ take k (open_part b.connection.outbox.queue) → Appends y z bytes
    → WritesOut a x (lent_and_reported b n k) z
writes_more a b n k x y z bytes ready one within less are wrote = record {
  bytes = one.bytes ++ bytes;
  sent = one.sent ∙ ap (λ xs. one.bytes ++ xs) (lent_leaves b.connection.outbox.queue n k ready.queue within less ∙ ap (λ xs. xs ++ unsent (lent_and_reported b n k).connection.outbox.queue) (sym are))
      ∙ sym (append_assoc one.bytes bytes (unsent (lent_and_reported b n k).connection.outbox.queue));
  wrote = appends_twice x y z one.bytes bytes one.wrote wrote;
  held = one.held;
  last_job = one.last_job;
}

pub still_ready : (s : ServerCore Plain Plain) (n k : ℕ) → IsReady s → n ≤ length (open_part s.connection.outbox.queue) → k ≤ n → IsReady (lent_and_reported s n k)
still_ready s n k ready within less = record {
  rules = ready.rules;
  takes = ready.takes;
  services = ready.services;
  jobs = ready.jobs;
  alive = ready.alive;
  queue = after_report_is_queue (with_lent s.connection.outbox.queue n) k (with_lent_is_queue s.connection.outbox.queue n ready.queue within) less;
}

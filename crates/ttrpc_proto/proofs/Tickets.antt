-- The tickets of queued frames are those behind the last that was sent, and a ticket is sent as its frame is whole.
use Rattle.std.proofs.Common.{drop, ◌≡◌, ℕ, ◌+◌, ◌≤◌, ◌∷◌, ◌++◌, ◌&&◌, ◌||◌, not, List, [], Bool, true, false, Option, None, Some, cond, length, nat_lt, nat_le, nat_eq, refl, sym, subst, ap, ◌∙◌, arith}
use Rattle.std.proofs.lemmas.Bool.{cond_both}
use Rattle.std.proofs.lemmas.Bool.Decides.{nat_tests}
use Rattle.ttrpc_proto.specs.declared.framing.outgoing.Queued.{Queued}
use Rattle.ttrpc_proto.specs.Framing.Queue.{Queue, written, ticket_after, last_ticket, IsNext, AreNumbered, is_ticket, has_ticket, report_first, report_finishes, after_report, with_frame, with_lent, frames_without, without, Happening, Placed, Lent, Reported, Thrown, after_all, finished}
use Rattle.ttrpc_proto.proofs.Queues.{queue_of}

-- ---- What keeps the numbers

pub numbered_append : (fs : List Queued) (f : Queued) (from to : ℕ) → AreNumbered from fs to → IsNext f.ticket f.is_unary_request to → AreNumbered from (fs ++ f ∷ []) (ticket_after f.ticket to)
numbered_append [] f from to h next = (subst (IsNext f.ticket f.is_unary_request) (sym h) next, ap (ticket_after f.ticket) h)
numbered_append (g ∷ fs) f from to h next = (h.0, numbered_append fs f (ticket_after g.ticket from) to h.1 next)

reported : (fs : List Queued) (n : ℕ) (begun : Bool) (sent to : ℕ) (gone : List ℕ) → AreNumbered sent fs to → AreNumbered (report_first fs n begun sent gone).sent (report_first fs n begun sent gone).frames to
reported [] n begun sent to gone h = h
reported (f ∷ fs) n begun sent to gone h = cond_both (nat_lt n (length (written f.message))) _ _ (λ (q : Queue). AreNumbered q.sent q.frames to) (λ _. h) (λ _. h.1)

pub numbered_reported : (q : Queue) (n to : ℕ) → AreNumbered q.sent q.frames to → AreNumbered (after_report q n).sent (after_report q n).frames to
numbered_reported q n to h = reported q.frames (q.reported + n) q.begun q.sent to q.gone h

no_ticket : (ticket : Option ℕ) (from : ℕ) → IsNext ticket true from → ticket_after ticket from ≡ from
no_ticket None from h = refl
no_ticket (Some t) from h = absurd (let e = h.1 in cc)

-- a frame that may be thrown away has none
one_less : (a b : Bool) (f : Queued) (fs : List Queued) (from to : ℕ) → f.is_unary_request ≡ a → IsNext f.ticket f.is_unary_request from → AreNumbered (ticket_after f.ticket from) fs to
    → AreNumbered from (cond (not (a && b)) (f ∷ fs) fs) to
one_less true true f fs from to is next h = subst (λ k. AreNumbered k fs to) (no_ticket f.ticket from (subst (λ (u : Bool). IsNext f.ticket u from) is next)) h
one_less true false f fs from to is next h = (next, h)
one_less false b f fs from to is next h = (next, h)

fewer : (owners : ℕ → Bool) (fs : List Queued) (from to : ℕ) → AreNumbered from fs to → AreNumbered from (frames_without owners fs) to
fewer owners [] from to h = h
fewer owners (f ∷ fs) from to h = one_less f.is_unary_request (owners f.owner) f (frames_without owners fs) from to refl h.0 (fewer owners fs (ticket_after f.ticket from) to h.1)

thrown_away : (b : Bool) (fs : List Queued) (r l s to : ℕ) (g : List ℕ) (owners : ℕ → Bool) → AreNumbered s fs to → AreNumbered s (without (queue_of b fs r l s g) owners).frames to
thrown_away false fs r l s to g owners h = fewer owners fs s to h
thrown_away true [] r l s to g owners h = h
thrown_away true (f ∷ fs) r l s to g owners h = (h.0, fewer owners fs (ticket_after f.ticket s) to h.1)

pub numbered_without : (q : Queue) (owners : ℕ → Bool) (to : ℕ) → AreNumbered q.sent q.frames to → AreNumbered q.sent (without q owners).frames to
numbered_without q owners to h = thrown_away q.begun q.frames q.reported q.lent q.sent to q.gone owners h

-- ---- What the numbers say

in_between : (from t to : ℕ) → from + 1 ≤ to → (nat_eq (from + 1) t || (nat_lt (from + 1) t && nat_le t to)) ≡ (nat_lt from t && nat_le t to)
in_between from t to le = grind (arith, nat_tests, le)

rising : (fs : List Queued) (from to : ℕ) → AreNumbered from fs to → from ≤ to
rising [] from to h = omega (arith, h)
rising (f ∷ fs) from to h = by f.ticket f.is_unary_request h.0 (rising fs (ticket_after f.ticket from) to h.1)
  where
    by : (ticket : Option ℕ) (unary : Bool) → IsNext ticket unary from → ticket_after ticket from ≤ to → from ≤ to
    by None unary next le = le
    by (Some t) unary next le = let e = next.0 in omega (arith, le, e)

-- a ticket is that of a queued frame exactly if it is behind the last that was sent and was given
pub queued_are_behind : (fs : List Queued) (from to t : ℕ) → AreNumbered from fs to → has_ticket t fs ≡ (nat_lt from t && nat_le t to)
queued_are_behind [] from to t h = subst (λ k. false ≡ (nat_lt from t && nat_le t k)) h (grind (arith, nat_tests))
queued_are_behind (f ∷ fs) from to t h = by f.ticket f.is_unary_request h.0 (rising fs (ticket_after f.ticket from) to h.1) (queued_are_behind fs (ticket_after f.ticket from) to t h.1)
  where
    by : (ticket : Option ℕ) (unary : Bool) → IsNext ticket unary from → ticket_after ticket from ≤ to → has_ticket t fs ≡ (nat_lt (ticket_after ticket from) t && nat_le t to)
        → (is_ticket t ticket || has_ticket t fs) ≡ (nat_lt from t && nat_le t to)
    by None unary next le behind = behind
    by (Some s) unary next le behind =
        rw (behind, next.0) (in_between from t to (subst (λ k. k ≤ to) next.0 le))

-- ---- Over a history

joined : (fs gs : List Queued) (last : ℕ) → last_ticket (fs ++ gs) last ≡ last_ticket gs (last_ticket fs last)
joined [] gs last = refl
joined (f ∷ fs) gs last = joined fs gs (ticket_after f.ticket last)

sent_by_report : (fs : List Queued) (n : ℕ) (begun : Bool) (sent : ℕ) (gone : List ℕ) → (report_first fs n begun sent gone).sent ≡ last_ticket (report_finishes fs n) sent
sent_by_report [] n begun sent gone = refl
sent_by_report (f ∷ fs) n begun sent gone = by (nat_lt n (length (written f.message)))
  where
    by : (c : Bool) → (cond c (queue_of begun (f ∷ fs) n 0 sent gone) (queue_of false fs 0 0 (ticket_after f.ticket sent) (drop 1 gone))).sent ≡ last_ticket (cond c [] (f ∷ [])) sent
    by true = refl
    by false = refl

pub sent_is_finished : (hs : List Happening) (q : Queue) → (after_all q hs).sent ≡ last_ticket (finished q hs) q.sent
sent_is_finished [] q = refl
sent_is_finished (Placed f ∷ hs) q = sent_is_finished hs (with_frame q f)
sent_is_finished (Lent n ∷ hs) q = sent_is_finished hs (with_lent q n)
sent_is_finished (Reported n ∷ hs) q =
    sent_is_finished hs (after_report q n)
    ∙ ap (last_ticket (finished (after_report q n) hs)) (sent_by_report q.frames (q.reported + n) q.begun q.sent q.gone)
    ∙ sym (joined (report_finishes q.frames (q.reported + n)) (finished (after_report q n) hs) q.sent)
sent_is_finished (Thrown owners ∷ hs) q = sent_is_finished hs (without q owners)

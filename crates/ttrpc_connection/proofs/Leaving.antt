-- Over any list of calls, the queue goes through a history in which only what is open is lent, and only what was lent
-- is reported.
use Rattle.ttrpc_connection.proofs.Words.{◌≡◌, inl, inr, ℕ, List, [], ◌∷◌, ◌++◌, map, drop, refl, sym, ap, subst, ◌∙◌, append_assoc, append_cancel_left, append-nil, Incoming, Queued, Queue, Happening, Placed, Allowed, IsQueue, MayHappen, after, after_all, all_bytes_left, departing, unsent, with_frame, with_payload, written_all, OutboundTransform, Connection, Outbox, Sent, SendsAll, Ways, Scene, ActsAll, scene, Call, Gave, Lent, Reported, Failed, Did, Goes, Others, AreLawful, Gives, Calls, Runs, Own, Queued_one, own}
use Rattle.ttrpc_proto.specs.Framing.Queue as queue
use Rattle.ttrpc_proto.proofs.Departures.{bytes_are_written}

-- ---- queues that grow

abbrev pub Grows : Queue → Queue → Type 0
Grows old new = (queued : List Queued) × (new ≡ record old { frames = old.frames ++ queued })

pub grows_not : (old new : Queue) → new ≡ old → Grows old new
grows_not old new same = ([], same ∙ ap (λ fs. record old { frames = fs }) (sym (append-nil old.frames)))

pub grows_twice : (old mid new : Queue) → Grows old mid → Grows mid new → Grows old new
grows_twice old mid new one two =
    (one.0 ++ two.0, two.1 ∙ ap (λ (q : Queue). record q { frames = q.frames ++ two.0 }) one.1 ∙ ap (λ fs. record old { frames = fs }) (append_assoc old.frames one.0 two.0))

pub sends_grow : {O : Type 0} (out : OutboundTransform O) (sent : List Sent) (old new : Outbox O) → SendsAll out old sent new → Grows old.queue new.queue
sends_grow out [] old new same = grows_not old.queue new.queue (ap (λ b. b.queue) same)
sends_grow out (s ∷ sent) old new sends =
    grows_twice old.queue sends.0.queue new.queue (with_payload s.frame sends.1.sealed ∷ [], sends.1.queue) (sends_grow out sent sends.0 new sends.2)

pub acts_grow : {S O I : Type 0} (w : Ways S O I) (at : ℕ) (fs : List Incoming) (old new : Scene S O I) → ActsAll w at old fs new → Grows old.outbox.queue new.outbox.queue
acts_grow w at [] old new same = grows_not old.outbox.queue new.outbox.queue (ap (λ c. c.outbox.queue) same)
acts_grow w at (f ∷ fs) old new acts =
    grows_twice old.outbox.queue acts.0.outbox.queue new.outbox.queue (sends_grow w.out acts.1.sent old.outbox acts.0.outbox acts.1.sends) (acts_grow w at fs acts.0 new acts.2)

pub gives_grow : {S O I : Type 0} (w : Ways S O I) (s : S) (old : Connection O I) (piece : List ℕ) (at : ℕ) (t : S) (new : Connection O I) → Gives w s old piece at t new
    → Grows old.outbox.queue new.outbox.queue
gives_grow w s old piece at t new (inl feeds) = acts_grow w at feeds.frames (scene s old) (scene t new) feeds.acts
gives_grow w s old piece at t new (inr (inl breaks)) =
    let b = breaks.1 in
    grows_twice old.outbox.queue b.mid.outbox.queue new.outbox.queue (acts_grow w at b.frames (scene s old) b.mid b.acts)
    (grows_not b.mid.outbox.queue new.outbox.queue (ap (λ o. o.queue) b.outbox))
gives_grow w s old piece at t new (inr (inr failed)) = grows_not old.outbox.queue new.outbox.queue (ap (λ c. c.outbox.queue) failed.2)

-- ---- what a queue goes through

placed_allowed : (fs : List Queued) (q : Queue) → Allowed q (map Placed fs)
placed_allowed [] q = tt
placed_allowed (f ∷ fs) q = (tt, placed_allowed fs (with_frame q f))

placed_after : (fs : List Queued) (q : Queue) → record q { frames = q.frames ++ fs } ≡ after_all q (map Placed fs)
placed_after [] q = ap (λ gs. record q { frames = gs }) (append-nil q.frames)
placed_after (f ∷ fs) q = ap (λ gs. record q { frames = gs }) (sym (append_assoc q.frames (f ∷ []) fs)) ∙ placed_after fs (with_frame q f)

pub placed_goes : (fs : List Queued) (q r : Queue) → r ≡ record q { frames = q.frames ++ fs } → Goes q (map Placed fs) r
placed_goes fs q r is = record { after = is ∙ placed_after fs q; allowed = placed_allowed fs q }

allowed_both : (hs ks : List Happening) (q : Queue) → Allowed q hs → Allowed (after_all q hs) ks → Allowed q (hs ++ ks)
allowed_both [] ks q one two = two
allowed_both (h ∷ hs) ks q one two = (one.0, allowed_both hs ks (after q h) one.1 two)

after_both : (hs ks : List Happening) (q : Queue) → after_all q (hs ++ ks) ≡ after_all (after_all q hs) ks
after_both [] ks q = refl
after_both (h ∷ hs) ks q = after_both hs ks (after q h)

goes_both : (hs ks : List Happening) (q r s : Queue) → Goes q hs r → Goes r ks s → Goes q (hs ++ ks) s
goes_both hs ks q r s one two = record {
  after = two.after ∙ ap (λ x. after_all x ks) one.after ∙ sym (after_both hs ks q);
  allowed = allowed_both hs ks q one.allowed (subst (λ x. Allowed x ks) one.after two.allowed);
}

pub goes_not : (q r : Queue) (hs : List Happening) → r ≡ q → hs ≡ [] → Goes q hs r
goes_not q r hs same none = subst (λ xs. Goes q xs r) (sym none) (record { after = same; allowed = tt })

-- the frames behind are those that were placed
pub queued_goes : (q r : Queue) (queued : List Queued) (hs : List Happening) → Grows q r → r.frames ≡ q.frames ++ queued → hs ≡ map Placed queued → Goes q hs r
queued_goes q r queued hs grows frames is =
    let same : queued ≡ grows.0 = append_cancel_left q.frames queued grows.0 (sym frames ∙ ap (λ (x : Queue). x.frames) grows.1) in
    subst (λ xs. Goes q xs r) (sym is) (placed_goes queued q r (grows.1 ∙ ap (λ fs. record q { frames = q.frames ++ fs }) (sym same)))

goes_once : (q r : Queue) (h : Happening) (hs : List Happening) → r ≡ after q h → MayHappen q h → hs ≡ h ∷ [] → Goes q hs r
goes_once q r h hs is may one = subst (λ xs. Goes q xs r) (sym one) (record { after = is; allowed = (may, tt) })

-- ---- calls

pub call_goes : {A S O I : Type 0} (w : Ways S O I) (others : Others A S O I) → AreLawful others → (c : Call A) (s : S) (old : Connection O I) (hs : List Happening) (t : S) (new : Connection O I)
    → Calls w others s old c hs t new → Goes old.outbox.queue hs new.outbox.queue
call_goes w others lawful (Gave piece at) s old hs t new call =
    queued_goes old.outbox.queue new.outbox.queue call.1.0 hs (gives_grow w s old piece at t new call.0) call.1.1 call.1.2
call_goes w others lawful (Lent n) s old hs t new call =
    goes_once old.outbox.queue new.outbox.queue (queue.Lent n) hs (ap (λ (c : Connection _ _). c.outbox.queue) call.3) call.1 call.4
call_goes w others lawful (Reported n) s old hs t new call =
    goes_once old.outbox.queue new.outbox.queue (queue.Reported n) hs (ap (λ (c : Connection _ _). c.outbox.queue) call.2) call.1 call.3
call_goes w others lawful Failed s old hs t new call =
    goes_not old.outbox.queue new.outbox.queue hs (ap (λ (c : Connection _ _). c.outbox.queue) call.1.1) call.2
call_goes w others lawful (Did a) s old hs t new call = lawful.queue a s old hs t new call

pub run_goes : {A S O I : Type 0} (w : Ways S O I) (others : Others A S O I) → AreLawful others → (cs : List (Call A)) (s : S) (old : Connection O I) (hs : List Happening) (t : S) (new : Connection O I)
    → Runs w others s old cs hs t new → Goes old.outbox.queue hs new.outbox.queue
run_goes w others lawful [] s old hs t new run = goes_not old.outbox.queue new.outbox.queue hs (ap (λ (c : Connection _ _). c.outbox.queue) run.2) run.0
run_goes w others lawful (c ∷ cs) s old hs t new run =
    subst (λ xs. Goes old.outbox.queue xs new.outbox.queue) (sym run.5)
    (goes_both run.2 run.3 old.outbox.queue run.1.outbox.queue new.outbox.queue
    (call_goes w others lawful c s old run.2 run.0 run.1 run.4)
    (run_goes w others lawful cs run.0 run.1 run.3 t new run.6))

pub run_leaves : {A S O I : Type 0} (w : Ways S O I) (others : Others A S O I) → AreLawful others → (cs : List (Call A)) (s : S) (old : Connection O I) (hs : List Happening) (t : S) (new : Connection O I)
    → IsQueue old.outbox.queue → Runs w others s old cs hs t new
    → all_bytes_left old.outbox.queue hs ++ unsent new.outbox.queue ≡ drop old.outbox.queue.reported (written_all (departing old.outbox.queue hs))
run_leaves w others lawful cs s old hs t new valid run =
    let goes = run_goes w others lawful cs s old hs t new run in
    ap (λ q. all_bytes_left old.outbox.queue hs ++ unsent q) goes.after ∙ bytes_are_written hs old.outbox.queue valid goes.allowed

-- ---- the calls of a connection alone

own_decoder : {S O I : Type 0} (w : Ways S O I) (a : Own) (s : S) (old : Connection O I) (hs : List Happening) (t : S) (new : Connection O I) → own w a s old hs t new → new.decoder ≡ old.decoder
own_decoder w (Queued_one frame plain) s old hs t new call = ap (λ c. c.decoder) call.1

own_queue : {S O I : Type 0} (w : Ways S O I) (a : Own) (s : S) (old : Connection O I) (hs : List Happening) (t : S) (new : Connection O I) → own w a s old hs t new → Goes old.outbox.queue hs new.outbox.queue
own_queue w (Queued_one frame plain) s old hs t new call =
    goes_once old.outbox.queue new.outbox.queue (Placed (with_payload frame call.0.sealed)) hs call.0.queue tt call.2

pub own_is_lawful : {S O I : Type 0} (w : Ways S O I) → AreLawful (own w)
own_is_lawful w = record { decoder = own_decoder w; queue = own_queue w }

-- The requests that are queued: none twice.
use Rattle.ttrpc_client.proofs.Words.{arith, ◌≡◌, ◌≢◌, inl, inr, ℕ, ◌<◌, List, [], ◌∷◌, ◌++◌, Bool, true, false, refl, sym, ap, ◌∙◌, append_cancel_left, append-nil, cases_Bool, flat_map-append, AllByRecursion, IsDistinct, nat_eq, Incoming, Queued, Queue, Happening, after_all, departing, IsMerge, placed, OutboundTransform, InboundTransform, Connection, ACall, AreQueuedOnce, Called, Asked, Told, Dropped, Ticked, AskedEnded, Opened, SentOn, Received, ReceiverDropped, SenderDropped, AskedHeard, asked_by, called, ids_asked, ids_used, requests_in, RiseByTwo, thrown_if, Client, calling, Outbox, Gave, Lent, Reported, Failed, Did, Calls, Gives, Runs, ActsAll, Scene, scene, Sent, SendsAll, run_goes, all_joined, all_are_accounted}
use Rattle.ttrpc_proto.specs.Framing.Queue as queue
use Rattle.ttrpc_client.proofs.Calls.{called_is_lawful}
use Rattle.ttrpc_client.proofs.Rising.{Apart, Within, all_within, differ, distinct_within, never_below, rise_apart, rise_below, rise_up, within_itself}
use Rattle.ttrpc_client.proofs.Turning.{run_leaves}

-- ---- frames that are gone

one_gone : (f : Queued) (fs : List Queued) (ids : List ℕ) → Within ids (requests_in fs) → Within ids (requests_in (f ∷ fs))
one_gone f fs ids w = elim (cases_Bool f.is_unary_request) [ inl e ↦ rw e (inl w) | inr e ↦ rw e w ]

one_kept : (f : Queued) (fs gs : List Queued) → Within (requests_in gs) (requests_in fs) → Within (requests_in (f ∷ gs)) (requests_in (f ∷ fs))
one_kept f fs gs w = elim (cases_Bool f.is_unary_request) [ inl e ↦ rw e (inr (requests_in gs, refl, w)) | inr e ↦ rw e w ]

merge_within : (gs away fs : List Queued) → IsMerge gs away fs → Within (requests_in gs) (requests_in fs)
merge_within gs away [] none = rw none.0 refl
merge_within gs away (f ∷ fs) (inl m) = rw m.1 (one_kept f fs m.0 (merge_within m.0 away fs m.2))
merge_within gs away (f ∷ fs) (inr m) = one_gone f fs (requests_in gs) (merge_within gs m.0 fs m.2)

-- what is still queued is the end of what goes out
front_gone : (front fs : List Queued) (ids : List ℕ) → Within ids (requests_in fs) → Within ids (requests_in (front ++ fs))
front_gone [] fs ids w = w
front_gone (f ∷ front) fs ids w = one_gone f (front ++ fs) ids (front_gone front fs ids w)

still_queued : (hs : List Happening) (q : Queue) → Within (requests_in (after_all q hs).frames) (requests_in (departing q hs))
still_queued [] q = within_itself (requests_in q.frames)
still_queued (h ∷ hs) q = front_gone (queue.finished_by q h) (departing (queue.after q h) hs) _ (still_queued hs (queue.after q h))

once_within : (next : ℕ) (fs gs : List Queued) → Within (requests_in gs) (requests_in fs) → AreQueuedOnce next fs → AreQueuedOnce next gs
once_within next fs gs w once = record {
  distinct = distinct_within (requests_in gs) (requests_in fs) w once.distinct;
  below = all_within (λ id. id < next) (requests_in gs) (requests_in fs) w once.below;
}

-- ---- ids behind others

all_so : (P Q : ℕ → Type 0) → ((k : ℕ) → P k → Q k) → (ids : List ℕ) → AllByRecursion P ids → AllByRecursion Q ids
all_so P Q so [] all = tt
all_so P Q so (id ∷ ids) all = (so id all.0, all_so P Q so ids all.1)

distinct_both : (xs ys : List ℕ) → IsDistinct nat_eq xs → IsDistinct nat_eq ys → AllByRecursion (λ k. Apart k ys) xs → IsDistinct nat_eq (xs ++ ys)
unfolding IsDistinct
distinct_both [] ys one two apart = two
distinct_both (x ∷ xs) ys one two apart = (all_joined (λ z. nat_eq x z ≡ false) xs ys one.0 (differ x ys apart.0), distinct_both xs ys one.1 two apart.1)

requests_behind : (fs gs : List Queued) → requests_in (fs ++ gs) ≡ requests_in fs ++ requests_in gs
requests_behind [] gs = refl
requests_behind (f ∷ fs) gs = let later = requests_behind fs gs in elim (cases_Bool f.is_unary_request) [ inl e ↦ rw (e, later) refl | inr e ↦ rw (e, later) refl ]

once_behind : (first next : ℕ) (fs gs : List Queued) (ids used : List ℕ) → requests_in gs ≡ ids → Within ids used → RiseByTwo first used next → AreQueuedOnce first fs → AreQueuedOnce next (fs ++ gs)
once_behind first next fs gs ids used are within rises once =
    let up = rise_up first used next rises in
    let is : requests_in (fs ++ gs) ≡ requests_in fs ++ ids = requests_behind fs gs ∙ ap (λ l. requests_in fs ++ l) are in
    record {
      distinct = rw is (distinct_both (requests_in fs) ids once.distinct (distinct_within ids used within (rise_apart first used next rises))
          (all_so (λ k. k < first) (λ k. Apart k ids) (λ k less. all_within (λ id. k ≢ id) ids used within (never_below k first used next less rises)) (requests_in fs) once.below));
      below = rw is (all_joined (λ k. k < next) (requests_in fs) ids (all_so (λ k. k < first) (λ k. k < next) (λ k less. omega (arith, less, up)) (requests_in fs) once.below) (all_within (λ id. id < next) ids used within (rise_below first used next rises)));
    }

-- ---- each call queues the request that it makes, if it makes one, and nothing else

sends_none : {O : Type 0} (out : OutboundTransform O) (sent : List Sent) (old new : Outbox O) → sent ≡ [] → SendsAll out old sent new → new ≡ old
sends_none out [] old new none sends = sends
sends_none out (s ∷ sent) old new none sends = cc

none_placed : (b : Bool) (ids : ℕ → Bool) → placed (thrown_if b ids) ≡ []
none_placed true ids = refl
none_placed false ids = refl

module _ {O I : Type 0} (out : OutboundTransform O) (in_ : InboundTransform I) (seals : Bool) where
  acts_outbox : (at : ℕ) (fs : List Incoming) (old new : Scene Client O I) → ActsAll (calling out in_) at old fs new → new.outbox ≡ old.outbox
  acts_outbox at [] old new same = ap (λ (s : Scene Client _ _). s.outbox) same
  acts_outbox at (f ∷ fs) old new acts = acts_outbox at fs acts.0 new acts.2 ∙ sends_none out acts.1.sent old.outbox acts.0.outbox acts.1.reacts.sent_is acts.1.sends

  gives_outbox : (s : Client) (old : Connection O I) (piece : List ℕ) (at : ℕ) (t : Client) (new : Connection O I) → Gives (calling out in_) s old piece at t new → new.outbox ≡ old.outbox
  gives_outbox s old piece at t new (inl feeds) = acts_outbox at feeds.frames (scene s old) (scene t new) feeds.acts
  gives_outbox s old piece at t new (inr (inl breaks)) = let b = breaks.1 in b.outbox ∙ acts_outbox at b.frames (scene s old) b.mid b.acts
  gives_outbox s old piece at t new (inr (inr none)) = ap (λ (c : Connection _ _). c.outbox) none.2

  call_places : (c : ACall Called) (s : Client) (old : Connection O I) (hs : List Happening) (t : Client) (new : Connection O I) → Calls (calling out in_) (called out seals) s old c hs t new → requests_in (placed hs) ≡ asked_by c
  call_places (Gave piece at) s old hs t new call =
      let frames = old.outbox.queue.frames in
      let none : call.1.0 ≡ [] = append_cancel_left frames call.1.0 [] (sym call.1.1 ∙ ap (λ (o : Outbox O). o.queue.frames) (gives_outbox s old piece at t new call.0) ∙ sym (append-nil frames)) in
      rw (call.1.2, none) refl
  call_places (Lent n) s old hs t new call = rw call.4 refl
  call_places (Reported n) s old hs t new call = rw call.3 refl
  call_places Failed s old hs t new call = rw call.2 refl
  call_places (Did (Asked request now id)) s old hs t new call = let f = call.1.1 in rw (call.1.3, f.is_unary_request, f.owner) refl
  call_places (Did (Told id outcome)) s old hs t new call = rw call.1 refl
  call_places (Did (Dropped id)) s old hs t new call = ap (λ l. requests_in (placed l)) call.1 ∙ ap requests_in (none_placed _ _)
  call_places (Did (Ticked now)) s old hs t new call = ap (λ l. requests_in (placed l)) call.1 ∙ ap requests_in (none_placed _ _)
  call_places (Did (AskedEnded id)) s old hs t new call = rw call.1 refl
  call_places (Did (Opened request streaming_client streaming_server id)) s old hs t new call = let f = call.1.1 in rw (call.1.3, f.is_unary_request) refl
  call_places (Did (SentOn id flags plain sender ticket)) s old hs t new call = let f = call.1.1 in rw (call.1.3, f.is_unary_request) refl
  call_places (Did (Received id given)) s old hs t new call = rw call.1 refl
  call_places (Did (ReceiverDropped id)) s old hs t new call = rw call.1 refl
  call_places (Did (SenderDropped id)) s old hs t new call = rw call.1 refl
  call_places (Did (AskedHeard id)) s old hs t new call = rw call.1 refl

  run_places : (cs : List (ACall Called)) (s : Client) (old : Connection O I) (hs : List Happening) (t : Client) (new : Connection O I) → Runs (calling out in_) (called out seals) s old cs hs t new
      → requests_in (placed hs) ≡ ids_asked cs
  run_places [] s old hs t new run = rw run.0 refl
  run_places (c ∷ cs) s old hs t new run =
      ap (λ l. requests_in (placed l)) run.5 ∙ ap requests_in (flat_map-append queue.placed_by run.2 run.3) ∙ requests_behind (placed run.2) (placed run.3)
      ∙ rw (call_places c s old run.2 run.0 run.1 run.4, run_places cs run.0 run.1 run.3 t new run.6) refl

  pub run_once : (cs : List (ACall Called)) (s : Client) (old : Connection O I) (hs : List Happening) (t : Client) (new : Connection O I)
      → AreQueuedOnce s.next old.outbox.queue.frames → Runs (calling out in_) (called out seals) s old cs hs t new → AreQueuedOnce t.next new.outbox.queue.frames
  run_once cs s old hs t new once run =
      let q = old.outbox.queue in
      let leaves = run_leaves out in_ seals cs s old hs t new run in
      let all = once_behind s.next t.next q.frames (placed hs) (ids_asked cs) (ids_used cs) (run_places cs s old hs t new run) leaves.within leaves.rises once in
      let merge = all_are_accounted hs q in
      rw (run_goes (calling out in_) (called out seals) (called_is_lawful out seals) cs s old hs t new run).after
      (once_within t.next (departing q hs) (after_all q hs).frames (still_queued hs q) (once_within t.next (q.frames ++ placed hs) (departing q hs) (merge_within _ merge.0 _ merge.1) all))

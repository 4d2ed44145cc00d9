-- What each call of a client leaves of its kind, of how far ids are used, and of ids of which nothing is kept.
use Rattle.ttrpc_client.proofs.Words.{cases_eq, arith, ◌≡◌, ◌≢◌, inl, inr, ℕ, ◌+◌, ◌%◌, List, [], ◌∷◌, ◌++◌, Option, Some, None, is_some, Bool, refl, sym, ap, subst, ◌∙◌, AllByRecursion, Incoming, Happening, OutboundTransform, InboundTransform, Connection, Failure, ACall, CallState, ClientCore, Called, Asked, Told, Dropped, Ticked, AskedEnded, Opened, SentOn, Received, ReceiverDropped, SenderDropped, AskedHeard, Passes, RiseByTwo, asked_by, called, core, ids_asked, ids_used, used_by, Client, IsClient, OthersStay, call_at, call_in, LandsOn, call_result_of, LandsOnce, calling, expired_at, forgotten, left_of, Arrived, Gave, Did, Calls, Gives, Runs, ActsAll, Scene, scene, Sent, all_in_front, all_behind}
use Rattle.ttrpc_client.proofs.Entries.{at_or_apart}
use Rattle.ttrpc_client.proofs.Rising.{Within, all_within, never_above, never_even, none_within, rise_both, rise_odd, rise_range, rise_up, within_both, within_itself}

-- ---- calls by which no id is used

pub record Stays (old new : Client) : Type 0 where
  pub kind : new.kind ≡ old.kind
  pub next : new.next ≡ old.next
  pub none : (k : ℕ) → call_at old k ≡ None → call_at new k ≡ None

stays : (old new : Client) → new ≡ old → Stays old new
stays old new same = record { kind = ap (λ s. s.kind) same; next = ap (λ s. s.next) same; none = λ k none. ap (λ s. call_at s k) same ∙ none }

stays_twice : (old mid new : Client) → Stays old mid → Stays mid new → Stays old new
stays_twice old mid new one two = record { kind = two.kind ∙ one.kind; next = two.next ∙ one.next; none = λ k none. two.none k (one.none k none) }

-- one call may change, and the others stay
one_stays : (id : ℕ) (old new : Client) → new.kind ≡ old.kind → new.next ≡ old.next → OthersStay old.calls id new.calls → (call_at old id ≡ None → call_at new id ≡ None) → Stays old new
one_stays id old new kind next others own =
    record { kind = kind; next = next; none = at_or_apart (λ k. call_at old k ≡ None → call_at new k ≡ None) id own (λ k apart none. others k apart ∙ none) }

frame_stays : (old : Client) (a : Arrived) (sent : List Sent) (new : Client) → LandsOnce old a sent new → Stays old new
frame_stays old a sent new lands =
    one_stays a.header.stream_id old new (ap (λ (s : Client). s.kind) lands.same) (ap (λ (s : Client). s.next) lands.same) lands.lands.others
    (λ h. subst (λ c. LandsOn (call_result_of a.header a.opening) c (call_at new a.header.stream_id)) h lands.lands.own)

acts_stay : {O I : Type 0} (out : OutboundTransform O) (in_ : InboundTransform I) (at : ℕ) (fs : List Incoming) (old new : Scene Client O I) → ActsAll (calling out in_) at old fs new → Stays old.state new.state
acts_stay out in_ at [] old new same = stays old.state new.state (ap (λ (s : Scene Client _ _). s.state) same)
acts_stay out in_ at (f ∷ fs) old new acts =
    stays_twice old.state acts.0.state new.state (frame_stays old.state _ acts.1.sent acts.0.state acts.1.reacts) (acts_stay out in_ at fs acts.0 new acts.2)

gives_stays : {O I : Type 0} (out : OutboundTransform O) (in_ : InboundTransform I) (s : Client) (old : Connection O I) (piece : List ℕ) (at : ℕ) (t : Client) (new : Connection O I)
    → Gives (calling out in_) s old piece at t new → Stays s t
gives_stays out in_ s old piece at t new (inl feeds) = acts_stay out in_ at feeds.frames (scene s old) (scene t new) feeds.acts
gives_stays out in_ s old piece at t new (inr (inl breaks)) =
    let b = breaks.1 in
    stays_twice s b.mid.state t (acts_stay out in_ at b.frames (scene s old) b.mid b.acts) (stays b.mid.state t b.state)
gives_stays out in_ s old piece at t new (inr (inr none)) = stays s t none.1

passes_stays : {O I : Type 0} (seals : Bool) (failure : Option Failure) (old : ClientCore O I) (now : ℕ) (new : ClientCore O I) → Passes seals failure old now new → Stays old.state new.state
passes_stays seals None old now new ticks = record {
  kind = ap (λ (s : Client). s.kind) ticks.expires.same;
  next = ap (λ (s : Client). s.next) ticks.expires.same;
  none = λ k none. ticks.expires.calls k ∙ ap (λ c. expired_at now c) none;
}
passes_stays seals (Some failure) old now new same = stays old.state new.state (ap (λ c. c.state) same)

-- ---- each call

-- these ids were used, some of them for calls, and no call is kept of another of which none was
pub record Leaves (used ids : List ℕ) (old new : Client) : Type 0 where
  pub kind : new.kind ≡ old.kind
  pub rises : RiseByTwo old.next used new.next
  pub within : Within ids used
  pub none : (k : ℕ) → AllByRecursion (λ id. k ≢ id) ids → call_at old k ≡ None → call_at new k ≡ None

uses_none : (old new : Client) → Stays old new → Leaves [] [] old new
uses_none old new s = record { kind = s.kind; rises = s.next; within = refl; none = λ k _ none. s.none k none }

-- the calls stay, whatever becomes of streams
calls_stay : (old new : Client) → new.kind ≡ old.kind → new.next ≡ old.next → new.calls ≡ old.calls → Leaves [] [] old new
calls_stay old new kind next calls = uses_none old new (record { kind = kind; next = next; none = λ k none. ap (λ cs. call_in cs k) calls ∙ none })

module _ {O I : Type 0} (out : OutboundTransform O) (in_ : InboundTransform I) (seals : Bool) where
  pub call_leaves : (c : ACall Called) (s : Client) (old : Connection O I) (hs : List Happening) (t : Client) (new : Connection O I) → Calls (calling out in_) (called out seals) s old c hs t new → Leaves (used_by c) (asked_by c) s t
  call_leaves (Gave piece at) s old hs t new call = uses_none s t (gives_stays out in_ s old piece at t new call.0)
  call_leaves (Did (Asked request now id)) s old hs t new call =
      let did = call.0 in
      record {
        kind = ap (λ c. c.state.kind) did.same;
        rises = (did.id_is, did.in_range, ap (λ c. c.state.next) did.same ∙ ap (λ n. n + 2) did.id_is);
        within = within_itself (id ∷ []);
        none = λ k apart none. did.others k apart.0 ∙ none;
      }
  call_leaves (Did (Told id outcome)) s old hs t new call =
      let did = call.0 in
      uses_none s t (one_stays id s t (ap (λ c. c.state.kind) did.same) (ap (λ c. c.state.next) did.same) did.others (λ h. did.own ∙ ap (left_of (is_some old.failure)) h))
  call_leaves (Did (Dropped id)) s old hs t new call =
      let did = call.0 in
      uses_none s t (one_stays id s t (ap (λ c. c.state.kind) did.same) (ap (λ c. c.state.next) did.same) did.others (λ h. did.own ∙ ap forgotten h))
  call_leaves (Did (Ticked now)) s old hs t new call = uses_none s t (passes_stays seals old.failure (core s old) now (core t new) call.0)
  call_leaves (Did (AskedEnded id)) s old hs t new call =
      let same = call.0.same in calls_stay s t (ap (λ c. c.state.kind) same) (ap (λ c. c.state.next) same) (ap (λ c. c.state.calls) same)
  call_leaves (Did (Opened request streaming_client streaming_server id)) s old hs t new call =
      let did = call.0 in
      record {
        kind = ap (λ c. c.state.kind) did.same;
        rises = (did.id_is, did.in_range, ap (λ c. c.state.next) did.same ∙ ap (λ n. n + 2) did.id_is);
        within = none_within (id ∷ []);
        none = λ k apart none. ap (λ c. call_at c.state k) did.same ∙ none;
      }
  call_leaves (Did (SentOn id flags plain sender ticket)) s old hs t new call =
      let same = call.0.same in calls_stay s t (ap (λ c. c.state.kind) same) (ap (λ c. c.state.next) same) (ap (λ c. c.state.calls) same)
  call_leaves (Did (Received id given)) s old hs t new call =
      let same = call.0.same in calls_stay s t (ap (λ c. c.state.kind) same) (ap (λ c. c.state.next) same) (ap (λ c. c.state.calls) same)
  call_leaves (Did (ReceiverDropped id)) s old hs t new call =
      let same = call.0.same in calls_stay s t (ap (λ c. c.state.kind) same) (ap (λ c. c.state.next) same) (ap (λ c. c.state.calls) same)
  call_leaves (Did (SenderDropped id)) s old hs t new call =
      let same = call.0.same in calls_stay s t (ap (λ c. c.state.kind) same) (ap (λ c. c.state.next) same) (ap (λ c. c.state.calls) same)
  call_leaves (Did (AskedHeard id)) s old hs t new call =
      let same = call.0.same in calls_stay s t (ap (λ c. c.state.kind) same) (ap (λ c. c.state.next) same) (ap (λ c. c.state.calls) same)
  call_leaves c s old hs t new call = uses_none s t (stays s t call.0)

-- ---- calls one after the other

leaves_both : (us vs xs ys : List ℕ) (old mid new : Client) → Leaves us xs old mid → Leaves vs ys mid new → Leaves (us ++ vs) (xs ++ ys) old new
leaves_both us vs xs ys old mid new one two = record {
  kind = two.kind ∙ one.kind;
  rises = rise_both us vs old.next mid.next new.next one.rises two.rises;
  within = within_both xs us ys vs one.within two.within;
  none = λ k apart none. two.none k (all_behind (λ id. k ≢ id) xs ys apart) (one.none k (all_in_front (λ id. k ≢ id) xs ys apart) none);
}

pub run_leaves : {O I : Type 0} (out : OutboundTransform O) (in_ : InboundTransform I) (seals : Bool) (cs : List (ACall Called)) (s : Client) (old : Connection O I) (hs : List Happening) (t : Client) (new : Connection O I)
    → Runs (calling out in_) (called out seals) s old cs hs t new → Leaves (ids_used cs) (ids_asked cs) s t
run_leaves out in_ seals [] s old hs t new run = uses_none s t (stays s t run.1)
run_leaves out in_ seals (c ∷ cs) s old hs t new run =
    leaves_both (used_by c) (ids_used cs) (asked_by c) (ids_asked cs) s run.0 t (call_leaves out in_ seals c s old run.2 run.0 run.1 run.4) (run_leaves out in_ seals cs run.0 run.1 run.3 t new run.6)

-- ---- what holds of every client goes on to hold

odd_left : (used ids : List ℕ) (old new : Client) → Leaves used ids old new → IsClient old.next old.calls → (k : ℕ) (call : Option CallState) → call_at old k ≡ call → call_at new k ≢ None → k % 2 ≡ 1
odd_left used ids old new l valid k (Some call) is some = valid.odd_calls k (λ none. let bad : Some call ≡ None = sym is ∙ none in cc)
odd_left used ids old new l valid k None is some = elim (cases_eq (k % 2) 1) [
  | inl odd ↦ odd
  | inr even ↦ absurd (some (l.none k (all_within (λ id. k ≢ id) ids used l.within (never_even k old.next used new.next even valid.odd l.rises)) is))
]

pub leaves_valid : (used ids : List ℕ) (old new : Client) → Leaves used ids old new → IsClient old.next old.calls → IsClient new.next new.calls
leaves_valid used ids old new l valid = record {
  odd = rise_odd old.next used new.next l.rises valid.odd;
  in_range = rise_range old.next used new.next l.rises valid.in_range;
  fresh = λ k le.
      let up = rise_up old.next used new.next l.rises in
      l.none k (all_within (λ id. k ≢ id) ids used l.within (never_above k old.next used new.next le l.rises)) (valid.fresh k (omega (arith, le, up)));
  odd_calls = λ k. odd_left used ids old new l valid k (call_at old k) refl;
}

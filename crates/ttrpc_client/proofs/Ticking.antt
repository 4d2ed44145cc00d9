-- The calls that are due expire one after the other, and where none is due nothing changes.
use Rattle.ttrpc_client.proofs.Words.{arith, rules, ◌≡◌, ◌≤◌, ◌+◌, ℕ, ◌<◌, List, [], ◌∷◌, ◌++◌, length, not, ◌&&◌, append_assoc, append-nil, take-append-drop, Bool, true, false, if◌then◌else◌, refl, sym, ap, subst, ◌∙◌, take, drop, IsPermutation-pop_more, IsPermutation-refl, IsPermutation-sym, length_permutation, IsPermutation, Queued, begun_count, first_is_request_of, frames_without, without, Connection, Failure, ClientCore, Client, call_at, throws, Expires, Ticks, due_at, due_ids, expired_at, taken_back, ExpiresOne, DeadlineDuringWrite}
use Rattle.ttrpc_proto.specs.Framing.Queue.{gone_after, gone_behind, gone_first, in_front, IsQueue, trimmed}
use Rattle.ttrpc_client.proofs.Expiring.{not_due, stays_as_it_is}

-- some calls that are due have expired, and the others are still to
pub record SoFar (old : Client) (now : ℕ) (mid : Client) : Type 0 where
  pub due : List ℕ
  pub rest : IsPermutation (due_ids now old.calls) (due ++ due_ids now mid.calls)
  pub calls : (k : ℕ) → expired_at now (call_at mid k) ≡ expired_at now (call_at old k)
  pub same : mid ≡ record old { calls = mid.calls; ended = old.ended ++ due }

pub none_yet : (old : Client) (now : ℕ) → SoFar old now old
none_yet old now = record {
  due = [];
  rest = IsPermutation-refl (due_ids now old.calls);
  calls = λ k. refl;
  same = ap (λ (ids : List ℕ). record old { ended = ids }) (sym (append-nil old.ended));
}

pub one_more : (old mid new : Client) (now id : ℕ) → SoFar old now mid → ExpiresOne mid now id new → SoFar old now new
one_more old mid new now id p x = record {
  due = p.due ++ id ∷ [];
  rest = IsPermutation-pop_more (due_ids now old.calls) p.due (due_ids now mid.calls) (due_ids now new.calls) id p.rest
      (IsPermutation-sym (id ∷ due_ids now new.calls) (due_ids now mid.calls) x.due);
  calls = λ k. x.calls k ∙ p.calls k;
  same = x.same ∙ ap (λ (m : Client). record m { calls = new.calls; ended = m.ended ++ id ∷ [] }) p.same
      ∙ ap (λ (ids : List ℕ). record old { calls = new.calls; ended = ids }) (append_assoc old.ended p.due (id ∷ []));
}

-- fewer are due after it
pub fewer : (old new : Client) (now id : ℕ) → ExpiresOne old now id new → length (due_ids now new.calls) < length (due_ids now old.calls)
fewer old new now id x = let count = length_permutation (id ∷ due_ids now new.calls) (due_ids now old.calls) x.due in omega (arith, count)

pub all_expired : (old mid : Client) (now : ℕ) → SoFar old now mid → due_ids now mid.calls ≡ [] → Expires old now mid
all_expired old mid now p none = record {
  due = p.due;
  is_due = IsPermutation-sym (due_ids now old.calls) p.due
      (subst (λ (ids : List ℕ). IsPermutation (due_ids now old.calls) ids) (ap (λ (ids : List ℕ). p.due ++ ids) none ∙ append-nil p.due) p.rest);
  calls = λ k. sym (stays_as_it_is now (call_at mid k) (not_due now k mid.calls none)) ∙ p.calls k;
  same = p.same;
}

-- ---- nothing is due

kept_at : (u : Bool) (f : Queued) (gs fs : List Queued) (b : Bool) → b ≡ false → gs ≡ fs → (if not (u && b) then f ∷ gs else gs) ≡ f ∷ fs
kept_at true f gs fs b e same = rw (e, same) refl
kept_at false f gs fs b e same = rw same refl

all_kept : (ids : ℕ → Bool) → ((k : ℕ) → ids k ≡ false) → (fs : List Queued) → frames_without ids fs ≡ fs
all_kept ids none [] = refl
all_kept ids none (f ∷ fs) = kept_at f.is_unary_request f (frames_without ids fs) fs (ids f.owner) (none f.owner) (all_kept ids none fs)

none_begun : (ids : ℕ → Bool) → ((k : ℕ) → ids k ≡ false) → (begun : Bool) (fs : List Queued) → (begun && first_is_request_of ids fs) ≡ false
none_begun ids none false fs = refl
none_begun ids none true [] = refl
none_begun ids none true (f ∷ fs) = let e = none f.owner in search (rules, e)

-- nor is a byte gone after a frame
not_both : (u b : Bool) → b ≡ false → (u && b) ≡ false
not_both true b e = e
not_both false b e = refl

none_first : (ids : ℕ → Bool) → ((k : ℕ) → ids k ≡ false) → (fs : List Queued) (gone : List ℕ) → gone_first ids fs gone ≡ 0
none_first ids none [] gone = refl
none_first ids none (f ∷ fs) gone = rw (not_both f.is_unary_request (ids f.owner) (none f.owner)) refl

abbrev goes_first : (ids : ℕ → Bool) → List Queued → List ℕ → ℕ → List ℕ
goes_first ids fs gone n = in_front (n + gone_first ids fs gone) (gone_behind ids fs gone)

one_behind : (ids : ℕ → Bool) → ((k : ℕ) → ids k ≡ false) → (fs : List Queued) (gone : List ℕ) (n : ℕ) → gone_behind ids fs gone ≡ trimmed gone → goes_first ids fs gone n ≡ in_front n (trimmed gone)
one_behind ids none fs gone n behind =
    let same : n + gone_first ids fs gone ≡ n = let zero = none_first ids none fs gone in omega (arith, zero) in
    rw (same, behind) refl

none_behind : (ids : ℕ → Bool) → ((k : ℕ) → ids k ≡ false) → (fs : List Queued) (gone : List ℕ) → length gone ≤ length fs → gone_behind ids fs gone ≡ trimmed gone
none_behind ids none [] [] le = refl
none_behind ids none [] (k ∷ ks) le = absurd (omega (arith, le))
none_behind ids none (f ∷ fs) [] le = rw (not_both f.is_unary_request (ids f.owner) (none f.owner)) (one_behind ids none fs [] 0 (none_behind ids none fs [] (omega arith)))
none_behind ids none (f ∷ fs) (k ∷ ks) le = rw (not_both f.is_unary_request (ids f.owner) (none f.owner)) (one_behind ids none fs ks k (none_behind ids none fs ks (omega (arith, le))))

none_after : (ids : ℕ → Bool) → ((k : ℕ) → ids k ≡ false) → (begun : Bool) (fs : List Queued) (gone : List ℕ) → length gone ≤ length fs → gone_after ids begun fs gone ≡ trimmed gone
none_after ids none false fs gone le = none_behind ids none fs gone le
none_after ids none true [] [] le = refl
none_after ids none true [] (k ∷ ks) le = absurd (omega (arith, le))
none_after ids none true (f ∷ fs) [] le = one_behind ids none fs [] 0 (none_behind ids none fs [] (omega arith))
none_after ids none true (f ∷ fs) (k ∷ ks) le = one_behind ids none fs ks k (none_behind ids none fs ks (omega (arith, le)))

taken_back_not : {O I : Type 0} (c : Connection O I) (ids : ℕ → Bool) (why : Failure) → IsQueue c.outbox.queue → ((k : ℕ) → ids k ≡ false) → taken_back c ids why ≡ c
taken_back_not c ids why is none =
    let q = c.outbox.queue in
    let gone : gone_after ids q.begun q.frames q.gone ≡ q.gone = none_after ids none q.begun q.frames q.gone is.gone ∙ is.no_zero in
    let n = begun_count q in
    let frames : take n q.frames ++ frames_without ids (drop n q.frames) ≡ q.frames = ap (λ fs. take n q.frames ++ fs) (all_kept ids none (drop n q.frames)) ∙ take-append-drop n q.frames in
    rw (none_begun ids none q.begun q.frames)
    (ap (λ fs. record c { outbox = record c.outbox { queue = record q { frames = fs; gone = gone_after ids q.begun q.frames q.gone } } }) frames
    ∙ ap (λ (ns : List ℕ). record c { outbox = record c.outbox { queue = record q { gone = ns } } }) gone)

back_not : {O I : Type 0} (b : Bool) (c : Connection O I) (ids : ℕ → Bool) (why : Failure) → IsQueue c.outbox.queue → ((k : ℕ) → ids k ≡ false) → c ≡ (if b then taken_back c ids why else c)
back_not true c ids why is none = sym (taken_back_not c ids why is none)
back_not false c ids why is none = refl

pub nothing_due : {O I : Type 0} (seals : Bool) (old : ClientCore O I) (now : ℕ) → IsQueue old.connection.outbox.queue → due_ids now old.state.calls ≡ [] → Ticks seals old now old
nothing_due seals old now is none = record {
  expires = all_expired old.state old.state now (none_yet old.state now) none;
  connection = back_not (throws old.state.kind seals) old.connection (λ id. due_at now (call_at old.state id)) DeadlineDuringWrite is (λ k. not_due now k old.state.calls none);
}

-- ---- what a tick leaves queued

pub tick_frames : {O I : Type 0} (seals : Bool) (old new : ClientCore O I) (now : ℕ) → throws old.state.kind seals ≡ true → Ticks seals old now new
    → new.connection.outbox.queue.frames ≡ (without old.connection.outbox.queue (λ id. due_at now (call_at old.state id))).frames
tick_frames seals old new now throws_is ticks =
    ap (λ (c : Connection _ _). c.outbox.queue.frames) ticks.connection
    ∙ ap (λ b. (if b then taken_back old.connection (λ id. due_at now (call_at old.state id)) DeadlineDuringWrite else old.connection).outbox.queue.frames) throws_is

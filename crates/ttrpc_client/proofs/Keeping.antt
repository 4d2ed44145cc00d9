-- What the state of every client keeps, through each change.
use Rattle.ttrpc_client.proofs.Words.{rules, arith, length, ◌≡◌, ◌≢◌, ◌<◌, ◌≤◌, ◌%◌, ◌^◌, ◌+◌, ◌-◌, ◌++◌, ℕ, nat_eq, List, [], ◌∷◌, Option, Some, None, Bool, true, false, if◌then◌else◌, refl, sym, ap, subst, ◌∙◌, nat_cmp_total, IsStrictlySortedBy, keys_of, values_of, remove_entry, option_map, unwrap_or, insert_entry, is_at, nat_cmp, CallState, StreamState, Waiting, Client, IsClient, OthersStay, call_in, told_left, waits, Admits, Leaves, AreDeadlines, ChangesTo, IsKept, deadline_in, has_deadline, is_moment, waiting_in, weight, cond_both, sum_by-insert_entry, sum_by-remove_entry}
use Rattle.std.proofs.lemmas.List.Sums.{sum_by-cons}
use Rattle.ttrpc_client.specs.declared.kind.ClientKind.{ClientKind}
use Rattle.ttrpc_client.proofs.Entries.{apart_place, at_or_apart, undone}

-- what a change of the map says of the others
pub others_stay : (id : ℕ) (old new : List (ℕ × CallState)) → ((q : ℕ) → is_at (nat_cmp id) q ≡ false → call_in new q ≡ call_in old q) → OthersStay old id new
others_stay id old new h k apart = h k (apart_place id k apart)

-- ---- deadlines

abbrev until : ℕ → Option CallState → Bool
until at call = is_moment at (deadline_in call)

-- one call's deadline comes or goes as the call does
deadlines_move : (there : Bool) (old new : List (ℕ × CallState)) (ds es : List (ℕ × ℕ)) (id : ℕ) (deadline : Option ℕ) → AreDeadlines ds old → OthersStay old id new → ChangesTo there ds id deadline es
    → ((at : ℕ) → (if is_moment at deadline then there else until at (call_in old id)) ≡ until at (call_in new id)) → AreDeadlines es new
deadlines_move there old new ds es id deadline are others changes own at = at_or_apart (λ k. has_deadline es at k ≡ until at (call_in new k)) id
    (let same : nat_eq id id ≡ true = search rules in rw (same, are at id) at (changes at id) ∙ own at)
    (λ k apart. let other : nat_eq k id ≡ false = search (rules, apart) in rw other at (changes at k) ∙ are at k ∙ ap (until at) (sym (others k apart)))

deadline_gone : (old new : List (ℕ × CallState)) (ds es : List (ℕ × ℕ)) (id : ℕ) (deadline : Option ℕ) → AreDeadlines ds old → OthersStay old id new → ChangesTo false ds id deadline es
    → deadline ≡ deadline_in (call_in old id) → deadline_in (call_in new id) ≡ None → AreDeadlines es new
deadline_gone old new ds es id deadline are others changes was none = deadlines_move false old new ds es id deadline are others changes
    (λ at. ap (λ d. if is_moment at d then false else until at (call_in old id)) was ∙ cond_both (until at (call_in old id)) false _ (λ b. b ≡ false) (λ _. refl) (λ e. e) ∙ sym (ap (is_moment at) none))

deadline_come : (old new : List (ℕ × CallState)) (ds es : List (ℕ × ℕ)) (id : ℕ) (deadline : Option ℕ) → AreDeadlines ds old → OthersStay old id new → ChangesTo true ds id deadline es
    → call_in old id ≡ None → call_in new id ≡ Some (Waiting deadline) → AreDeadlines es new
deadline_come old new ds es id deadline are others changes was is = deadlines_move true old new ds es id deadline are others changes
    (λ at. ap (λ call. if is_moment at deadline then true else until at call) was ∙ cond_both (is_moment at deadline) true false (λ b. b ≡ is_moment at deadline) (λ e. sym e) (λ e. sym e) ∙ sym (ap (until at) is))

-- a call that doesn't wait has none
not_waiting : (call : CallState) → waits (Some call) ≡ false → deadline_in (Some call) ≡ None
not_waiting (Waiting deadline) h = cc
not_waiting call h = refl

-- ---- how many wait

weight_was : (call : Option CallState) → waits call ≡ true → unwrap_or (option_map weight call) 0 ≡ 1
weight_was None h = cc
weight_was (Some call) h = rw h refl

-- one that waited doesn't any more
fewer_wait : (calls : List (ℕ × CallState)) (id : ℕ) (call : CallState) → IsStrictlySortedBy nat_cmp (keys_of calls)
    → waits (call_in calls id) ≡ true → waits (Some call) ≡ false → waiting_in (insert_entry nat_cmp calls id call) + 1 ≡ waiting_in calls
fewer_wait calls id call ordered was ended =
    let count = sum_by-insert_entry weight nat_cmp_total calls id call ordered in
    let one = weight_was (call_in calls id) was in
    let none : weight call ≡ 0 = rw ended refl in
    omega (arith, count, one, none)

more_wait : (calls : List (ℕ × CallState)) (id : ℕ) (deadline : Option ℕ) → IsStrictlySortedBy nat_cmp (keys_of calls)
    → call_in calls id ≡ None → waiting_in (insert_entry nat_cmp calls id (Waiting deadline)) ≡ waiting_in calls + 1
more_wait calls id deadline ordered was =
    let count = sum_by-insert_entry weight nat_cmp_total calls id (Waiting deadline) ordered in
    let none : unwrap_or (option_map weight (call_in calls id)) 0 ≡ 0 = rw was refl in
    omega (arith, count, none)

-- no more wait than there are
waiting_few : (calls : List (ℕ × CallState)) → waiting_in calls ≤ length calls
waiting_few [] = omega arith
waiting_few (c ∷ cs) =
    let few = waiting_few cs in
    let one = cond_both (waits (Some c.1)) 1 0 (λ n. n ≤ 1) (λ _. omega arith) (λ _. omega arith) in
    let step = sum_by-cons weight c.1 (values_of cs) in
    omega (arith, few, one, step)

-- ---- which are told

pub kept_told : (calls : List (ℕ × CallState)) (ended : List ℕ) → (length calls ≡ 0 → ⊥) → ended ≡ told_left calls ended
kept_told [] ended some = absurd (some refl)
kept_told (c ∷ cs) ended some = refl

some_told : (calls : List (ℕ × CallState)) (ended : List ℕ) (id : ℕ) (call : CallState) → call_in calls id ≡ Some call → told_left calls ended ≡ ended
some_told [] ended id call is = cc
some_told (c ∷ cs) ended id call is = refl

pub none_told : (calls : List (ℕ × CallState)) (ended : List ℕ) → told_left calls ended ≡ ended → calls ≡ [] → ended ≡ []
none_told [] ended told none = sym told
none_told (c ∷ cs) ended told none = cc

told_twice : (calls : List (ℕ × CallState)) (ended : List ℕ) → told_left calls (told_left calls ended) ≡ told_left calls ended
told_twice [] ended = refl
told_twice (c ∷ cs) ended = refl

-- ---- ids

is_there : (call : Option CallState) → waits call ≡ true → call ≡ None → ⊥
is_there None h none = cc
is_there (Some call) h none = cc

-- one call changes or goes
changed_valid : (next : ℕ) (old new : List (ℕ × CallState)) (id : ℕ) → IsClient next old → OthersStay old id new → (next ≤ id → call_in new id ≡ None) → (call_in new id ≢ None → id % 2 ≡ 1) → IsClient next new
changed_valid next old new id valid others fresh odd = record {
  odd = valid.odd;
  in_range = valid.in_range;
  fresh = at_or_apart (λ k. next ≤ k → call_in new k ≡ None) id fresh (λ k apart le. others k apart ∙ valid.fresh k le);
  odd_calls = at_or_apart (λ k. call_in new k ≢ None → k % 2 ≡ 1) id odd (λ k apart some. valid.odd_calls k (λ none. some (others k apart ∙ none)));
}

new_valid : (next : ℕ) (old new : List (ℕ × CallState)) → next < 2 ^ 32 → IsClient next old → OthersStay old next new → IsClient (next + 2) new
new_valid next old new below valid others =
    let odd = valid.odd in
    record {
      odd = omega (arith, odd);
      in_range = omega (arith, below);
      fresh = λ k le. let apart : k ≢ next = omega (arith, le) in others k apart ∙ valid.fresh k (omega (arith, le));
      odd_calls = at_or_apart (λ k. call_in new k ≢ None → k % 2 ≡ 1) next (λ _. odd) (λ k apart some. valid.odd_calls k (λ none. some (others k apart ∙ none)));
    }

-- ---- each change

module _ (next : ℕ) (old : List (ℕ × CallState)) (ds : List (ℕ × ℕ)) (ended : List ℕ) (used room : ℕ) (kept : IsKept next old ds ended used room) where
  pub settle_keeps : (new : List (ℕ × CallState)) (es : List (ℕ × ℕ)) (more_used more_room id : ℕ) (deadline : Option ℕ) (call : CallState)
      → deadline ≡ deadline_in (call_in old id) → waits (call_in old id) ≡ true → waits (Some call) ≡ false
      → new ≡ insert_entry nat_cmp old id call → call_in new id ≡ Some call → OthersStay old id new → IsStrictlySortedBy nat_cmp (keys_of new)
      → ChangesTo false ds id deadline es → more_used ≡ used + 1 → room ≤ more_room
      → IsKept next new es (ended ++ id ∷ []) more_used more_room
  settle_keeps new es more_used more_room id deadline call is was ended_is entries own others ordered away more wide =
      let fewer = fewer_wait old id call kept.ordered was ended_is in
      let count : waiting_in new ≡ waiting_in (insert_entry nat_cmp old id call) = ap waiting_in entries in
      let has_room = kept.has_room in
      let there = is_there (call_in old id) was in
      record {
        valid = changed_valid next old new id kept.valid others (λ le. absurd (there (kept.valid.fresh id le))) (λ _. kept.valid.odd_calls id there);
        ordered = ordered;
        deadlines_are = deadline_gone old new ds es id deadline kept.deadlines_are others away is (ap deadline_in own ∙ not_waiting call ended_is);
        has_room = omega (arith, fewer, count, has_room, more, wide);
        told = some_told new (ended ++ id ∷ []) id call own;
      }

  -- there is room for it among those that are told of
  pub settle_room : (id : ℕ) (call : CallState) → waits (call_in old id) ≡ true → waits (Some call) ≡ false → room ≤ used → ⊥
  settle_room id call was ended_is full =
      let fewer = fewer_wait old id call kept.ordered was ended_is in
      let has_room = kept.has_room in
      omega (arith, fewer, has_room, full)

  pub admit_keeps : (new : List (ℕ × CallState)) (es : List (ℕ × ℕ)) (more_room id : ℕ) (deadline : Option ℕ) → id ≡ next → next < 2 ^ 32
      → new ≡ insert_entry nat_cmp old id (Waiting deadline) → call_in new id ≡ Some (Waiting deadline) → OthersStay old id new → IsStrictlySortedBy nat_cmp (keys_of new)
      → ChangesTo true ds id deadline es → used + (length old + 1) ≤ more_room
      → IsKept (next + 2) new es ended used more_room
  admit_keeps new es more_room id deadline is below entries own others ordered there wide =
      let none : call_in old id ≡ None = kept.valid.fresh id (omega (arith, is)) in
      let more = more_wait old id deadline kept.ordered none in
      let few = waiting_few old in
      let count : waiting_in new ≡ waiting_in (insert_entry nat_cmp old id (Waiting deadline)) = ap waiting_in entries in
      record {
        valid = new_valid next old new below kept.valid (subst (λ i. OthersStay old i new) is others);
        ordered = ordered;
        deadlines_are = deadline_come old new ds es id deadline kept.deadlines_are others there none own;
        has_room = omega (arith, more, few, count, wide);
        told = some_told new ended id (Waiting deadline) own;
      }

  -- a call is no longer kept, and its deadline, if it had one, is gone
  pub forget_keeps : (new : List (ℕ × CallState)) (es : List (ℕ × ℕ)) (left : List ℕ) (less_used id : ℕ) (deadline : Option ℕ) → deadline ≡ deadline_in (call_in old id)
      → new ≡ remove_entry (is_at (nat_cmp id)) old → call_in new id ≡ None → OthersStay old id new → IsStrictlySortedBy nat_cmp (keys_of new)
      → ChangesTo false ds id deadline es → left ≡ told_left new ended → less_used ≤ used
      → IsKept next new es left less_used room
  forget_keeps new es left less_used id deadline is entries own others ordered away left_is less =
      let fewer = sum_by-remove_entry weight (is_at (nat_cmp id)) old in
      let count : waiting_in new ≡ waiting_in (remove_entry (is_at (nat_cmp id)) old) = ap waiting_in entries in
      let has_room = kept.has_room in
      record {
        valid = changed_valid next old new id kept.valid others (λ _. own) (λ some. absurd (some own));
        ordered = ordered;
        deadlines_are = deadline_gone old new ds es id deadline kept.deadlines_are others away is (ap deadline_in own);
        has_room = omega (arith, fewer, count, has_room, less);
        told = ap (told_left new) left_is ∙ told_twice new ended ∙ sym left_is;
      }

-- ---- a call that is admitted and withdrawn

same_client : (c : Client) (kind : ClientKind) (next : ℕ) (calls : List (ℕ × CallState)) (ended : List ℕ) (streams : List (ℕ × StreamState)) (heard : List ℕ)
    → kind ≡ c.kind → next ≡ c.next → calls ≡ c.calls → ended ≡ c.ended → streams ≡ c.streams → heard ≡ c.heard
    → (let d : Client = record { kind = kind; next = next; calls = calls; ended = ended; streams = streams; heard = heard } in d ≡ c)
same_client c kind next calls ended streams heard p q r s t u = rw (p, q, r, s, t, u) refl

pub withdrawn : (old mid new : Client) (id : ℕ) (deadline : Option ℕ) → Admits old id deadline mid → Leaves mid id new → record new { next = new.next - 2 } ≡ old
withdrawn old mid new id deadline admits leaves =
    let next_was : mid.next ≡ id + 2 = ap (λ (c : Client). c.next) admits.same in
    let next_is : new.next ≡ mid.next = ap (λ (c : Client). c.next) leaves.same in
    let id_is = admits.id_is in
    let calls : new.calls ≡ old.calls = leaves.calls ∙ ap (remove_entry (is_at (nat_cmp id))) admits.calls ∙ undone id (Waiting deadline) old.calls admits.fresh in
    same_client old new.kind (new.next - 2) new.calls new.ended new.streams new.heard
    (ap (λ (c : Client). c.kind) leaves.same ∙ ap (λ (c : Client). c.kind) admits.same)
    (omega (arith, next_was, next_is, id_is))
    calls
    (ap (λ (c : Client). c.ended) leaves.same ∙ ap (λ cs. told_left cs mid.ended) calls ∙ ap (λ (c : Client). told_left old.calls c.ended) admits.same ∙ admits.told)
    (ap (λ (c : Client). c.streams) leaves.same ∙ ap (λ (c : Client). c.streams) admits.same)
    (ap (λ (c : Client). c.heard) leaves.same ∙ ap (λ (c : Client). c.heard) admits.same)

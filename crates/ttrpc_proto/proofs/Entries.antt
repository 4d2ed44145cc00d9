-- The entries of a queue: what each call leaves of them, and how many bytes they hold.
use Rattle.std.proofs.Common.{◌≡◌, ◌+◌, ◌-◌, not, ℕ, zero, Bool, true, false, cond, nat_eq, sum, suc, List, [], ◌∷◌, ◌++◌, length, take, drop, arith, sym, ap, ◌∙◌, refl, subst, length-append}
use Rattle.std.proofs.lemmas.Bool.{cond-true, ltb-true}
use Rattle.std.proofs.lemmas.List.{take_at}
use Rattle.ttrpc_proto.specs.declared.framing.outgoing.Queued.{Queued}
use Rattle.ttrpc_proto.specs.Framing.Laid.{Entry, frames_of, gone_before, kept_of, numbers_of, of_entries}
use Rattle.ttrpc_proto.specs.Framing.Queue.{written, written_all, IsQueue, first_gone, in_front, trimmed, held, with_frame, with_payload, last_filled, last_may_change, may_fill, filled, withdrawn, is_request_of, gone_first, gone_behind, frames_without, without}
use Rattle.ttrpc_proto.proofs.Queues.{AreGone, begun_is_queue, drop_trimmed, first_trimmed, fresh_is_queue, held_is, last_of_more, length-written_more, queue_of, sum_cons, sum_trimmed, trimmed_is_gone}

-- how many bytes entries hold
abbrev pub all_held : List Entry → ℕ
all_held entries = length (written_all (frames_of entries)) + sum (numbers_of entries)

-- ---- Joined

frames_joined : (es ks : List Entry) → frames_of (es ++ ks) ≡ frames_of es ++ frames_of ks
frames_joined [] ks = refl
frames_joined (e ∷ es) ks = ap (λ l. e.frame ∷ l) (frames_joined es ks)

numbers_joined : (es ks : List Entry) → numbers_of (es ++ ks) ≡ numbers_of es ++ numbers_of ks
numbers_joined [] ks = refl
numbers_joined (e ∷ es) ks = ap (λ l. e.gone ∷ l) (numbers_joined es ks)

sum_joined : (ns ms : List ℕ) → sum (ns ++ ms) ≡ sum ns + sum ms
sum_joined [] ms = omega arith
sum_joined (n ∷ ns) ms = omega (arith, sum_joined ns ms, sum_cons n (ns ++ ms), sum_cons n ns)

pub all_held_joined : (es ks : List Entry) → all_held (es ++ ks) ≡ all_held es + all_held ks
all_held_joined es ks =
    let fs = ap (λ fs. length (written_all fs)) (frames_joined es ks) ∙ length-written_more (frames_of es) (frames_of ks) in
    let ns = ap sum (numbers_joined es ks) ∙ sum_joined (numbers_of es) (numbers_of ks) in
    omega (arith, fs, ns)

pub all_held_one : (e : Entry) → all_held (e ∷ []) ≡ length (written e.frame.message) + e.gone
all_held_one e = omega (arith, length-append (written e.frame.message) [], sum_cons e.gone [])

length-numbers : (es : List Entry) → length (numbers_of es) ≡ length (frames_of es)
length-numbers [] = refl
length-numbers (e ∷ es) = ap suc (length-numbers es)

pub all_held_cons : (e : Entry) (es : List Entry) → all_held (e ∷ es) ≡ length (written e.frame.message) + e.gone + all_held es
all_held_cons e es = omega (arith, length-append (written e.frame.message) (written_all (frames_of es)), sum_cons e.gone (numbers_of es))

-- with the bytes that were reported, a queue holds what its entries do
pub entries_hold : (es : List Entry) (r l : ℕ) (b : Bool) (s : ℕ) → IsQueue (of_entries es r l b s) → held (of_entries es r l b s) + r ≡ all_held es
entries_hold es r l b s h = held_is (of_entries es r l b s) h ∙ ap (λ n. length (written_all (frames_of es)) + n) (sum_trimmed (numbers_of es))

entries_gone : (es : List Entry) → AreGone (length (frames_of es)) (trimmed (numbers_of es))
entries_gone es = subst (λ n. AreGone n (trimmed (numbers_of es))) (length-numbers es) (trimmed_is_gone (numbers_of es))

-- ---- One more entry

one_more_frame : (es : List Entry) (f : Queued) → frames_of (es ++ record { frame = f; gone = 0 } ∷ []) ≡ frames_of es ++ f ∷ []
one_more_frame es f = frames_joined es (record { frame = f; gone = 0 } ∷ [])

trimmed_zero : (ns : List ℕ) → trimmed (ns ++ 0 ∷ []) ≡ trimmed ns
trimmed_zero [] = refl
trimmed_zero (n ∷ ns) = ap (in_front n) (trimmed_zero ns)

one_more_number : (es : List Entry) (f : Queued) → trimmed (numbers_of (es ++ record { frame = f; gone = 0 } ∷ [])) ≡ trimmed (numbers_of es)
one_more_number es f = ap trimmed (numbers_joined es (record { frame = f; gone = 0 } ∷ [])) ∙ trimmed_zero (numbers_of es)

pub view_placed : (es : List Entry) (f : Queued) (r l : ℕ) (b : Bool) (s : ℕ) → of_entries (es ++ record { frame = f; gone = 0 } ∷ []) r l b s ≡ with_frame (of_entries es r l b s) f
view_placed es f r l b s =
    ap (λ fs. queue_of b fs r l s (trimmed (numbers_of (es ++ record { frame = f; gone = 0 } ∷ [])))) (one_more_frame es f)
    ∙ ap (queue_of b (frames_of es ++ f ∷ []) r l s) (one_more_number es f)

-- ---- The last entry

-- the last entry with a payload in its frame
pub view_filled : (es : List Entry) (e : Entry) (payload : List ℕ) (r l : ℕ) (b : Bool) (s : ℕ) → may_fill (of_entries (es ++ e ∷ []) r l b s) payload ≡ true
    → of_entries (es ++ record e { frame = with_payload e.frame payload } ∷ []) r l b s ≡ filled (of_entries (es ++ e ∷ []) r l b s) payload
view_filled es e payload r l b s may =
    let new : Entry = record e { frame = with_payload e.frame payload } in
    let frames : frames_of (es ++ new ∷ []) ≡ last_filled (frames_of (es ++ e ∷ [])) payload = frames_joined es (new ∷ []) ∙ sym (ap (λ fs. last_filled fs payload) (frames_joined es (e ∷ [])) ∙ last_of_more (frames_of es) e.frame payload) in
    let numbers : numbers_of (es ++ new ∷ []) ≡ numbers_of (es ++ e ∷ []) = numbers_joined es (new ∷ []) ∙ sym (numbers_joined es (e ∷ [])) in
    ap (λ fs. queue_of b fs r l s (trimmed (numbers_of (es ++ new ∷ [])))) frames
    ∙ ap (λ ns. queue_of b (last_filled (frames_of (es ++ e ∷ [])) payload) r l s (trimmed ns)) numbers
    ∙ sym (cond-true (may_fill (of_entries (es ++ e ∷ []) r l b s) payload) _ _ may)

-- without the last entry
take_in_front : (n m : ℕ) (ns : List ℕ) → trimmed (take (suc m) (in_front n ns)) ≡ in_front n (trimmed (take m ns))
take_in_front n zero [] = by (nat_eq n 0) refl
  where
    by : (c : Bool) → nat_eq n 0 ≡ c → trimmed (take 1 (cond c [] (n ∷ []))) ≡ cond c [] (n ∷ [])
    by true e = refl
    by false e = ap (λ (c : Bool). cond c [] (n ∷ [])) e
take_in_front n (suc m) [] = by (nat_eq n 0) refl
  where
    by : (c : Bool) → nat_eq n 0 ≡ c → trimmed (take (suc (suc m)) (cond c [] (n ∷ []))) ≡ cond c [] (n ∷ [])
    by true e = refl
    by false e = ap (λ (c : Bool). cond c [] (n ∷ [])) e
take_in_front n m (k ∷ ns) = refl

trimmed_take : (m : ℕ) (ns : List ℕ) → trimmed (take m (trimmed ns)) ≡ trimmed (take m ns)
trimmed_take zero ns = refl
trimmed_take (suc m) [] = refl
trimmed_take (suc m) (n ∷ ns) = take_in_front n m (trimmed ns) ∙ ap (in_front n) (trimmed_take m ns)

last_frame_gone : (es : List Entry) (e : Entry) → take (length (frames_of (es ++ e ∷ [])) - 1) (frames_of (es ++ e ∷ [])) ≡ frames_of es
last_frame_gone es e =
    rw (frames_joined es (e ∷ [])) (take_at (frames_of es) (e.frame ∷ []) (length (frames_of es ++ e.frame ∷ []) - 1) (omega (arith, length-append (frames_of es) (e.frame ∷ []))))

last_number_gone : (es : List Entry) (e : Entry) → trimmed (take (length (frames_of (es ++ e ∷ [])) - 1) (trimmed (numbers_of (es ++ e ∷ [])))) ≡ trimmed (numbers_of es)
last_number_gone es e =
    let size = ap (λ (l : List Queued). length l) (frames_joined es (e ∷ [])) in
    let n = length (frames_of (es ++ e ∷ [])) - 1 in
    trimmed_take n (numbers_of (es ++ e ∷ []))
    ∙ ap (λ l. trimmed (take n l)) (numbers_joined es (e ∷ []))
    ∙ ap trimmed (take_at (numbers_of es) (e.gone ∷ []) n (omega (arith, size, length-append (frames_of es) (e.frame ∷ []), length-numbers es)))

pub view_withdrawn : (es : List Entry) (e : Entry) (r l : ℕ) (b : Bool) (s : ℕ) → last_may_change (of_entries (es ++ e ∷ []) r l b s) ≡ true → of_entries es r l b s ≡ withdrawn (of_entries (es ++ e ∷ []) r l b s)
view_withdrawn es e r l b s may =
    sym (cond-true (last_may_change (of_entries (es ++ e ∷ []) r l b s)) _ _ may
    ∙ ap (λ fs. queue_of b fs r l s (trimmed (take (length (frames_of (es ++ e ∷ [])) - 1) (trimmed (numbers_of (es ++ e ∷ [])))))) (last_frame_gone es e)
    ∙ ap (queue_of b (frames_of es) r l s) (last_number_gone es e))

pub withdrawn_is_queue : (es : List Entry) (e : Entry) (r l : ℕ) (b : Bool) (s : ℕ) → IsQueue (of_entries (es ++ e ∷ []) r l b s) → last_may_change (of_entries (es ++ e ∷ []) r l b s) ≡ true → IsQueue (of_entries es r l b s)
withdrawn_is_queue es e r l false s h may = fresh_is_queue (frames_of es) r l s (trimmed (numbers_of es)) (h.fresh refl) (entries_gone es)
withdrawn_is_queue [] e r l true s h may = absurd (omega (arith, ltb-true 1 (length (frames_of (e ∷ []))) may))
withdrawn_is_queue (k ∷ es) e r l true s h may = begun_is_queue k.frame (frames_of (es ++ e ∷ [])) (frames_of es) r l s true _ _ h (entries_gone (k ∷ es))

-- ---- The first entry

pub finished_is_queue : (es : List Entry) (s : ℕ) → IsQueue (of_entries es 0 0 false s)
finished_is_queue es s = fresh_is_queue (frames_of es) 0 0 s _ (refl, refl) (entries_gone es)

-- ---- Entries that are thrown away

kept_frames : (owners : ℕ → Bool) (es : List Entry) → frames_of (kept_of owners es) ≡ frames_without owners (frames_of es)
kept_frames owners [] = refl
kept_frames owners (e ∷ es) = by (is_request_of owners e.frame) (kept_frames owners es)
  where
    by : (c : Bool) → frames_of (kept_of owners es) ≡ frames_without owners (frames_of es)
        → frames_of (cond c (kept_of owners es) (record e { gone = e.gone + gone_before owners es } ∷ kept_of owners es)) ≡ cond (not c) (e.frame ∷ frames_without owners (frames_of es)) (frames_without owners (frames_of es))
    by true h = h
    by false h = ap (λ l. e.frame ∷ l) h

-- the numbers may be trimmed before
gone_first_trimmed : (owners : ℕ → Bool) (fs : List Queued) (ns : List ℕ) → gone_first owners fs (trimmed ns) ≡ gone_first owners fs ns
gone_first_trimmed owners [] ns = refl
gone_first_trimmed owners (f ∷ fs) ns =
    ap (λ n. cond (is_request_of owners f) n 0)
    (ap (λ n. length (written f.message) + n + gone_first owners fs (drop 1 (trimmed ns))) (first_trimmed ns)
    ∙ ap (λ n. length (written f.message) + first_gone ns + n) (ap (gone_first owners fs) (drop_trimmed ns) ∙ gone_first_trimmed owners fs (drop 1 ns)))

gone_behind_trimmed : (owners : ℕ → Bool) (fs : List Queued) (ns : List ℕ) → gone_behind owners fs (trimmed ns) ≡ gone_behind owners fs ns
gone_behind_trimmed owners [] ns = refl
gone_behind_trimmed owners (f ∷ fs) ns =
    let rest = ap (gone_behind owners fs) (drop_trimmed ns) ∙ gone_behind_trimmed owners fs (drop 1 ns) in
    let first = ap (gone_first owners fs) (drop_trimmed ns) ∙ gone_first_trimmed owners fs (drop 1 ns) in
    ap (λ l. cond (is_request_of owners f) l (in_front (first_gone (trimmed ns) + gone_first owners fs (drop 1 (trimmed ns))) l)) rest
    ∙ ap (λ n. cond (is_request_of owners f) (gone_behind owners fs (drop 1 ns)) (in_front n (gone_behind owners fs (drop 1 ns)))) (ap (λ n. n + gone_first owners fs (drop 1 (trimmed ns))) (first_trimmed ns) ∙ ap (λ n. first_gone ns + n) first)

kept_numbers : (owners : ℕ → Bool) (es : List Entry) → trimmed (numbers_of (kept_of owners es)) ≡ gone_behind owners (frames_of es) (numbers_of es)
kept_numbers owners [] = refl
kept_numbers owners (e ∷ es) = by (is_request_of owners e.frame) (kept_numbers owners es)
  where
    by : (c : Bool) → trimmed (numbers_of (kept_of owners es)) ≡ gone_behind owners (frames_of es) (numbers_of es)
        → trimmed (numbers_of (cond c (kept_of owners es) (record e { gone = e.gone + gone_before owners es } ∷ kept_of owners es)))
        ≡ cond c (gone_behind owners (frames_of es) (numbers_of es)) (in_front (e.gone + gone_before owners es) (gone_behind owners (frames_of es) (numbers_of es)))
    by true h = h
    by false h = ap (in_front (e.gone + gone_before owners es)) h

kept_gone_behind : (owners : ℕ → Bool) (es : List Entry) → trimmed (numbers_of (kept_of owners es)) ≡ gone_behind owners (frames_of es) (trimmed (numbers_of es))
kept_gone_behind owners es = kept_numbers owners es ∙ sym (gone_behind_trimmed owners (frames_of es) (numbers_of es))

kept_after_first : (owners : ℕ → Bool) (e : Entry) (es : List Entry)
    → trimmed ((e.gone + gone_before owners es) ∷ numbers_of (kept_of owners es))
    ≡ in_front (first_gone (trimmed (numbers_of (e ∷ es))) + gone_first owners (frames_of es) (drop 1 (trimmed (numbers_of (e ∷ es))))) (gone_behind owners (frames_of es) (drop 1 (trimmed (numbers_of (e ∷ es)))))
kept_after_first owners e es =
    let ns = numbers_of (e ∷ es) in
    let first = first_trimmed ns in
    let tail = drop_trimmed ns in
    let lead = ap (gone_first owners (frames_of es)) tail ∙ gone_first_trimmed owners (frames_of es) (numbers_of es) in
    let rest = ap (gone_behind owners (frames_of es)) tail ∙ gone_behind_trimmed owners (frames_of es) (numbers_of es) in
    ap (in_front (e.gone + gone_before owners es)) (kept_numbers owners es ∙ sym rest)
    ∙ ap (λ n. in_front n (gone_behind owners (frames_of es) (drop 1 (trimmed ns)))) (ap (λ n. e.gone + n) (sym lead) ∙ ap (λ n. n + gone_first owners (frames_of es) (drop 1 (trimmed ns))) (sym first))

-- what is thrown away of a queue whose first frame hasn't begun, and of one whose first frame has
pub view_thrown : (owners : ℕ → Bool) (es : List Entry) (r l s : ℕ) → of_entries (kept_of owners es) r l false s ≡ without (of_entries es r l false s) owners
view_thrown owners es r l s =
    ap (λ fs. queue_of false fs r l s (trimmed (numbers_of (kept_of owners es)))) (kept_frames owners es)
    ∙ ap (queue_of false (frames_without owners (frames_of es)) r l s) (kept_gone_behind owners es)

pub view_thrown_after : (owners : ℕ → Bool) (e : Entry) (es : List Entry) (r l s : ℕ) → of_entries (record e { gone = e.gone + gone_before owners es } ∷ kept_of owners es) r l true s ≡ without (of_entries (e ∷ es) r l true s) owners
view_thrown_after owners e es r l s =
    ap (λ fs. queue_of true (e.frame ∷ fs) r l s (trimmed ((e.gone + gone_before owners es) ∷ numbers_of (kept_of owners es)))) (kept_frames owners es)
    ∙ ap (queue_of true (e.frame ∷ frames_without owners (frames_of es)) r l s) (kept_after_first owners e es)

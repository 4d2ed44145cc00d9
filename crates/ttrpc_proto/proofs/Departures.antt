-- Over any allowed history, what leaves is the written forms of the frames that depart, in order, and each frame that
-- is queued departs or is thrown away.
use Rattle.std.proofs.Common.{◌≡◌, ◌+◌, ◌≤◌, ◌&&◌, inl, inr, not, filter, ℕ, Bool, true, false, cond, nat_lt, List, [], ◌∷◌, ◌++◌, length, take, drop, arith, sym, ap, ◌∙◌, refl, subst, length-drop, append_assoc, IsPermutation}
use Rattle.std.specs.List.{AllByRecursion}
use Rattle.std.proofs.lemmas.Bool.{ltb-false}
use Rattle.std.proofs.lemmas.List.{take_all, take-append-drop, take-append-le, drop-append-le, drop-drop}
use Rattle.std.proofs.lemmas.List.Sorted.{IsPermutation-refl, IsPermutation-cons, IsPermutation-trans, IsPermutation-middle}
use Rattle.ttrpc_proto.specs.declared.framing.outgoing.Queued.{Queued}
use Rattle.ttrpc_proto.specs.Framing.Queue.{Queue, IsQueue, written, written_all, first_open, unsent, with_frame, with_lent, report_first, ticket_after, after_report, begun_count, is_request_of, frames_without, gone_after, without, Happening, Placed, Lent, Reported, Thrown, after, after_all, all_bytes_left, report_finishes, departing, thrown_by, thrown, placed, MayHappen, Allowed, IsMerge}
use Rattle.ttrpc_proto.proofs.Queues.{queue_of, with_frame_is_queue, with_lent_is_queue, after_report_is_queue, without_is_queue, report_fits}

pub after_is_queue : (q : Queue) (h : Happening) → IsQueue q → MayHappen q h → IsQueue (after q h)
after_is_queue q (Placed f) valid may = with_frame_is_queue q f valid
after_is_queue q (Lent n) valid may = with_lent_is_queue q n valid may
after_is_queue q (Reported n) valid may = after_report_is_queue q n valid may
after_is_queue q (Thrown owners) valid may = without_is_queue q owners valid

-- ---- The bytes that leave

abbrev Departs : Queued → Queue → List Happening → Type 0
Departs f q hs = (rest : List Queued) × (departing q hs ≡ f ∷ rest)

report_departs : (c : Bool) (f : Queued) (q r : Queue) (hs : List Happening) → Departs f q hs → (rest : List Queued) × (cond c [] (f ∷ []) ++ departing (cond c q r) hs ≡ f ∷ rest)
report_departs true f q r hs d = d
report_departs false f q r hs d = (departing r hs, refl)

-- a first frame that has begun departs first
begun_departs : (hs : List Happening) (f : Queued) (fs : List Queued) (r l s : ℕ) (g : List ℕ) → Departs f (queue_of true (f ∷ fs) r l s g) hs
begun_departs [] f fs r l s g = (fs, refl)
begun_departs (Placed k ∷ hs) f fs r l s g = begun_departs hs f (fs ++ k ∷ []) r l s g
begun_departs (Lent n ∷ hs) f fs r l s g = begun_departs hs f fs r n s g
begun_departs (Reported n ∷ hs) f fs r l s g = report_departs (nat_lt (r + n) (length (written f.message))) f (queue_of true (f ∷ fs) (r + n) 0 s g) (queue_of false fs 0 0 (ticket_after f.ticket s) (drop 1 g)) hs (begun_departs hs f fs (r + n) 0 s g)
begun_departs (Thrown owners ∷ hs) f fs r l s g = begun_departs hs f (frames_without owners fs) r l s (gone_after owners true (f ∷ fs) g)

-- n bytes from a place on, and what stands behind them
pieces : (w x : List ℕ) (r n : ℕ) → r + n ≤ length w → take n (drop r w) ++ drop (r + n) (w ++ x) ≡ drop r (w ++ x)
pieces w x r n le =
    let inside : r ≤ length w = omega arith in
    let front : n ≤ length (drop r w) = omega (arith, length-drop r w) in
    ap (λ l. take n (drop r w) ++ l) (sym (drop-drop n r (w ++ x)))
    ∙ ap (λ l. l ++ drop n (drop r (w ++ x))) (sym (take-append-le n (drop r w) x front) ∙ ap (take n) (sym (drop-append-le r w x inside)))
    ∙ take-append-drop n (drop r (w ++ x))

part_leaves : (b : Bool) (f : Queued) (fs : List Queued) (r l s n : ℕ) (g : List ℕ) (hs : List Happening) → IsQueue (queue_of b (f ∷ fs) r l s g) → n ≤ l → r + n ≤ length (written f.message)
    → take n (drop r (written f.message)) ++ drop (r + n) (written_all (departing (queue_of b (f ∷ fs) (r + n) 0 s g) hs)) ≡ drop r (written_all (departing (queue_of b (f ∷ fs) (r + n) 0 s g) hs))
part_leaves true f fs r l s n g hs valid le inside =
    let d = begun_departs hs f fs (r + n) 0 s g in
    let D = departing (queue_of true (f ∷ fs) (r + n) 0 s g) hs in
    subst (λ (ds : List Queued). take n (drop r (written f.message)) ++ drop (r + n) (written_all ds) ≡ drop r (written_all ds)) (sym d.1) (pieces (written f.message) (written_all d.0) r n inside)
part_leaves false f fs r l s n g hs valid le inside =
    let none : n ≡ 0 = let z = (valid.fresh refl).1 in omega arith in
    let same : r + n ≡ r = omega arith in
    ap (λ k. take k (drop r (written f.message)) ++ drop (r + n) (written_all (departing (queue_of false (f ∷ fs) (r + n) 0 s g) hs))) none
    ∙ ap (λ k. drop k (written_all (departing (queue_of false (f ∷ fs) (r + n) 0 s g) hs))) same

abbrev Leaves : List ℕ → ℕ → List Queued → Queue → List Happening → Type 0
Leaves piece r finished q hs = piece ++ drop q.reported (written_all (departing q hs)) ≡ drop r (written_all (finished ++ departing q hs))

report_cases : (c : Bool) (piece : List ℕ) (r : ℕ) (f : Queued) (p q : Queue) (hs : List Happening) → (c ≡ true → Leaves piece r [] p hs) → (c ≡ false → Leaves piece r (f ∷ []) q hs) → Leaves piece r (cond c [] (f ∷ [])) (cond c p q) hs
report_cases true piece r f p q hs yes' no' = yes' refl
report_cases false piece r f p q hs yes' no' = no' refl

report_leaves : (b : Bool) (fs : List Queued) (r l s n : ℕ) (g : List ℕ) (hs : List Happening) → IsQueue (queue_of b fs r l s g) → n ≤ l → Leaves (take n (first_open fs r)) r (report_finishes fs (r + n)) (report_first fs (r + n) b s g) hs
report_leaves b [] r l s n g hs valid le =
    let none : r ≡ 0 = valid.within in
    ap (λ piece. piece ++ written_all (departing (report_first [] (r + n) b s g) hs)) (take_all n [] (omega arith))
    ∙ ap (λ k. drop k (written_all (departing (report_first [] (r + n) b s g) hs))) (sym none)
report_leaves b (f ∷ fs) r l s n g hs valid le =
    let w = written f.message in
    let inside : r + n ≤ length w = report_fits (queue_of b (f ∷ fs) r l s g) n valid le in
    report_cases (nat_lt (r + n) (length w)) (take n (drop r w)) r f (queue_of b (f ∷ fs) (r + n) 0 s g) (queue_of false fs 0 0 (ticket_after f.ticket s) (drop 1 g)) hs
    (λ _. part_leaves b f fs r l s n g hs valid le inside)
    (λ e.
    let whole : length w ≤ r + n = ltb-false (r + n) (length w) e in
    ap (λ piece. piece ++ written_all (departing (queue_of false fs 0 0 (ticket_after f.ticket s) (drop 1 g)) hs)) (take_all n (drop r w) (omega (arith, length-drop r w)))
    ∙ sym (drop-append-le r w (written_all (departing (queue_of false fs 0 0 (ticket_after f.ticket s) (drop 1 g)) hs)) (omega arith)))

pub bytes_are_written : (hs : List Happening) (q : Queue) → IsQueue q → Allowed q hs → all_bytes_left q hs ++ unsent (after_all q hs) ≡ drop q.reported (written_all (departing q hs))
bytes_are_written [] q valid may = refl
bytes_are_written (Placed f ∷ hs) q valid may = bytes_are_written hs (with_frame q f) (after_is_queue q (Placed f) valid may.0) may.1
bytes_are_written (Lent n ∷ hs) q valid may = bytes_are_written hs (with_lent q n) (after_is_queue q (Lent n) valid may.0) may.1
bytes_are_written (Reported n ∷ hs) q valid may =
    append_assoc (take n (first_open q.frames q.reported)) (all_bytes_left (after_report q n) hs) (unsent (after_all (after_report q n) hs))
    ∙ ap (λ l. take n (first_open q.frames q.reported) ++ l) (bytes_are_written hs (after_report q n) (after_is_queue q (Reported n) valid may.0) may.1)
    ∙ report_leaves q.begun q.frames q.reported q.lent q.sent n q.gone hs valid may.0
bytes_are_written (Thrown owners ∷ hs) q valid may = bytes_are_written hs (without q owners) (after_is_queue q (Thrown owners) valid may.0) may.1

-- ---- The frames that depart and those that are thrown away

merge_of_one : {X : Type 0} (xs : List X) → IsMerge xs [] (xs ++ [])
merge_of_one [] = (refl, refl)
merge_of_one (x ∷ xs) = inl (xs, refl, merge_of_one xs)

abbrev Accounts : List Queued → List Queued → List Queued → Type 0
Accounts departed away all = (ys : List Queued) × IsMerge departed ys all × IsPermutation ys away

-- one more item of the second list
merge_more : {X : Type 0} (cs bs : List X) (g : X) (xs ys : List X) → IsMerge xs ys (cs ++ bs) → (zs : List X) × IsMerge xs zs (cs ++ g ∷ bs) × IsPermutation zs (g ∷ ys)
merge_more [] bs g xs ys m = (g ∷ ys, inr (ys, refl, m), IsPermutation-refl (g ∷ ys))
merge_more (a ∷ cs) bs g xs ys (inl p) = let r = merge_more cs bs g p.0 ys p.2 in (r.0, inl (p.0, p.1, r.1), r.2)
merge_more (a ∷ cs) bs g xs ys (inr p) =
    let r = merge_more cs bs g xs p.0 p.2 in
    (a ∷ r.0, inr (r.0, refl, r.1), subst (λ l. IsPermutation (a ∷ r.0) (g ∷ l)) (sym p.1) (IsPermutation-trans (a ∷ r.0) (a ∷ g ∷ p.0) (g ∷ a ∷ p.0) (IsPermutation-cons a r.0 (g ∷ p.0) r.2) (IsPermutation-middle (a ∷ []) g p.0)))

report_accounts : (c : Bool) (f : Queued) (fs ps ys : List Queued) (n s : ℕ) (b : Bool) (g : List ℕ) (hs : List Happening) → IsMerge (departing (cond c (queue_of b (f ∷ fs) n 0 s g) (queue_of false fs 0 0 (ticket_after f.ticket s) (drop 1 g))) hs) ys ((cond c (queue_of b (f ∷ fs) n 0 s g) (queue_of false fs 0 0 (ticket_after f.ticket s) (drop 1 g))).frames ++ ps) → IsMerge (cond c [] (f ∷ []) ++ departing (cond c (queue_of b (f ∷ fs) n 0 s g) (queue_of false fs 0 0 (ticket_after f.ticket s) (drop 1 g))) hs) ys (f ∷ fs ++ ps)
report_accounts true f fs ps ys n s b g hs m = m
report_accounts false f fs ps ys n s b g hs m = inl (departing (queue_of false fs 0 0 (ticket_after f.ticket s) (drop 1 g)) hs, refl, m)

finish_accounts : (fs ps ys : List Queued) (n s : ℕ) (b : Bool) (g : List ℕ) (hs : List Happening) → IsMerge (departing (report_first fs n b s g) hs) ys ((report_first fs n b s g).frames ++ ps) → IsMerge (report_finishes fs n ++ departing (report_first fs n b s g) hs) ys (fs ++ ps)
finish_accounts [] ps ys n s b g hs m = m
finish_accounts (f ∷ fs) ps ys n s b g hs m = report_accounts (nat_lt n (length (written f.message))) f fs ps ys n s b g hs m

-- with the frames that are thrown away
throw_at : (c : Bool) (f : Queued) (front fs gone left ps departed away : List Queued)
    → ((start : List Queued) → Accounts departed away (start ++ (left ++ ps)) → Accounts departed (gone ++ away) (start ++ (fs ++ ps)))
    → Accounts departed away (front ++ (cond (not c) (f ∷ left) left ++ ps)) → Accounts departed (cond c (f ∷ gone) gone ++ away) (front ++ (f ∷ fs ++ ps))
throw_at true f front fs gone left ps departed away behind h =
    let k = behind front h in
    let r = merge_more front (fs ++ ps) f departed k.0 k.1 in
    (r.0, r.1, IsPermutation-trans r.0 (f ∷ k.0) (f ∷ gone ++ away) r.2 (IsPermutation-cons f k.0 (gone ++ away) k.2))
throw_at false f front fs gone left ps departed away behind h =
    let k = behind (front ++ f ∷ []) (subst (Accounts departed away) (sym (append_assoc front (f ∷ []) (left ++ ps))) h) in
    subst (Accounts departed (gone ++ away)) (append_assoc front (f ∷ []) (fs ++ ps)) k

throw_accounts : (owners : ℕ → Bool) (fs ps departed away front : List Queued) → Accounts departed away (front ++ (frames_without owners fs ++ ps))
    → Accounts departed (filter (is_request_of owners) fs ++ away) (front ++ (fs ++ ps))
throw_accounts owners [] ps departed away front h = h
throw_accounts owners (f ∷ fs) ps departed away front h =
    throw_at (is_request_of owners f) f front fs (filter (is_request_of owners) fs) (frames_without owners fs) ps departed away (throw_accounts owners fs ps departed away) h

pub all_are_accounted : (hs : List Happening) (q : Queue) → Accounts (departing q hs) (thrown q hs) (q.frames ++ placed hs)
all_are_accounted [] q = ([], merge_of_one q.frames, IsPermutation-refl [])
all_are_accounted (Placed f ∷ hs) q = subst (Accounts (departing (with_frame q f) hs) (thrown (with_frame q f) hs)) (append_assoc q.frames (f ∷ []) (placed hs)) (all_are_accounted hs (with_frame q f))
all_are_accounted (Lent n ∷ hs) q = all_are_accounted hs (with_lent q n)
all_are_accounted (Reported n ∷ hs) q = let h = all_are_accounted hs (after_report q n) in (h.0, finish_accounts q.frames (placed hs) h.0 (q.reported + n) q.sent q.begun q.gone hs h.1, h.2)
all_are_accounted (Thrown owners ∷ hs) q =
    let n = begun_count q in
    let front = take n q.frames in
    let fs = drop n q.frames in
    let left = without q owners in
    subst (λ all. Accounts (departing left hs) (thrown_by q (Thrown owners) ++ thrown left hs) (all ++ placed hs)) (take-append-drop n q.frames)
    (subst (Accounts (departing left hs) (thrown_by q (Thrown owners) ++ thrown left hs)) (sym (append_assoc front fs (placed hs)))
    (throw_accounts owners fs (placed hs) (departing left hs) (thrown left hs) front
    (subst (Accounts (departing left hs) (thrown left hs)) (append_assoc front (frames_without owners fs) (placed hs)) (all_are_accounted hs left))))

-- ---- What is thrown away

abbrev AreRequests : List Queued → Type 0
AreRequests fs = AllByRecursion (λ f. f.is_unary_request ≡ true) fs

request_first : (a b : Bool) (f : Queued) (found : List Queued) → f.is_unary_request ≡ a → AreRequests found → AreRequests (cond (a && b) (f ∷ found) found)
request_first true true f found is h = (is, h)
request_first true false f found is h = h
request_first false b f found is h = h

requests_are : (owners : ℕ → Bool) (fs : List Queued) → AreRequests (filter (is_request_of owners) fs)
requests_are owners [] = tt
requests_are owners (f ∷ fs) = request_first f.is_unary_request (owners f.owner) f (filter (is_request_of owners) fs) refl (requests_are owners fs)

requests_append : (fs gs : List Queued) → AreRequests fs → AreRequests gs → AreRequests (fs ++ gs)
requests_append [] gs h i = i
requests_append (f ∷ fs) gs h i = (h.0, requests_append fs gs h.1 i)

pub thrown_are_requests : (hs : List Happening) (q : Queue) → AreRequests (thrown q hs)
thrown_are_requests [] q = tt
thrown_are_requests (Placed f ∷ hs) q = thrown_are_requests hs (with_frame q f)
thrown_are_requests (Lent n ∷ hs) q = thrown_are_requests hs (with_lent q n)
thrown_are_requests (Reported n ∷ hs) q = thrown_are_requests hs (after_report q n)
thrown_are_requests (Thrown owners ∷ hs) q =
    let fs = drop (begun_count q) q.frames in
    requests_append (filter (is_request_of owners) fs) (thrown (without q owners) hs) (requests_are owners fs) (thrown_are_requests hs (without q owners))

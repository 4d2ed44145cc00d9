-- The frames still to be written: what each call leaves is a queue, and what the calls' bodies compute is what is
-- stated.
use Rattle.std.proofs.Common.{◌≡◌, ◌+◌, ◌-◌, ◌<◌, ◌≤◌, ◌||◌, ◌&&◌, not, ℕ, Bool, true, false, nat_lt, nat_eq, cond, sum, subst, suc, min, List, [], ◌∷◌, ◌++◌, length, take, drop, arith, sym, ap, ◌∙◌, refl, ⊎_elim, length-append, length-take, length-drop, append_assoc}
use Rattle.std.proofs.Math.Seq.{take-append-add, drop-append-add}
use Rattle.std.proofs.lemmas.Bool.{cases_lt, cond_both, cond-true, cond-false, ltb-true, lt-ltb, le-ltb, le-leb}
use Rattle.std.proofs.lemmas.Bool.Decides.{nat_tests}
use Rattle.std.proofs.lemmas.List.Sums.{sum_by-cons}
use Rattle.std.proofs.lemmas.List.{take_at, take_all, take_rest, append-nil, drop_at, take-append-le, drop-append-le, drop_all, drop-drop}
use Rattle.ttrpc_proto.specs.declared.framing.gen_message.GenMessage.{GenMessage}
use Rattle.ttrpc_proto.specs.declared.framing.outgoing.Queued.{Queued}
use Rattle.ttrpc_proto.specs.declared.framing.outgoing.TheConstants.{OUTGOING_LENGTH_MAX}
use Rattle.ttrpc_proto.specs.Framing.Queue.{written, written_all, Queue, IsQueue, IsWithin, first_open, open_part, first_gone, in_front, trimmed, held, free, unsent, with_frame, with_lent, report_first, first_ticket, after_report, last_may_change, with_payload, last_filled, may_fill, filled, withdrawn, is_request_of, gone_first, gone_behind, without, frames_without}
use Rattle.ttrpc_proto.specs.Framing.Header.{header_bytes}

pub length-written : (m : GenMessage) → length (written m) ≡ 10 + length m.payload
unfolding written
length-written m = omega arith

pub written_is : (m : GenMessage) → written m ≡ header_bytes m.header ++ m.payload
unfolding written
written_is m = refl

-- ---- Two copies, one behind the other

-- two lists joined, from a place on
drop-append : {A : Type 0} (m n : ℕ) (xs ys : List A) → m ≡ min n (length xs) → drop n (xs ++ ys) ≡ drop m xs ++ drop (n - m) ys
drop-append m n xs ys e =
    ⊎_elim
    (λ h.
    let same : m ≡ n = omega arith in
    let none : n - n ≡ 0 = omega arith in
    let le : n ≤ length xs = omega arith in
    rw (same, none) (drop-append-le n xs ys le))
    (λ h.
    let same : m ≡ length xs = omega arith in
    let n_is : n ≡ length xs + (n - length xs) = omega arith in
    let whole : length xs ≤ length xs = omega arith in
    rw same (ap (λ k. drop k (xs ++ ys)) n_is ∙ drop-append-add xs ys (n - length xs) ∙ sym (ap (λ l. l ++ drop (n - length xs) ys) (drop_all (length xs) xs whole))))
    (cases_lt n (length xs))

-- as many as fit of one list, and of another behind it
take_both : {A : Type 0} (a c : ℕ) (xs ys : List A) → a ≤ length xs → (a < length xs → c ≡ 0) → take (a + c) (xs ++ ys) ≡ take a xs ++ take c ys
take_both a c xs ys le all =
    ⊎_elim
    (λ h.
    let none : c ≡ 0 = all h in
    let sum : a + 0 ≡ a = omega arith in
    rw (none, sum) (take-append-le a xs ys le ∙ sym (append-nil (take a xs))))
    (λ h.
    let same : a ≡ length xs = omega arith in
    let whole : length xs ≤ length xs = omega arith in
    rw same (take-append-add xs ys c ∙ ap (λ l. l ++ take c ys) (sym (take_all (length xs) xs whole))))
    (cases_lt a (length xs))

-- the buffer b after as many as fit of xs were copied to its front, and then as many as fit of ys behind them
module _ (xs ys b front back : List ℕ) (a c : ℕ) (a_is : a ≡ min (length b) (length xs)) (front_is : front ≡ take a xs ++ drop a b) (c_is : c ≡ min (length (drop a front)) (length ys)) (back_is : back ≡ take c ys ++ drop c (drop a front)) where
  front_length : length (take a xs) ≡ a
  front_length = simp length-take (omega arith)

  front_taken : take a front ≡ take a xs
  front_taken = rw front_is (take_at (take a xs) (drop a b) a front_length)

  front_dropped : drop a front ≡ drop a b
  front_dropped = rw front_is (drop_at (take a xs) (drop a b) a front_length)

  left : length (drop a front) ≡ length b - a
  left = ap length front_dropped ∙ length-drop a b

  back_length : length (take c ys) ≡ c
  back_length = let l = left in simp length-take (omega arith)

  joined : take a front ++ back ≡ (take a xs ++ take c ys) ++ drop (a + c) b
  joined = rw (front_taken, back_is, front_dropped, drop-drop c a b) (sym (append_assoc (take a xs) (take c ys) (drop (a + c) b)))

  both_length : length (take a xs ++ take c ys) ≡ a + c
  both_length = length-append (take a xs) (take c ys) ∙ ap (λ n. n + length (take c ys)) front_length ∙ ap (λ n. a + n) back_length

  pub two_copies_count : a + c ≡ min (length b) (length (xs ++ ys))
  two_copies_count = let l = left in omega (arith, length-append xs ys)

  pub two_copies_taken : take (a + c) (take a front ++ back) ≡ take (a + c) (xs ++ ys)
  two_copies_taken =
      let l = left in
      ap (take (a + c)) joined ∙ take_at (take a xs ++ take c ys) (drop (a + c) b) (a + c) both_length
      ∙ sym (take_both a c xs ys (omega arith) (λ h. omega arith))

  pub two_copies_left : drop (a + c) (take a front ++ back) ≡ drop (a + c) b
  two_copies_left = ap (drop (a + c)) joined ∙ drop_at (take a xs ++ take c ys) (drop (a + c) b) (a + c) both_length

-- what stands in a frame's bytes from a place on: a part of the header, and a part of the payload
abbrev pub header_part : List ℕ → ℕ → List ℕ
header_part header i = take (10 - i) (drop i header)

abbrev pub rest_of : List ℕ → ℕ → List ℕ
rest_of xs i = take (length xs - i) (drop i xs)

module _ (m : GenMessage) (header payload b front back : List ℕ) (start i a c : ℕ) (header_is : header ≡ header_bytes m.header) (payload_is : payload ≡ m.payload) (i_is : i ≡ min start 10) (a_is : a ≡ min (length b) (length (header_part header i))) (front_is : front ≡ take a (header_part header i) ++ drop a b) (c_is : c ≡ min (length (rest_of front a)) (length (rest_of payload (start - i)))) (back_is : back ≡ take c (rest_of payload (start - i)) ++ drop c (rest_of front a)) where
  header_length : length header ≡ 10
  header_length = ap length header_is

  parts : header_part header i ++ rest_of payload (start - i) ≡ drop start (written m)
  parts =
      let size = header_length in
      let i_here : i ≡ min start (length header) = omega arith in
      let all : length (drop i header) ≤ 10 - i = omega (arith, length-drop i header) in
      ap (λ l. l ++ rest_of payload (start - i)) (take_all (10 - i) (drop i header) all)
      ∙ ap (λ l. drop i header ++ l) (take_rest payload (start - i))
      ∙ sym (drop-append i start header payload i_here)
      ∙ ap (drop start) (ap (λ l. l ++ payload) header_is ∙ ap (λ l. header_bytes m.header ++ l) payload_is ∙ sym (written_is m))

  c_here : c ≡ min (length (drop a front)) (length (rest_of payload (start - i)))
  c_here = c_is ∙ ap (λ l. min (length l) (length (rest_of payload (start - i)))) (take_rest front a)

  back_here : back ≡ take c (rest_of payload (start - i)) ++ drop c (drop a front)
  back_here = back_is ∙ ap (λ l. take c (rest_of payload (start - i)) ++ drop c l) (take_rest front a)

  buffer_is : take a front ++ (back ++ drop (length front - a) (drop a front)) ≡ take a front ++ back
  buffer_is =
      let all : length (drop a front) ≤ length front - a = omega (arith, length-drop a front) in
      ap (λ l. take a front ++ (back ++ l)) (drop_all (length front - a) (drop a front) all) ∙ ap (λ l. take a front ++ l) (append-nil back)

  pub copied_count : a + c ≡ min (length b) (length (written m) - start)
  copied_count =
      two_copies_count (header_part header i) (rest_of payload (start - i)) b front back a c a_is front_is c_here back_here
      ∙ ap (λ l. min (length b) (length l)) parts ∙ ap (min (length b)) (length-drop start (written m))

  pub copied_taken : take (a + c) (take a front ++ (back ++ drop (length front - a) (drop a front))) ≡ take (a + c) (drop start (written m))
  copied_taken =
      ap (take (a + c)) buffer_is
      ∙ two_copies_taken (header_part header i) (rest_of payload (start - i)) b front back a c a_is front_is c_here back_here
      ∙ ap (take (a + c)) parts

  pub copied_left : drop (a + c) (take a front ++ (back ++ drop (length front - a) (drop a front))) ≡ drop (a + c) b
  copied_left = ap (drop (a + c)) buffer_is ∙ two_copies_left (header_part header i) (rest_of payload (start - i)) b front back a c a_is front_is c_here back_here

-- ---- Numbers without zeros at their end

-- the numbers of frames: no more than these, and none is 0 at the end
pub record AreGone (count : ℕ) (gone : List ℕ) : Type 0 where
  pub short : length gone ≤ count
  pub no_zero : trimmed gone ≡ gone

pub gone_of : (q : Queue) → IsQueue q → AreGone (length q.frames) q.gone
gone_of q h = record { short = h.gone; no_zero = h.no_zero }

short_in_front : (n : ℕ) (ns : List ℕ) → length (in_front n ns) ≤ 1 + length ns
short_in_front n [] = cond_both (nat_eq n 0) _ _ (λ (l : List ℕ). length l ≤ 1) (λ _. omega arith) (λ _. omega arith)
short_in_front n (m ∷ ms) = omega arith

trimmed_in_front : (n : ℕ) (ns : List ℕ) → trimmed ns ≡ ns → trimmed (in_front n ns) ≡ in_front n ns
trimmed_in_front n [] h = by (nat_eq n 0) refl
  where
    by : (c : Bool) → nat_eq n 0 ≡ c → trimmed (cond c [] (n ∷ [])) ≡ cond c [] (n ∷ [])
    by true e = refl
    by false e = ap (λ (c : Bool). cond c [] (n ∷ [])) e
trimmed_in_front n (m ∷ ms) h = ap (in_front n) h

pub sum_cons : (n : ℕ) (ns : List ℕ) → sum (n ∷ ns) ≡ n + sum ns
sum_cons n ns = sum_by-cons (λ x. x) n ns

pub sum_in_front : (n : ℕ) (ns : List ℕ) → sum (in_front n ns) ≡ n + sum ns
sum_in_front n [] = by (nat_eq n 0) refl
  where
    by : (c : Bool) → nat_eq n 0 ≡ c → sum (cond c [] (n ∷ [])) ≡ n + 0
    by true e = grind (arith, nat_tests, e)
    by false e = sum_cons n []
sum_in_front n (m ∷ ms) = sum_cons n (m ∷ ms)

pub gone_in_front : (count n : ℕ) (ns : List ℕ) → AreGone count ns → AreGone (suc count) (in_front n ns)
gone_in_front count n ns h = record { short = omega (arith, short_in_front n ns, h.short); no_zero = trimmed_in_front n ns h.no_zero }

no_gone : (count : ℕ) → AreGone count []
no_gone count = record { short = omega arith; no_zero = refl }

pub trimmed_is_gone : (ns : List ℕ) → AreGone (length ns) (trimmed ns)
trimmed_is_gone [] = no_gone 0
trimmed_is_gone (n ∷ ns) = gone_in_front (length ns) n (trimmed ns) (trimmed_is_gone ns)

pub sum_trimmed : (ns : List ℕ) → sum (trimmed ns) ≡ sum ns
sum_trimmed [] = refl
sum_trimmed (n ∷ ns) = sum_in_front n (trimmed ns) ∙ ap (λ k. n + k) (sum_trimmed ns) ∙ sym (sum_cons n ns)

-- without the first of them
tail_of_front : (n : ℕ) (ns : List ℕ) → drop 1 (in_front n ns) ≡ ns
tail_of_front n [] = cond_both (nat_eq n 0) _ _ (λ (l : List ℕ). drop 1 l ≡ []) (λ _. refl) (λ _. refl)
tail_of_front n (m ∷ ms) = refl

pub drop_trimmed : (ns : List ℕ) → drop 1 (trimmed ns) ≡ trimmed (drop 1 ns)
drop_trimmed [] = refl
drop_trimmed (n ∷ ns) = tail_of_front n (trimmed ns)

first_of_front : (n : ℕ) (ns : List ℕ) → first_gone (in_front n ns) ≡ n
first_of_front n [] = by (nat_eq n 0) refl
  where
    by : (c : Bool) → nat_eq n 0 ≡ c → first_gone (cond c [] (n ∷ [])) ≡ n
    by true e = grind (arith, nat_tests, e)
    by false e = refl
first_of_front n (m ∷ ms) = refl

pub first_trimmed : (ns : List ℕ) → first_gone (trimmed ns) ≡ first_gone ns
first_trimmed [] = refl
first_trimmed (n ∷ ns) = first_of_front n (trimmed ns)

pub gone_after_first : {count : ℕ} {ns : List ℕ} → AreGone (suc count) ns → AreGone count (drop 1 ns)
gone_after_first {count} {ns} h = record { short = let l = h.short in omega (arith, length-drop 1 ns); no_zero = sym (drop_trimmed ns) ∙ ap (drop 1) h.no_zero }

-- the first and the rest are all
pub sum_of_first : (ns : List ℕ) → first_gone ns + sum (drop 1 ns) ≡ sum ns
sum_of_first [] = refl
sum_of_first (n ∷ ns) = sym (sum_cons n ns)

-- ---- What each call leaves is a queue

within_more : (fs : List Queued) (f : Queued) (n : ℕ) → IsWithin fs n → IsWithin (fs ++ f ∷ []) n
within_more [] f n h = omega (arith, length-written f.message)
within_more (g ∷ fs) f n h = h

open_more : (fs : List Queued) (f : Queued) (n : ℕ) → length (first_open fs n) ≤ length (first_open (fs ++ f ∷ []) n)
open_more [] f n = omega arith
open_more (g ∷ fs) f n = omega arith

never_empty : {A : Type 0} (xs : List A) (x : A) → xs ++ x ∷ [] ≡ [] → ⊥
never_empty [] x e = cc
never_empty (y ∷ ys) x e = cc

pub with_frame_is_queue : (q : Queue) (f : Queued) → IsQueue q → IsQueue (with_frame q f)
with_frame_is_queue q f h = record {
  within = within_more q.frames f q.reported h.within;
  lent = omega (arith, open_more q.frames f q.reported, h.lent);
  fresh = h.fresh;
  none = λ e. absurd (never_empty q.frames f e);
  gone = omega (arith, h.gone, length-append q.frames (f ∷ []));
  no_zero = h.no_zero;
}

or_false : (a b : Bool) → a || b ≡ false → (a ≡ false) × (b ≡ false)
or_false true b e = absurd (cc)
or_false false b e = (refl, e)

pub with_lent_is_queue : (q : Queue) (n : ℕ) → IsQueue q → n ≤ length (open_part q) → IsQueue (with_lent q n)
with_lent_is_queue q n h le = record {
  within = h.within;
  lent = le;
  fresh = λ e. let p = or_false q.begun (nat_lt 0 n) e in ((h.fresh p.0).0, grind (arith, nat_tests, p.1));
  none = λ e. let z : n ≤ 0 = subst (λ fs. n ≤ length (first_open fs q.reported)) e le in rw (h.none e) (grind (arith, nat_tests, z));
  gone = h.gone;
  no_zero = h.no_zero;
}

first_within : (fs : List Queued) → IsWithin fs 0
first_within [] = refl
first_within (f ∷ fs) = omega (arith, length-written f.message)

report_first_is_queue : (fs : List Queued) (n : ℕ) (begun : Bool) (sent : ℕ) (gone : List ℕ) → (begun ≡ false → n ≡ 0) → AreGone (length fs) gone → IsQueue (report_first fs n begun sent gone)
report_first_is_queue [] n begun sent gone h are = record { within = refl; lent = omega arith; fresh = λ _. (refl, refl); none = λ _. refl; gone = are.short; no_zero = are.no_zero }
report_first_is_queue (f ∷ fs) n begun sent gone h are =
    let rest = gone_after_first are in
    cond_both (nat_lt n (length (written f.message))) _ _ IsQueue
    (λ lt. record { within = ltb-true n (length (written f.message)) lt; lent = omega arith; fresh = λ e. (h e, refl); none = λ e. absurd (cc); gone = are.short; no_zero = are.no_zero })
    (λ _. record { within = first_within fs; lent = omega arith; fresh = λ _. (refl, refl); none = λ _. refl; gone = rest.short; no_zero = rest.no_zero })

pub after_report_is_queue : (q : Queue) (n : ℕ) → IsQueue q → n ≤ q.lent → IsQueue (after_report q n)
after_report_is_queue q n h le = report_first_is_queue q.frames (q.reported + n) q.begun q.sent q.gone (λ e. let f = h.fresh e in omega (arith, f.0, f.1)) (gone_of q h)

-- a report of a part of the first frame, and one of all of it
pub report_of_a_part : (q : Queue) (n : ℕ) → q.reported + n < length (first_open q.frames 0) → after_report q n ≡ record { frames = q.frames; reported = q.reported + n; lent = 0; begun = q.begun; sent = q.sent; gone = q.gone }
report_of_a_part q n lt = part q.frames (q.reported + n) q.begun q.sent q.gone lt
  where
    part : (fs : List Queued) (n : ℕ) (begun : Bool) (sent : ℕ) (gone : List ℕ) → n < length (first_open fs 0) → report_first fs n begun sent gone ≡ record { frames = fs; reported = n; lent = 0; begun = begun; sent = sent; gone = gone }
    part [] n begun sent gone lt = absurd (omega arith)
    part (f ∷ fs) n begun sent gone lt = cond-true _ _ _ (lt-ltb _ _ lt)

pub report_of_all : (q : Queue) (n : ℕ) → IsQueue q → length (first_open q.frames 0) ≤ q.reported + n → after_report q n ≡ record { frames = drop 1 q.frames; reported = 0; lent = 0; begun = false; sent = first_ticket q.frames q.sent; gone = drop 1 q.gone }
report_of_all q n h le = all q.frames (q.reported + n) q.begun q.sent q.gone h.gone le
  where
    all : (fs : List Queued) (n : ℕ) (begun : Bool) (sent : ℕ) (gone : List ℕ) → length gone ≤ length fs → length (first_open fs 0) ≤ n → report_first fs n begun sent gone ≡ record { frames = drop 1 fs; reported = 0; lent = 0; begun = false; sent = first_ticket fs sent; gone = drop 1 gone }
    all [] n begun sent [] short le = refl
    all [] n begun sent (g ∷ gs) short le = absurd (omega arith)
    all (f ∷ fs) n begun sent gone short le = cond-false _ _ _ (le-ltb _ _ le)

-- no more is lent than is left of the first frame
pub report_fits : (q : Queue) (n : ℕ) → IsQueue q → n ≤ q.lent → q.reported + n ≤ length (first_open q.frames 0)
report_fits q n h le = fits q.frames q.reported q.lent n h.within h.lent le
  where
    fits : (fs : List Queued) (r l n : ℕ) → IsWithin fs r → l ≤ length (first_open fs r) → n ≤ l → r + n ≤ length (first_open fs 0)
    fits [] r l n within lent le = omega arith
    fits (f ∷ fs) r l n within lent le = omega (arith, length-drop r (written f.message))

-- other frames, where none has begun, and where the first has and stays
pub fresh_is_queue : (fs : List Queued) (r l s : ℕ) (g : List ℕ) → (r ≡ 0) × (l ≡ 0) → AreGone (length fs) g → IsQueue (record { frames = fs; reported = r; lent = l; begun = false; sent = s; gone = g })
fresh_is_queue fs r l s g h are = record {
  within = subst (IsWithin fs) (sym h.0) (first_within fs);
  lent = let e = h.1 in omega arith;
  fresh = λ _. h;
  none = λ _. refl;
  gone = are.short;
  no_zero = are.no_zero;
}

abbrev pub queue_of : Bool → List Queued → ℕ → ℕ → ℕ → List ℕ → Queue
queue_of b fs r l s g = record { frames = fs; reported = r; lent = l; begun = b; sent = s; gone = g }

pub begun_is_queue : (f : Queued) (fs gs : List Queued) (r l s : ℕ) (b : Bool) (g k : List ℕ) → IsQueue (queue_of b (f ∷ fs) r l s g) → AreGone (suc (length gs)) k → IsQueue (queue_of b (f ∷ gs) r l s k)
begun_is_queue f fs gs r l s b g k h are = record { within = h.within; lent = h.lent; fresh = h.fresh; none = λ e. absurd (cc); gone = are.short; no_zero = are.no_zero }

length-last_filled : (fs : List Queued) (payload : List ℕ) → length (last_filled fs payload) ≡ length fs
length-last_filled [] payload = refl
length-last_filled (f ∷ []) payload = refl
length-last_filled (f ∷ g ∷ fs) payload = ap suc (length-last_filled (g ∷ fs) payload)

filled_queue : (b : Bool) (fs : List Queued) (r l s : ℕ) (g payload : List ℕ) → IsQueue (queue_of b fs r l s g) → IsQueue (filled (queue_of b fs r l s g) payload)
filled_queue false fs r l s g payload h =
    cond_both (may_fill (queue_of false fs r l s g) payload) _ _ IsQueue
    (λ _. fresh_is_queue (last_filled fs payload) r l s g (h.fresh refl) (subst (λ n. AreGone n g) (sym (length-last_filled fs payload)) (gone_of _ h))) (λ _. h)
filled_queue true [] r l s g payload h = h
filled_queue true (f ∷ []) r l s g payload h = h
filled_queue true (f ∷ k ∷ fs) r l s g payload h =
    cond_both (may_fill (queue_of true (f ∷ k ∷ fs) r l s g) payload) _ _ IsQueue
    (λ _. begun_is_queue f (k ∷ fs) (last_filled (k ∷ fs) payload) r l s true g g h (subst (λ n. AreGone (suc n) g) (sym (length-last_filled (k ∷ fs) payload)) (gone_of _ h))) (λ _. h)

pub filled_is_queue : (q : Queue) (payload : List ℕ) → IsQueue q → IsQueue (filled q payload)
filled_is_queue q payload h = filled_queue q.begun q.frames q.reported q.lent q.sent q.gone payload h

-- ---- What is held after frames that stay

kept_gone : (owners : ℕ → Bool) (fs : List Queued) (g : List ℕ) → AreGone (length (frames_without owners fs)) (gone_behind owners fs g)
kept_gone owners [] g = no_gone 0
kept_gone owners (f ∷ fs) g = by (is_request_of owners f) (kept_gone owners fs (drop 1 g))
  where
    n : ℕ
    n = first_gone g + gone_first owners fs (drop 1 g)

    by : (c : Bool) → AreGone (length (frames_without owners fs)) (gone_behind owners fs (drop 1 g))
        → AreGone (length (cond (not c) (f ∷ frames_without owners fs) (frames_without owners fs))) (cond c (gone_behind owners fs (drop 1 g)) (in_front n (gone_behind owners fs (drop 1 g))))
    by true h = h
    by false h = gone_in_front _ n _ h

without_queue : (b : Bool) (fs : List Queued) (r l s : ℕ) (g : List ℕ) (owners : ℕ → Bool) → IsQueue (queue_of b fs r l s g) → IsQueue (without (queue_of b fs r l s g) owners)
without_queue false fs r l s g owners h = fresh_is_queue _ r l s _ (h.fresh refl) (kept_gone owners fs g)
without_queue true [] r l s g owners h = h
without_queue true (f ∷ fs) r l s g owners h = begun_is_queue f fs (frames_without owners fs) r l s true g _ h (gone_in_front _ _ _ (kept_gone owners fs (drop 1 g)))

pub without_is_queue : (q : Queue) (owners : ℕ → Bool) → IsQueue q → IsQueue (without q owners)
without_is_queue q owners h = without_queue q.begun q.frames q.reported q.lent q.sent q.gone owners h

-- ---- The last frame

placed_may_change : (b : Bool) (fs : List Queued) (r l s : ℕ) (g : List ℕ) (f : Queued) → IsQueue (queue_of b fs r l s g) → last_may_change (with_frame (queue_of b fs r l s g) f) ≡ true
placed_may_change false fs r l s g f h = lt-ltb 0 (length (fs ++ f ∷ [])) (omega (arith, length-append fs (f ∷ [])))
placed_may_change true [] r l s g f h = absurd (let e = h.none refl in cc)
placed_may_change true (k ∷ fs) r l s g f h = lt-ltb 1 (length (k ∷ fs ++ f ∷ [])) (omega (arith, length-append fs (f ∷ [])))

pub last_of_more : (fs : List Queued) (f : Queued) (payload : List ℕ) → last_filled (fs ++ f ∷ []) payload ≡ fs ++ with_payload f payload ∷ []
last_of_more [] f payload = refl
last_of_more (g ∷ []) f payload = refl
last_of_more (g ∷ h ∷ fs) f payload = ap (λ l. g ∷ l) (last_of_more (h ∷ fs) f payload)

pub both_true : (a b : Bool) → a ≡ true → b ≡ true → (a && b) ≡ true
both_true a b e d = rw (e, d) refl

-- a frame that was queued and filled is queued with its payload
pub placed_filled : (q : Queue) (f : Queued) (payload : List ℕ) → IsQueue q → length payload ≤ free (with_frame q f) → filled (with_frame q f) payload ≡ with_frame q (with_payload f payload)
placed_filled q f payload h fits =
    cond-true (may_fill (with_frame q f) payload) _ _ (both_true _ _ (placed_may_change q.begun q.frames q.reported q.lent q.sent q.gone f h) (le-leb _ _ fits))
    ∙ ap (λ fs. queue_of q.begun fs q.reported q.lent q.sent q.gone) (last_of_more q.frames f payload)

-- a frame that was queued and withdrawn was never queued
pub placed_withdrawn : (q : Queue) (f : Queued) → IsQueue q → withdrawn (with_frame q f) ≡ q
placed_withdrawn q f h =
    let size = length-append q.frames (f ∷ []) in
    let whole : length q.gone ≤ length (q.frames ++ f ∷ []) - 1 = omega (arith, size, h.gone) in
    cond-true (last_may_change (with_frame q f)) _ _ (placed_may_change q.begun q.frames q.reported q.lent q.sent q.gone f h)
    ∙ ap (λ fs. queue_of q.begun fs q.reported q.lent q.sent (trimmed (take (length (q.frames ++ f ∷ []) - 1) q.gone))) (take_at q.frames (f ∷ []) (length (q.frames ++ f ∷ []) - 1) (omega arith))
    ∙ ap (queue_of q.begun q.frames q.reported q.lent q.sent) (ap trimmed (take_all (length (q.frames ++ f ∷ []) - 1) q.gone whole) ∙ h.no_zero)

-- ---- How many bytes are held

within_all : (fs : List Queued) (r : ℕ) → IsWithin fs r → r ≤ length (written_all fs)
within_all [] r h = omega arith
within_all (f ∷ fs) r h = omega (arith, h, length-append (written f.message) (written_all fs))

-- with the reported bytes they are all bytes of the frames, and those held after them
pub held_is : (q : Queue) → IsQueue q → held q + q.reported ≡ length (written_all q.frames) + sum q.gone
held_is q h = omega (arith, length-drop q.reported (written_all q.frames), within_all q.frames q.reported h.within)

pub length-written_more : (fs gs : List Queued) → length (written_all (fs ++ gs)) ≡ length (written_all fs) + length (written_all gs)
length-written_more [] gs = omega arith
length-written_more (f ∷ fs) gs =
    length-append (written f.message) (written_all (fs ++ gs))
    ∙ ap (λ n. length (written f.message) + n) (length-written_more fs gs)
    ∙ omega (arith, length-append (written f.message) (written_all fs))

pub held_with_frame : (q : Queue) (f : Queued) → IsQueue q → held (with_frame q f) ≡ held q + length (written f.message)
held_with_frame q f h =
    let before = held_is q h in
    let behind = held_is (with_frame q f) (with_frame_is_queue q f h) in
    let more = length-written_more q.frames (f ∷ []) in
    let one = length-append (written f.message) [] in
    omega (arith, before, behind, more, one)

-- ---- A queue that has nothing to write

-- a queue without a frame has all its room
pub all_free : (q : Queue) → IsQueue q → q.frames ≡ [] → free q ≡ OUTGOING_LENGTH_MAX
all_free q is none = by q.frames q.reported q.gone none is.within is.gone
  where
    by : (frames : List Queued) (n : ℕ) (gone : List ℕ) → frames ≡ [] → IsWithin frames n → length gone ≤ length frames → OUTGOING_LENGTH_MAX - (length (drop n (written_all frames)) + sum gone) ≡ OUTGOING_LENGTH_MAX
    by [] n [] none within few = rw within refl
    by [] n (k ∷ ks) none within few = absurd (omega (arith, few))
    by (f ∷ fs) n gone none within few = cc

-- a queue with no unsent byte has no frame
pub none_unsent : (q : Queue) → IsQueue q → unsent q ≡ [] → q.frames ≡ []
none_unsent q is none = by q.frames q.reported is.within none
  where
    by : (frames : List Queued) (n : ℕ) → IsWithin frames n → drop n (written_all frames) ≡ [] → frames ≡ []
    by [] n within none = refl
    by (f ∷ fs) n within none =
        absurd (omega (arith, within, ap length none, length-drop n (written f.message ++ written_all fs), length-append (written f.message) (written_all fs)))

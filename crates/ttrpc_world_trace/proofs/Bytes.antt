-- The bytes in flight: what is queued, what leaves, what is thrown away or cut off, and what comes in. No seals.
use Rattle.ttrpc_world_trace.proofs.FlightWords.{cases_Bool, ◌≡◌, ◌+◌, ◌-◌, ◌<◌, ◌≤◌, inl, inr, ℕ, Bool, true, false, cond, List, [], ◌∷◌, ◌++◌, length, map, take, drop, arith, refl, sym, ap, subst, ◌∙◌, append_assoc, length-append, length-drop, filter, cases_lt, append-nil, take-append-drop, length-take-le, map-append, MessageHeader, Incoming, Queued, Frames, Held, nothing, Fed, Queue, IsWithin, written, written_all, first_open, open_part, with_frame, with_lent, after_report, begun_count, frames_without, without, header_front, nothing_held, one_list, is_frames, Flying, AreInFlight, IsSound, AreSound, arrived, bytes_after_carry, frames_of, flying_without, all_behind, all_in_front, all_joined, flat_map-append}
use Rattle.std.proofs.Math.Seq.{take-append-add}
use Rattle.std.proofs.lemmas.List.{take-append-le, take-take, take_all, drop-take, drop_at, map_push, take-map, drop-map}
use Rattle.ttrpc_proto.specs.Framing.Header.{header_bytes, header_of}
use Rattle.ttrpc_proto.proofs.Headers as headers
use Rattle.ttrpc_proto.specs.Framing.Frames.{IsFrame, IsRest}
use Rattle.ttrpc_proto.specs.Framing.Queue.{empty_queue, first_ticket}
use Rattle.ttrpc_proto.proofs.Queues.{length-written, written_is, fresh_is_queue, with_frame_is_queue, with_lent_is_queue, after_report_is_queue, without_is_queue, report_of_a_part, report_of_all}
use Rattle.ttrpc_world_trace.proofs.Losing.{all_thrown, stays}

-- ---- nothing is in flight

pub none_in_flight : AreInFlight nothing [] false empty_queue [] []
none_in_flight = record {
  valid = fresh_is_queue [] 0 0 0 [] (refl, refl) (record { short = omega arith; no_zero = refl });
  same = refl;
  sound = tt;
  before = [];
  holds = nothing_held;
  lost = [];
  bytes = refl;
  uncut = λ e. refl;
}

-- ---- a frame is queued

-- as many bytes as were reported of a first frame, whatever stands behind it
begun_part : (f : Queued) (fs : List Queued) (n : ℕ) → n ≤ length (written f.message) → take n (written_all (f ∷ fs)) ≡ take n (written f.message)
begun_part f fs n le = take-append-le n (written f.message) (written_all fs) le

begun_more : (fs : List Queued) (f : Queued) (n : ℕ) → IsWithin fs n → take n (written_all (fs ++ f ∷ [])) ≡ take n (written_all fs)
begun_more [] f n none = ap (λ k. take k (written_all (f ∷ []))) none ∙ sym (ap (λ k. take k (written_all [])) none)
begun_more (g ∷ fs) f n within = begun_part g (fs ++ f ∷ []) n (omega (arith, within)) ∙ sym (begun_part g fs n (omega (arith, within)))

pub placed_in_flight : (held : Held) (pipe : List ℕ) (cut : Bool) (q : Queue) (transit queued : List Flying) (x : Flying) → IsSound x.frame → AreInFlight held pipe cut q transit queued
    → AreInFlight held pipe cut (with_frame q x.frame) transit (queued ++ x ∷ [])
placed_in_flight held pipe cut q transit queued x sound f = record {
  valid = with_frame_is_queue q x.frame f.valid;
  same = map_push Flying.frame queued x ∙ ap (λ fs. fs ++ x.frame ∷ []) f.same;
  sound = subst AreSound (append_assoc transit queued (x ∷ [])) (all_joined (λ (y : Flying). IsSound y.frame) (transit ++ queued) (x ∷ []) f.sound (sound, tt));
  before = f.before;
  holds = f.holds;
  lost = f.lost;
  bytes = f.bytes ∙ ap (λ bs. written_all (frames_of transit) ++ bs) (sym (begun_more q.frames x.frame q.reported f.valid.within));
  uncut = f.uncut;
}

-- ---- bytes leave, into the pipe or behind a cut

-- what is lost and what isn't, with more bytes behind those that were there
record Leaving (before pipe : List ℕ) (cut : Bool) (more all : List ℕ) : Type 0 where
  lost : List ℕ
  bytes : before ++ (cond cut pipe (pipe ++ more) ++ lost) ≡ all
  uncut : cut ≡ false → lost ≡ []

bytes_leave : (before pipe lost more : List ℕ) (cut : Bool) → (cut ≡ false → lost ≡ []) → Leaving before pipe cut more ((before ++ (pipe ++ lost)) ++ more)
bytes_leave before pipe lost more true uncut = record {
  lost = lost ++ more;
  bytes = ap (λ bs. before ++ bs) (sym (append_assoc pipe lost more)) ∙ sym (append_assoc before (pipe ++ lost) more);
  uncut = λ e. absurd (cc);
}
bytes_leave before pipe lost more false uncut = record {
  lost = [];
  bytes =
      ap (λ bs. before ++ bs) (append-nil (pipe ++ more)) ∙ sym (append_assoc before pipe more)
      ∙ ap (λ bs. (before ++ bs) ++ more) (sym (ap (λ bs. pipe ++ bs) (uncut refl) ∙ append-nil pipe));
  uncut = λ e. refl;
}

two_parts : (xs : List ℕ) (m n : ℕ) → take m xs ++ take n (drop m xs) ≡ take (m + n) xs
two_parts xs m n =
    ap (λ ys. ys ++ take n (drop m xs)) (sym (take-take m (m + n) xs (omega arith)))
    ∙ ap (λ ys. take m (take (m + n) xs) ++ ys) (sym (drop-take m n xs))
    ∙ take-append-drop m (take (m + n) xs)

-- a part of the first frame is reported by then
part_leaves : (fs : List Queued) (m n : ℕ) → m + n < length (first_open fs 0) → take m (written_all fs) ++ take n (first_open fs m) ≡ take (m + n) (written_all fs)
part_leaves [] m n lt = absurd (omega (arith, lt))
part_leaves (f ∷ fs) m n lt =
    ap (λ bs. bs ++ take n (drop m (written f.message))) (begun_part f fs m (omega (arith, lt)))
    ∙ two_parts (written f.message) m n
    ∙ sym (begun_part f fs (m + n) (omega (arith, lt)))

-- all of it is, or there is none
all_leaves : (fs : List Queued) (m n : ℕ) → IsWithin fs m → length (first_open fs 0) ≤ m + n → take m (written_all fs) ++ take n (first_open fs m) ≡ written_all (take 1 fs)
all_leaves [] m n none le = ap (λ bs. bs ++ take n []) (take_all m [] (omega arith)) ∙ take_all n [] (omega arith)
all_leaves (f ∷ fs) m n within le =
    let w = written f.message in
    ap (λ bs. bs ++ take n (drop m w)) (begun_part f fs m (omega (arith, within)))
    ∙ ap (λ bs. take m w ++ bs) (take_all n (drop m w) (omega (arith, length-drop m w, le)))
    ∙ take-append-drop m w
    ∙ sym (append-nil w)

one_more_written : (transit queued : List Flying) → written_all (frames_of (transit ++ take 1 queued)) ≡ written_all (frames_of transit) ++ written_all (take 1 (frames_of queued))
one_more_written transit queued =
    ap written_all (map-append Flying.frame transit (take 1 queued)) ∙ flat_map-append (λ (f : Queued). written f.message) (frames_of transit) (frames_of (take 1 queued))
    ∙ ap (λ fs. written_all (frames_of transit) ++ written_all fs) (sym (take-map Flying.frame 1 queued))

-- then these flights are in transit, and these queued
carried_so : (held : Held) (pipe : List ℕ) (cut : Bool) (q : Queue) (transit queued t r : List Flying) (n : ℕ) → n ≤ length (open_part q) → AreInFlight held pipe cut q transit queued → t ++ r ≡ transit ++ queued
    → (let p : Queue = after_report (with_lent q n) n in
    frames_of r ≡ p.frames → written_all (frames_of transit) ++ (take q.reported (written_all q.frames) ++ take n (open_part q)) ≡ written_all (frames_of t) ++ take p.reported (written_all p.frames)
    → AreInFlight held (bytes_after_carry cut pipe n q) cut p t r)
carried_so held pipe cut q transit queued t r n le f all same bytes =
    let go = bytes_leave f.before pipe f.lost (take n (open_part q)) cut f.uncut in
    record {
      valid = after_report_is_queue (with_lent q n) n (with_lent_is_queue q n f.valid le) (omega arith);
      same = same;
      sound = subst AreSound (sym all) f.sound;
      before = f.before;
      holds = f.holds;
      lost = go.lost;
      bytes =
          go.bytes ∙ ap (λ bs. bs ++ take n (open_part q)) f.bytes
          ∙ append_assoc (written_all (frames_of transit)) (take q.reported (written_all q.frames)) (take n (open_part q)) ∙ bytes;
      uncut = go.uncut;
    }

pub carried_in_flight : (held : Held) (pipe : List ℕ) (cut : Bool) (q : Queue) (transit queued : List Flying) (n : ℕ) → n ≤ length (open_part q) → AreInFlight held pipe cut q transit queued
    → (t : List Flying) × (r : List Flying) × (t ++ r ≡ transit ++ queued) × AreInFlight held (bytes_after_carry cut pipe n q) cut (after_report (with_lent q n) n) t r
carried_in_flight held pipe cut q transit queued n le f =
    let p : Queue = after_report (with_lent q n) n in
    let reported = λ (r : Queue). take r.reported (written_all r.frames) in
    elim (cases_lt (q.reported + n) (length (first_open q.frames 0))) [
      | inl part ↦
          let is : p ≡ record { frames = q.frames; reported = q.reported + n; lent = 0; begun = (with_lent q n).begun; sent = q.sent; gone = q.gone } = report_of_a_part (with_lent q n) n part in (
            transit,
            queued,
            refl,
            carried_so held pipe cut q transit queued transit queued n le f refl (f.same ∙ sym (ap Queue.frames is))
                (ap (λ bs. written_all (frames_of transit) ++ bs) (part_leaves q.frames q.reported n part ∙ sym (ap reported is))),
          )
      | inr whole ↦
          let is : p ≡ record { frames = drop 1 q.frames; reported = 0; lent = 0; begun = false; sent = first_ticket q.frames q.sent; gone = drop 1 q.gone } = report_of_all (with_lent q n) n (with_lent_is_queue q n f.valid le) whole in
          let t = transit ++ take 1 queued in
          let all : t ++ drop 1 queued ≡ transit ++ queued = append_assoc transit (take 1 queued) (drop 1 queued) ∙ ap (λ xs. transit ++ xs) (take-append-drop 1 queued) in (
            t,
            drop 1 queued,
            all,
            carried_so held pipe cut q transit queued t (drop 1 queued) n le f all (sym (drop-map Flying.frame 1 queued) ∙ ap (drop 1) f.same ∙ sym (ap Queue.frames is))
                (ap (λ bs. written_all (frames_of transit) ++ bs) (all_leaves q.frames q.reported n f.valid.within whole ∙ ap (λ fs. written_all (take 1 fs)) (sym f.same))
                ∙ sym (one_more_written transit queued) ∙ sym (append-nil (written_all (frames_of t))) ∙ ap (λ bs. written_all (frames_of t) ++ bs) (sym (ap reported is))),
          )
    ]

-- ---- a request is thrown away

frames_left : (owners : ℕ → Bool) (xs : List Flying) → frames_of (filter (stays owners) xs) ≡ frames_without owners (frames_of xs)
frames_left owners [] = refl
frames_left owners (x ∷ xs) = let later = frames_left owners xs in elim (cases_Bool (stays owners x)) [ inl e ↦ rw (e, later) refl | inr e ↦ rw (e, later) refl ]

frames_others : (owners : ℕ → Bool) (n : ℕ) (xs : List Flying) → frames_of (flying_without owners n xs) ≡ take n (frames_of xs) ++ frames_without owners (drop n (frames_of xs))
frames_others owners n xs =
    map-append Flying.frame (take n xs) (filter (stays owners) (drop n xs))
    ∙ ap (λ fs. fs ++ frames_of (filter (stays owners) (drop n xs))) (sym (take-map Flying.frame n xs))
    ∙ ap (λ fs. take n (frames_of xs) ++ fs) (frames_left owners (drop n xs) ∙ ap (frames_without owners) (sym (drop-map Flying.frame n xs)))

-- Of the first frame a byte was reported only where it has begun, and then it stays.
begun_stays : (b : Bool) (owners : ℕ → Bool) (fs : List Queued) (m : ℕ) → IsWithin fs m → (b ≡ false → m ≡ 0)
    → take m (written_all (take (cond b 1 0) fs ++ frames_without owners (drop (cond b 1 0) fs))) ≡ take m (written_all fs)
begun_stays false owners fs m within fresh =
    ap (λ k. take k (written_all (frames_without owners fs))) (fresh refl) ∙ sym (ap (λ k. take k (written_all fs)) (fresh refl))
begun_stays true owners [] m within fresh = refl
begun_stays true owners (f ∷ fs) m within fresh = begun_part f (frames_without owners fs) m (omega (arith, within)) ∙ sym (begun_part f fs m (omega (arith, within)))

pub thrown_in_flight : (held : Held) (pipe : List ℕ) (cut : Bool) (q : Queue) (transit queued : List Flying) (owners : ℕ → Bool) → AreInFlight held pipe cut q transit queued
    → AreInFlight held pipe cut (without q owners) transit (flying_without owners (begun_count q) queued)
thrown_in_flight held pipe cut q transit queued owners f = record {
  valid = without_is_queue q owners f.valid;
  same = frames_others owners (begun_count q) queued ∙ ap (λ fs. take (begun_count q) fs ++ frames_without owners (drop (begun_count q) fs)) f.same;
  sound = all_thrown (λ (x : Flying). IsSound x.frame) owners (begun_count q) transit queued f.sound;
  before = f.before;
  holds = f.holds;
  lost = f.lost;
  bytes = f.bytes ∙ ap (λ bs. written_all (frames_of transit) ++ bs) (sym (begun_stays q.begun owners q.frames q.reported f.valid.within (λ e. (f.valid.fresh e).0)));
  uncut = f.uncut;
}

-- ---- a pipe is cut

pub cut_in_flight : (held : Held) (pipe : List ℕ) (cut : Bool) (q : Queue) (transit queued : List Flying) (keep : ℕ) → AreInFlight held pipe cut q transit queued
    → AreInFlight held (take keep pipe) true q transit queued
cut_in_flight held pipe cut q transit queued keep f = record {
  valid = f.valid;
  same = f.same;
  sound = f.sound;
  before = f.before;
  holds = f.holds;
  lost = drop keep pipe ++ f.lost;
  bytes = ap (λ bs. f.before ++ bs) (sym (append_assoc (take keep pipe) (drop keep pipe) f.lost) ∙ ap (λ bs. bs ++ f.lost) (take-append-drop keep pipe)) ∙ f.bytes;
  uncut = λ e. absurd (cc);
}

-- ---- bytes come in

-- a written form is a frame
written_is_frame : (x : Flying) → IsSound x.frame → IsFrame (arrived x) (written x.frame.message)
written_is_frame x sound = (
  record {
    ten = header_bytes x.frame.message.header;
    size = refl;
    header = headers.reads_back x.frame.message.header sound.fits;
    stated = sym sound.stated;
    all = written_is x.frame.message;
  },
  omega (arith, sound.stated, sound.short),
)

-- a frame at the front of a written form is the frame in flight, and what stands behind is the same
first_arrives : (i : Incoming) (x : Flying) (front back more : List ℕ) → IsSound x.frame → IsFrame i front → front ++ back ≡ written x.frame.message ++ more → (i ≡ arrived x) × (back ≡ more)
first_arrives i x front back more sound is_frame e =
    let w = written x.frame.message in
    let bs = is_frames back in
    let cs = is_frames more in
    let one = one_list (w ++ more) (i ∷ bs.0) (arrived x ∷ cs.0) bs.1 cs.1 (front, back, sym e, is_frame, bs.2) bs.3 (w, more, refl, written_is_frame x sound, cs.2) cs.3 in
    let same : i ≡ arrived x = cc (one.0) in
    let whole = subst (λ j. IsFrame j front) same is_frame in
    let size : length w ≡ length front = omega (arith, length-written x.frame.message, ap length whole.0.all, length-append whole.0.ten x.frame.message.payload, whole.0.size) in
    (same, sym (drop_at front back (length front) refl) ∙ ap (drop (length front)) e ∙ drop_at w more (length front) size)

-- the reported part of the first queued frame holds no whole frame
front_is_rest : (x : Flying) (n : ℕ) → IsSound x.frame → n < length (written x.frame.message) → IsRest (take n (written x.frame.message))
front_is_rest x n sound lt long =
    let h = x.frame.message.header in
    let payload = x.frame.message.payload in
    let size : length (take n (written x.frame.message)) ≡ n = length-take-le n (written x.frame.message) (omega (arith, lt)) in
    let split : n ≡ length (header_bytes h) + (n - 10) = omega (arith, long, size) in
    let shown : take n (written x.frame.message) ≡ header_bytes h ++ take (n - 10) payload =
    ap (take n) (written_is x.frame.message) ∙ ap (λ k. take k (header_bytes h ++ payload)) split ∙ take-append-add (header_bytes h) payload (n - 10) in
    let stated : (header_of (take n (written x.frame.message))).length ≡ h.length =
    ap (λ bs. (header_of bs).length) shown ∙ ap MessageHeader.length (header_front (header_bytes h) (take (n - 10) payload) refl ∙ headers.reads_back h sound.fits) in
    omega (arith, size, stated, lt, length-written x.frame.message, sound.stated)

begun_is_rest : (queued : List Flying) (n : ℕ) → AreSound queued → IsWithin (frames_of queued) n → IsRest (take n (written_all (frames_of queued)))
begun_is_rest [] n sound none = subst IsRest (sym (take_all n [] (omega arith))) (λ long. absurd (omega (arith, long)))
begun_is_rest (x ∷ xs) n sound within = subst IsRest (sym (begun_part x.frame (frames_of xs) n (omega (arith, within)))) (front_is_rest x n sound.0 within)

no_frame : (i : Incoming) (front back begun : List ℕ) → IsRest begun → IsFrame i front → front ++ back ≡ begun → ⊥
no_frame i front back begun rest is_frame e =
    let bs = is_frames back in
    let one = one_list begun [] (i ∷ bs.0) begun bs.1 refl rest (front, back, sym e, is_frame, bs.2) bs.3 in
    cc

-- the frames are a front of those in transit, and the bytes behind them are those of the others
abbrev TakesFront : List Incoming → List Flying → List ℕ → List ℕ → Type 0
TakesFront incoming transit left begun = (front : List Flying) × (rest : List Flying) × (transit ≡ front ++ rest) × (incoming ≡ map arrived front) × (left ≡ written_all (frames_of rest) ++ begun)

come_in : (incoming : List Incoming) (transit : List Flying) (bytes left more begun : List ℕ) → AreSound transit → IsRest begun → Frames bytes incoming left → bytes ++ more ≡ written_all (frames_of transit) ++ begun
    → TakesFront incoming transit (left ++ more) begun
come_in [] transit bytes left more begun sound rest are e = ([], transit, refl, refl, ap (λ bs. bs ++ more) (sym are) ∙ e)
come_in (i ∷ is) [] bytes left more begun sound rest are e =
    absurd (no_frame i are.0 (are.1 ++ more) begun rest are.3 (sym (append_assoc are.0 are.1 more) ∙ ap (λ bs. bs ++ more) (sym are.2) ∙ e))
come_in (i ∷ is) (x ∷ xs) bytes left more begun sound rest are e =
    let others = written_all (frames_of xs) in
    let joined : are.0 ++ (are.1 ++ more) ≡ written x.frame.message ++ (others ++ begun) =
    sym (append_assoc are.0 are.1 more) ∙ ap (λ bs. bs ++ more) (sym are.2) ∙ e ∙ append_assoc (written x.frame.message) others begun in
    let first = first_arrives i x are.0 (are.1 ++ more) (others ++ begun) sound.0 are.3 joined in
    let later = come_in is xs are.1 left more begun sound.1 rest are.4 first.1 in (
      x ∷ later.0,
      later.1,
      ap (λ ys. x ∷ ys) later.2,
      ap (λ j. j ∷ is) first.0 ∙ ap (λ js. arrived x ∷ js) later.3,
      later.4,
    )

pub fed_in_flight : (held : Held) (pipe : List ℕ) (cut : Bool) (q : Queue) (transit queued : List Flying) (taken later : List ℕ) (incoming : List Incoming) (new : Held) → pipe ≡ taken ++ later → Fed held taken incoming new → AreInFlight held pipe cut q transit queued
    → (front : List Flying) × (rest : List Flying) × (transit ≡ front ++ rest) × (incoming ≡ map arrived front) × AreInFlight new later cut q rest queued
fed_in_flight held pipe cut q transit queued taken later incoming new split fed f =
    let after = fed f.before f.holds in
    let begun = take q.reported (written_all q.frames) in
    let joined : (f.before ++ taken) ++ (later ++ f.lost) ≡ written_all (frames_of transit) ++ begun =
    append_assoc f.before taken (later ++ f.lost)
    ∙ ap (λ bs. f.before ++ bs) (sym (append_assoc taken later f.lost) ∙ ap (λ bs. bs ++ f.lost) (sym split))
    ∙ f.bytes in
    let sound_queued : AreSound queued = all_behind (λ (x : Flying). IsSound x.frame) transit queued f.sound in
    let rest : IsRest begun = subst (λ fs. IsRest (take q.reported (written_all fs))) f.same (begun_is_rest queued q.reported sound_queued (subst (λ fs. IsWithin fs q.reported) (sym f.same) f.valid.within)) in
    let sound_transit : AreSound transit = all_in_front (λ (x : Flying). IsSound x.frame) transit queued f.sound in
    let come = come_in incoming transit (f.before ++ taken) after.0 (later ++ f.lost) begun sound_transit rest after.1 joined in (
      come.0,
      come.1,
      come.2,
      come.3,
      record {
        valid = f.valid;
        same = f.same;
        sound = all_joined (λ (x : Flying). IsSound x.frame) come.1 queued (all_behind (λ (x : Flying). IsSound x.frame) come.0 come.1 (subst AreSound come.2 sound_transit)) sound_queued;
        before = after.0;
        holds = after.2;
        lost = f.lost;
        bytes = come.4;
        uncut = f.uncut;
      },
    )

-- ---- nothing more is to come

no_frames : (xs : List Flying) → frames_of xs ≡ [] → xs ≡ []
no_frames [] e = refl
no_frames (x ∷ xs) e = absurd (cc)

-- whole frames are no rest
none_written : (xs : List Flying) → AreSound xs → IsRest (written_all (frames_of xs)) → xs ≡ []
none_written [] sound rest = refl
none_written (x ∷ xs) sound rest = absurd (no_frame (arrived x) (written x.frame.message) (written_all (frames_of xs)) (written_all (frames_of (x ∷ xs))) rest (written_is_frame x sound.0) refl)

-- What is held is a rest, and these are whole frames, so it is nothing.
pub all_has_come : (held : Held) (pipe : List ℕ) (cut : Bool) (q : Queue) (transit queued : List Flying) → pipe ≡ [] → cut ≡ false → q.frames ≡ [] → AreInFlight held pipe cut q transit queued
    → (transit ≡ []) × (queued ≡ [])
all_has_come held pipe cut q transit queued empty whole none f =
    let begun : take q.reported (written_all q.frames) ≡ [] = ap (λ fs. take q.reported (written_all fs)) none ∙ take_all q.reported [] (omega arith) in
    let before : f.before ≡ written_all (frames_of transit) =
    sym (append-nil f.before) ∙ sym (ap (λ bs. f.before ++ bs) (ap (λ bs. bs ++ f.lost) empty ∙ f.uncut whole))
    ∙ f.bytes ∙ ap (λ bs. written_all (frames_of transit) ++ bs) begun ∙ append-nil (written_all (frames_of transit)) in
    let sound : AreSound transit = all_in_front (λ (x : Flying). IsSound x.frame) transit queued f.sound in
    (none_written transit sound (subst IsRest before f.holds.1), no_frames queued (f.same ∙ none))

-- How the frames of a queue lie in the bytes of a ring.
use Rattle.std.proofs.Common.{◌≡◌, ◌+◌, ◌*◌, ◌-◌, ◌<◌, ◌≤◌, ◌%◌, ◌^◌, ℕ, zero, Bool, true, false, cond, suc, get_or, sum, List, [], ◌∷◌, ◌++◌, length, take, drop, arith, sym, ap, subst, ◌∙◌, refl, length-append, length-take, length-drop, append_assoc, take-append-drop}
use mir.Val.{bool_byte}
use Rattle.std.proofs.Math.Seq.{take-append-add, drop-append-add}
use Rattle.std.proofs.lemmas.Bool.{cond_both, cond-true, cond-false, ltb-true}
use Rattle.std.proofs.lemmas.List.{take_at, append-nil, drop_at, drop-take, take-append-le, drop-append-le, drop_all, drop-drop}
use Rattle.circular_buffer.specs.Buffer.{Buffer, buffer}
use Rattle.ttrpc_proto.specs.contracts.framing.outgoing.Outgoing.{the_invariant}
use Rattle.ttrpc_proto.specs.declared.framing.outgoing.Outgoing.TheInside.{Inside}
use Rattle.ttrpc_proto.specs.declared.framing.outgoing.Queued.{Queued}
use Rattle.ttrpc_proto.specs.declared.framing.outgoing.TheConstants.{OUTGOING_LENGTH_MAX}
use Rattle.ttrpc_proto.specs.declared.framing.record.Record.{Record}
use Rattle.ttrpc_proto.specs.Framing.Header.{header_bytes}
use Rattle.ttrpc_proto.specs.Framing.Laid.{AreLaid, Entry, entries_of, entry_of, frame_of, frames_of, gone_before, gone_records, is_record_of, kept_of, kept_records, numbers_of, of_entries, span, spans}
use Rattle.ttrpc_proto.specs.Framing.Queue.{IsQueue, IsWithin, Queue, after_report, filled, first_gone, first_open, first_ticket, held, last_may_change, may_fill, open_part, trimmed, with_frame, with_payload, withdrawn, without, written}
use Rattle.ttrpc_proto.proofs.Queues.{after_report_is_queue, drop_trimmed, filled_is_queue, length-written, queue_of, report_fits, report_of_a_part, report_of_all, with_frame_is_queue, without_is_queue, written_is}
use Rattle.ttrpc_proto.proofs.Entries.{all_held, all_held_cons, entries_hold, finished_is_queue, view_filled, view_placed, view_thrown, view_thrown_after, view_withdrawn, withdrawn_is_queue}

-- the queue of records, of bytes that were reported, and of those in the ring
abbrev pub queue_in : List Record → List ℕ → List ℕ → ℕ → ℕ → Bool → ℕ → Queue
queue_in rs told ring r l b s = of_entries (entries_of rs (told ++ ring)) r l b s

-- ---- The bytes of a frame

take_split : (m n : ℕ) (xs : List ℕ) → m ≤ length xs → take (m + n) xs ≡ take m xs ++ take n (drop m xs)
take_split m n xs le =
    let size : length (take m xs) ≡ m = simp length-take (omega arith) in
    ap (take (m + n)) (sym (take-append-drop m xs)) ∙ subst (λ k. take (k + n) (take m xs ++ drop m xs) ≡ take m xs ++ take n (drop m xs)) size (take-append-add (take m xs) (drop m xs) n)

-- a front of a front
take_less : (m n : ℕ) (xs : List ℕ) → m ≤ length (take n xs) → take m xs ≡ take m (take n xs)
take_less m n xs le = ap (take m) (sym (take-append-drop n xs)) ∙ take-append-le m (take n xs) (drop n xs) le

-- a frame's written form is the front of its bytes
first_written : (r : Record) (bytes : List ℕ) → take 10 bytes ≡ header_bytes r.header → span r ≤ length bytes → written (frame_of r bytes).message ≡ take (10 + r.payload) bytes
first_written r bytes head fits = written_is (frame_of r bytes).message ∙ ap (λ h. h ++ take r.payload (drop 10 bytes)) (sym head) ∙ sym (take_split 10 r.payload bytes (omega (arith, fits)))

frame_length : (r : Record) (bytes : List ℕ) → span r ≤ length bytes → length (written (frame_of r bytes).message) ≡ 10 + r.payload
frame_length r bytes fits =
    let rest : length (take r.payload (drop 10 bytes)) ≡ r.payload = simp length-take (omega (arith, fits, length-drop 10 bytes)) in
    length-written (frame_of r bytes).message ∙ ap (λ n. 10 + n) rest

-- a header, a payload and bytes that nobody reads are an entry
pub entry_again : (r : Record) (head payload unread : List ℕ) → length head ≡ 10 → r.payload ≡ length payload
    → entry_of r (head ++ (payload ++ unread)) ≡ record { frame = record { message = record { header = r.header; payload = payload }; ticket = r.ticket; is_unary_request = r.is_unary_request; owner = r.owner }; gone = r.gone }
entry_again r head payload unread size is =
    let behind : drop 10 (head ++ (payload ++ unread)) ≡ payload ++ unread = drop_at head (payload ++ unread) 10 size in
    let whole : take r.payload (payload ++ unread) ≡ payload = take_at payload unread r.payload (sym is) in
    ap (λ (p : List ℕ). let e : Entry = record { frame = record { message = record { header = r.header; payload = p }; ticket = r.ticket; is_unary_request = r.is_unary_request; owner = r.owner }; gone = r.gone } in e) (ap (take r.payload) behind ∙ whole)

-- ---- What is put into a ring

pub put_more : {ring ring2 : Buffer ℕ} {n : ℕ} (front xs ys : List ℕ) → ring ≡ buffer (front ++ xs) n → ring2 ≡ buffer (ring.items ++ ys) ring.capacity → ring2 ≡ buffer (front ++ (xs ++ ys)) n
put_more {ring} {ring2} {n} front xs ys is more = more ∙ ap (λ (b : Buffer ℕ). buffer (b.items ++ ys) b.capacity) is ∙ ap (λ l. buffer l n) (append_assoc front xs ys)

pub three_parts : (head before payload after unread : List ℕ) → (((head ++ before) ++ payload) ++ after) ++ unread ≡ head ++ ((before ++ (payload ++ after)) ++ unread)
three_parts head before payload after unread =
    ap (λ l. l ++ unread) (ap (λ l. l ++ after) (append_assoc head before payload) ∙ append_assoc head (before ++ payload) after ∙ ap (λ l. head ++ l) (append_assoc before payload after))
    ∙ append_assoc head (before ++ (payload ++ after)) unread

-- ---- One more after the others

laid_last : (rs : List Record) (r : Record) (bytes w : List ℕ) → AreLaid rs bytes → take 10 w ≡ header_bytes r.header → span r ≡ length w → 10 + r.payload ≤ OUTGOING_LENGTH_MAX → AreLaid (rs ++ r ∷ []) (bytes ++ w)
laid_last [] r bytes w laid head size small = rw laid (head, omega (arith, size), small, drop_all (span r) w (omega (arith, size)))
laid_last (x ∷ rs) r bytes w laid head size small =
    let fits = laid.1 in (
      take-append-le 10 bytes w (omega (arith, fits)) ∙ laid.0,
      omega (arith, fits, length-append bytes w),
      laid.2,
      subst (AreLaid (rs ++ r ∷ [])) (sym (drop-append-le (span x) bytes w fits)) (laid_last rs r (drop (span x) bytes) w laid.3 head size small),
    )

same_entry : (x : Record) (bytes w : List ℕ) → span x ≤ length bytes → entry_of x (bytes ++ w) ≡ entry_of x bytes
same_entry x bytes w fits =
    let behind : drop 10 (bytes ++ w) ≡ drop 10 bytes ++ w = drop-append-le 10 bytes w (omega (arith, fits)) in
    let front : take x.payload (drop 10 bytes ++ w) ≡ take x.payload (drop 10 bytes) = take-append-le x.payload (drop 10 bytes) w (omega (arith, fits, length-drop 10 bytes)) in
    ap (λ (p : List ℕ). let e : Entry = record { frame = record { message = record { header = x.header; payload = p }; ticket = x.ticket; is_unary_request = x.is_unary_request; owner = x.owner }; gone = x.gone } in e) (ap (take x.payload) behind ∙ front)

entries_last : (rs : List Record) (r : Record) (bytes w : List ℕ) → AreLaid rs bytes → entries_of (rs ++ r ∷ []) (bytes ++ w) ≡ entries_of rs bytes ++ entry_of r w ∷ []
entries_last [] r bytes w laid = rw laid refl
entries_last (x ∷ rs) r bytes w laid =
    let fits = laid.1 in
    let rest : entries_of (rs ++ r ∷ []) (drop (span x) (bytes ++ w)) ≡ entries_of rs (drop (span x) bytes) ++ entry_of r w ∷ [] =
    ap (entries_of (rs ++ r ∷ [])) (drop-append-le (span x) bytes w fits) ∙ entries_last rs r (drop (span x) bytes) w laid.3 in
    ap (λ e. e ∷ entries_of (rs ++ r ∷ []) (drop (span x) (bytes ++ w))) (same_entry x bytes w fits) ∙ ap (λ es. entry_of x bytes ∷ es) rest

-- a header, a payload and unread bytes are put after the others
module _ (rs : List Record) (told ring : List ℕ) (r : Record) (payload unread ring2 : List ℕ) (laid : AreLaid rs (told ++ ring)) (wide : ring2 ≡ ring ++ (header_bytes r.header ++ (payload ++ unread))) (long : r.payload ≡ length payload) (more : length unread ≡ r.gone) where
  bytes_are : told ++ ring2 ≡ (told ++ ring) ++ (header_bytes r.header ++ (payload ++ unread))
  bytes_are = ap (λ x. told ++ x) wide ∙ sym (append_assoc told ring (header_bytes r.header ++ (payload ++ unread)))

  pub put_entries : entries_of (rs ++ r ∷ []) (told ++ ring2) ≡ entries_of rs (told ++ ring) ++ record { frame = record { message = record { header = r.header; payload = payload }; ticket = r.ticket; is_unary_request = r.is_unary_request; owner = r.owner }; gone = r.gone } ∷ []
  put_entries =
      ap (entries_of (rs ++ r ∷ [])) bytes_are
      ∙ entries_last rs r (told ++ ring) (header_bytes r.header ++ (payload ++ unread)) laid
      ∙ ap (λ e. entries_of rs (told ++ ring) ++ e ∷ []) (entry_again r (header_bytes r.header) payload unread refl long)

  pub put_laid : 10 + length payload ≤ OUTGOING_LENGTH_MAX → AreLaid (rs ++ r ∷ []) (told ++ ring2)
  put_laid small =
      let w = header_bytes r.header ++ (payload ++ unread) in
      let both = length-append payload unread in
      let all = length-append (header_bytes r.header) (payload ++ unread) in
      let whole : span r ≡ length w = omega (arith, long, more, both, all) in
      subst (AreLaid (rs ++ r ∷ [])) (sym bytes_are) (laid_last rs r (told ++ ring) w laid (take_at (header_bytes r.header) (payload ++ unread) 10 refl) whole (omega (arith, long, small)))

-- ---- How many bytes lie there

pub laid_spans : (rs : List Record) (bytes : List ℕ) → AreLaid rs bytes → spans rs ≡ length bytes
laid_spans [] bytes laid = sym (ap length laid)
laid_spans (x ∷ xs) bytes laid = let fits = laid.1 in omega (arith, fits, laid_spans xs (drop (span x) bytes) laid.3, length-drop (span x) bytes)

spans_joined : (rs ks : List Record) → spans (rs ++ ks) ≡ spans rs + spans ks
spans_joined [] ks = omega arith
spans_joined (x ∷ xs) ks = omega (arith, spans_joined xs ks)

laid_held : (rs : List Record) (bytes : List ℕ) → AreLaid rs bytes → all_held (entries_of rs bytes) ≡ length bytes
laid_held [] bytes laid = sym (ap length laid)
laid_held (x ∷ xs) bytes laid =
    let fits = laid.1 in
    let first = frame_length x bytes fits in
    omega (arith, fits, first, laid_held xs (drop (span x) bytes) laid.3, length-drop (span x) bytes, all_held_cons (entry_of x bytes) (entries_of xs (drop (span x) bytes)))

-- what holds of an `Outgoing`: of its records, of the bytes that were reported, and of those in the ring
pub record Holds (ks : List Record) (told ring : List ℕ) (r l : ℕ) (b : Bool) (s : ℕ) : Type 0 where
  pub valid : IsQueue (queue_in ks told ring r l b s)
  pub laid : AreLaid ks (told ++ ring)
  pub size : length told ≡ r
  pub few : length ring ≤ OUTGOING_LENGTH_MAX

pub holding : (a : Inside) → the_invariant a → Holds a.records.items a.told.bytes a.ring.items a.reported a.lent a.begun a.sent
holding a i = record { valid = i.0; laid = i.1; size = i.2; few = i.3 }

-- the invariant, where the ring is known
pub rebuilt : {ks : List Record} {told ring : List ℕ} {r l : ℕ} {b : Bool} {s : ℕ} {new : Buffer ℕ} {n : ℕ} → Holds ks told ring r l b s → new ≡ buffer ring n → n ≡ OUTGOING_LENGTH_MAX
    → IsQueue (queue_in ks told new.items r l b s) × AreLaid ks (told ++ new.items) × (length told ≡ r) × (length new.items ≤ OUTGOING_LENGTH_MAX) × (new.capacity ≡ OUTGOING_LENGTH_MAX)
rebuilt {ks} {told} {ring} {r} {l} {b} {s} {new} {n} h is size =
    subst (λ (new : Buffer ℕ). IsQueue (queue_in ks told new.items r l b s) × AreLaid ks (told ++ new.items) × (length told ≡ r) × (length new.items ≤ OUTGOING_LENGTH_MAX) × (new.capacity ≡ OUTGOING_LENGTH_MAX)) (sym is)
    (h.valid, h.laid, h.size, h.few, size)

-- it holds the bytes of the ring
pub ring_held : {ks : List Record} {told ring : List ℕ} {r l : ℕ} {b : Bool} {s : ℕ} → Holds ks told ring r l b s → held (queue_in ks told ring r l b s) ≡ length ring
ring_held {ks} {told} {ring} {r} {l} {b} {s} h =
    omega (arith, entries_hold (entries_of ks (told ++ ring)) r l b s h.valid, laid_held ks (told ++ ring) h.laid, h.size, length-append told ring)

pub none_of : {A : Type 0} (xs : List A) → length xs ≡ 0 → xs ≡ []
none_of [] none = refl
none_of (x ∷ xs) none = absurd (omega (arith, none))

pub begun_is : (b : Bool) → bool_byte b ≡ cond b 1 0
begun_is true = refl
begun_is false = refl

pub frames_count : (rs : List Record) (bytes : List ℕ) → length (frames_of (entries_of rs bytes)) ≡ length rs
frames_count [] bytes = refl
frames_count (x ∷ xs) bytes = ap suc (frames_count xs (drop (span x) bytes))

-- ---- Without the last

unlast : (rs : List Record) (r : Record) (bytes : List ℕ) → AreLaid (rs ++ r ∷ []) bytes
    → (span r ≤ length bytes) × (10 + r.payload ≤ OUTGOING_LENGTH_MAX) × AreLaid rs (take (length bytes - span r) bytes)
unlast [] r bytes laid =
    let none = ap length laid.3 in
    let zero : length bytes - span r ≡ 0 = omega (arith, none, length-drop (span r) bytes) in
    (laid.1, laid.2, ap (λ n. take n bytes) zero)
unlast (x ∷ xs) r bytes laid =
    let rest = drop (span x) bytes in
    let i = unlast xs r rest laid.3 in
    let fits = laid.1 in
    let last = i.0 in
    let left = length-drop (span x) bytes in
    let n = length bytes - span r in
    let long : length (take n bytes) ≡ n = simp length-take (omega arith) in
    let n_is : n ≡ span x + (length rest - span r) = omega (arith, fits, last, left) in
    let behind : drop (span x) (take n bytes) ≡ take (length rest - span r) rest = ap (λ k. drop (span x) (take k bytes)) n_is ∙ drop-take (span x) (length rest - span r) bytes in (
      omega (arith, fits, last, left),
      i.1,
      (
        sym (take_less 10 n bytes (omega (arith, long, n_is))) ∙ laid.0,
        omega (arith, long, n_is),
        laid.2,
        subst (AreLaid xs) (sym behind) i.2,
      ),
    )

-- it has a last record, whose frame hasn't begun
pub record IsLast (ks rs : List Record) (x : Record) (told ring : List ℕ) (r l : ℕ) (b : Bool) (s : ℕ) : Type 0 where
  pub holds : Holds ks told ring r l b s
  pub split : ks ≡ rs ++ x ∷ []
  pub may : last_may_change (queue_in ks told ring r l b s) ≡ true

module _ {ks rs : List Record} {x : Record} {told ring : List ℕ} {r l : ℕ} {b : Bool} {s : ℕ} (k : IsLast ks rs x told ring r l b s) where
  last_valid : IsQueue (queue_in (rs ++ x ∷ []) told ring r l b s)
  last_valid = subst (λ ks. IsQueue (queue_in ks told ring r l b s)) k.split k.holds.valid

  last_laid : AreLaid (rs ++ x ∷ []) (told ++ ring)
  last_laid = subst (λ ks. AreLaid ks (told ++ ring)) k.split k.holds.laid

  -- the frame lies whole in the ring
  pub last_in_ring : (span x ≤ length ring) × (10 + x.payload ≤ OUTGOING_LENGTH_MAX)
  last_in_ring = by b rs last_valid last_laid (subst (λ ks. last_may_change (queue_in ks told ring r l b s) ≡ true) k.split k.may)
    where
      by : (b : Bool) (rs : List Record) → IsQueue (queue_in (rs ++ x ∷ []) told ring r l b s) → AreLaid (rs ++ x ∷ []) (told ++ ring) → last_may_change (queue_in (rs ++ x ∷ []) told ring r l b s) ≡ true → (span x ≤ length ring) × (10 + x.payload ≤ OUTGOING_LENGTH_MAX)
      by false rs h laid may =
          let i = unlast rs x (told ++ ring) laid in
          let fits = i.0 in
          let none : r ≡ 0 = (h.fresh refl).0 in
          (omega (arith, fits, none, k.holds.size, length-append told ring), i.1)
      by true [] h laid may = absurd (omega (arith, ltb-true 1 1 may))
      by true (y ∷ ys) h laid may =
          let i = unlast (y ∷ ys) x (told ++ ring) laid in
          let within = h.within in
          let fits = laid.1 in
          let first = frame_length y (told ++ ring) fits in
          let all = laid_spans (y ∷ ys ++ x ∷ []) (told ++ ring) laid in
          let parts = spans_joined ys (x ∷ []) in
          (omega (arith, within, first, all, parts, k.holds.size, length-append told ring), i.1)

  -- the bytes of the others
  abbrev pub others : List ℕ
  others = take (length ring - span x) ring

  others_are : told ++ others ≡ take (length (told ++ ring) - span x) (told ++ ring)
  others_are =
      let fits = last_in_ring.0 in
      let sum : length (told ++ ring) - span x ≡ length told + (length ring - span x) = omega (arith, fits, length-append told ring) in
      sym (ap (λ n. take n (told ++ ring)) sum ∙ take-append-add told ring (length ring - span x))

  pub others_laid : AreLaid rs (told ++ others)
  others_laid = subst (AreLaid rs) (sym others_are) (unlast rs x (told ++ ring) last_laid).2

  abbrev last_entry : Entry
  last_entry = entry_of x (drop (length (told ++ ring) - span x) (told ++ ring))

  last_split : entries_of ks (told ++ ring) ≡ entries_of rs (told ++ others) ++ last_entry ∷ []
  last_split =
      let n = length (told ++ ring) - span x in
      ap (λ ks. entries_of ks (told ++ ring)) k.split
      ∙ ap (entries_of (rs ++ x ∷ [])) (sym (take-append-drop n (told ++ ring)) ∙ ap (λ front. front ++ drop n (told ++ ring)) (sym others_are))
      ∙ entries_last rs x (told ++ others) (drop n (told ++ ring)) others_laid

  -- it is taken back
  last_may : last_may_change (of_entries (entries_of rs (told ++ others) ++ last_entry ∷ []) r l b s) ≡ true
  last_may = subst (λ es. last_may_change (of_entries es r l b s) ≡ true) last_split k.may

  pub cut_view : queue_in rs told others r l b s ≡ withdrawn (queue_in ks told ring r l b s)
  cut_view = view_withdrawn (entries_of rs (told ++ others)) last_entry r l b s last_may ∙ ap (λ es. withdrawn (of_entries es r l b s)) (sym last_split)

  pub cut_holds : Holds rs told others r l b s
  cut_holds = record {
    valid = withdrawn_is_queue (entries_of rs (told ++ others)) last_entry r l b s (subst (λ es. IsQueue (of_entries es r l b s)) last_split k.holds.valid) last_may;
    laid = others_laid;
    size = k.holds.size;
    few = omega (arith, k.holds.few, length-take (length ring - span x) ring);
  }

  -- it gets a payload
  module _ (payload unread ring2 : List ℕ) (y : Record) (wide : ring2 ≡ others ++ (header_bytes y.header ++ (payload ++ unread))) (y_is : y ≡ record x { header = record x.header { length = length payload % 2 ^ 32 }; payload = length payload }) (more : length unread ≡ x.gone) (fill_may : may_fill (queue_in ks told ring r l b s) payload ≡ true) where
    long : y.payload ≡ length payload
    long = ap (λ (y : Record). y.payload) y_is

    rest : length unread ≡ y.gone
    rest = more ∙ sym (ap (λ (y : Record). y.gone) y_is)

    pub refilled_view : queue_in (rs ++ y ∷ []) told ring2 r l b s ≡ filled (queue_in ks told ring r l b s) payload
    refilled_view =
        let es = entries_of rs (told ++ others) in
        let new : Entry = record { frame = record { message = record { header = y.header; payload = payload }; ticket = y.ticket; is_unary_request = y.is_unary_request; owner = y.owner }; gone = y.gone } in
        let same : new ≡ record last_entry { frame = with_payload last_entry.frame payload } = ap (λ (y : Record). let e : Entry = record { frame = record { message = record { header = y.header; payload = payload }; ticket = y.ticket; is_unary_request = y.is_unary_request; owner = y.owner }; gone = y.gone } in e) y_is in
        ap (λ es. of_entries es r l b s) (put_entries rs told others y payload unread ring2 others_laid wide long rest ∙ ap (λ e. es ++ e ∷ []) same)
        ∙ view_filled es last_entry payload r l b s (subst (λ es. may_fill (of_entries es r l b s) payload ≡ true) last_split fill_may)
        ∙ ap (λ es. filled (of_entries es r l b s) payload) (sym last_split)

    pub refilled_holds : length payload + length ring ≤ OUTGOING_LENGTH_MAX → Holds (rs ++ y ∷ []) told ring2 r l b s
    refilled_holds fits =
        let lies = last_in_ring.0 in
        let parts = length-append payload unread in
        let w = length-append (header_bytes y.header) (payload ++ unread) in
        let all = ap (λ (xs : List ℕ). length xs) wide ∙ length-append others (header_bytes y.header ++ (payload ++ unread)) in
        let front : length others ≡ length ring - span x = simp length-take (omega arith) in
        record {
          valid = subst IsQueue (sym refilled_view) (filled_is_queue (queue_in ks told ring r l b s) payload k.holds.valid);
          laid = put_laid rs told others y payload unread ring2 others_laid wide long rest (omega (arith, fits, lies));
          size = k.holds.size;
          few = omega (arith, all, front, w, parts, more, fits, lies);
        }

-- ---- A frame is placed

abbrev pub frame_record : Queued → Record
frame_record f = record { header = f.message.header; ticket = f.ticket; is_unary_request = f.is_unary_request; owner = f.owner; payload = length f.message.payload; gone = 0 }

module _ {ks : List Record} {told ring : List ℕ} {r l : ℕ} {b : Bool} {s : ℕ} (h : Holds ks told ring r l b s) (f : Queued) (x : Record) (ks2 : List Record) (ring2 : List ℕ) (more : ks2 ≡ ks ++ x ∷ []) (x_is : x ≡ frame_record f) (wide : ring2 ≡ ring ++ (header_bytes f.message.header ++ f.message.payload)) where
  wide_here : ring2 ≡ ring ++ (header_bytes x.header ++ (f.message.payload ++ []))
  wide_here = wide ∙ ap (λ p. ring ++ (header_bytes f.message.header ++ p)) (sym (append-nil f.message.payload)) ∙ ap (λ (x : Record). ring ++ (header_bytes x.header ++ (f.message.payload ++ []))) (sym x_is)

  whole : x.payload ≡ length f.message.payload
  whole = ap (λ (x : Record). x.payload) x_is

  pub placed_view : queue_in ks2 told ring2 r l b s ≡ with_frame (queue_in ks told ring r l b s) f
  placed_view =
      ap (λ ks. queue_in ks told ring2 r l b s) more
      ∙ ap (λ es. of_entries es r l b s) (put_entries ks told ring x f.message.payload [] ring2 h.laid wide_here whole (sym (ap (λ (x : Record). x.gone) x_is)))
      ∙ ap (λ (x : Record). of_entries (entries_of ks (told ++ ring) ++ record { frame = record { message = record { header = x.header; payload = f.message.payload }; ticket = x.ticket; is_unary_request = x.is_unary_request; owner = x.owner }; gone = x.gone } ∷ []) r l b s) x_is
      ∙ view_placed (entries_of ks (told ++ ring)) f r l b s

  pub placed_holds : 10 + length f.message.payload + length ring ≤ OUTGOING_LENGTH_MAX → Holds ks2 told ring2 r l b s
  placed_holds fits =
      let w = length-append (header_bytes f.message.header) f.message.payload in
      let all = ap (λ (xs : List ℕ). length xs) wide ∙ length-append ring (header_bytes f.message.header ++ f.message.payload) in
      record {
        valid = subst IsQueue (sym placed_view) (with_frame_is_queue (queue_in ks told ring r l b s) f h.valid);
        laid = subst (λ ks. AreLaid ks (told ++ ring2)) (sym more) (put_laid ks told ring x f.message.payload [] ring2 h.laid wide_here whole (sym (ap (λ (x : Record). x.gone) x_is)) (omega (arith, fits)));
        size = h.size;
        few = omega (arith, all, w, fits);
      }

-- ---- The first frame

-- what is left of it
first_rest : (fs : List Queued) (n : ℕ) → length (first_open fs n) ≡ length (first_open fs 0) - n
first_rest [] n = omega arith
first_rest (f ∷ fs) n = length-drop n (written f.message)

first_small : (rs : List Record) (bytes : List ℕ) → AreLaid rs bytes → length (first_open (frames_of (entries_of rs bytes)) 0) ≤ OUTGOING_LENGTH_MAX
first_small [] bytes laid = omega arith
first_small (x ∷ xs) bytes laid = let small = laid.2 in omega (arith, small, frame_length x bytes laid.1)

within_first : (fs : List Queued) (n : ℕ) → IsWithin fs n → n ≤ length (first_open fs 0)
within_first [] n within = omega arith
within_first (f ∷ fs) n within = omega arith

front_length : (rs : List Record) (x : Record) (bytes : List ℕ) → 0 < length rs → x ≡ get_or rs 0 x → AreLaid rs bytes → length (first_open (frames_of (entries_of rs bytes)) 0) ≡ 10 + x.payload
front_length [] x bytes some is laid = absurd (omega (arith, some))
front_length (y ∷ ys) x bytes some is laid = frame_length y bytes laid.1 ∙ ap (λ (y : Record). 10 + y.payload) (sym is)

-- the front of told and untold bytes, behind those that were told
open_is : (told ring : List ℕ) (n all : ℕ) → length told ≡ n → n ≤ all → drop n (take all (told ++ ring)) ≡ take (all - n) ring
open_is told ring n all size le =
    let sum : all ≡ length told + (all - n) = omega (arith, size, le) in
    ap (λ k. drop n (take k (told ++ ring))) sum ∙ ap (drop n) (take-append-add told ring (all - n)) ∙ drop_at told (take (all - n) ring) n size

open_front : (rs : List Record) (told ring : List ℕ) (r : ℕ) → length told ≡ r → AreLaid rs (told ++ ring) → IsWithin (frames_of (entries_of rs (told ++ ring))) r
    → first_open (frames_of (entries_of rs (told ++ ring))) r ≡ take (length (first_open (frames_of (entries_of rs (told ++ ring))) r)) ring
open_front [] told ring r size laid within = refl
open_front (x ∷ xs) told ring r size laid within =
    let bytes = told ++ ring in
    let long = frame_length x bytes laid.1 in
    let left = length-drop r (written (frame_of x bytes).message) in
    let count : 10 + x.payload - r ≡ length (drop r (written (frame_of x bytes).message)) = omega (arith, long, left) in
    ap (drop r) (first_written x bytes laid.0 laid.1) ∙ open_is told ring r (10 + x.payload) size (omega (arith, within, long)) ∙ ap (λ n. take n ring) count

module _ {ks : List Record} {told ring : List ℕ} {r l : ℕ} {b : Bool} {s : ℕ} (h : Holds ks told ring r l b s) where
  abbrev queue : Queue
  queue = queue_in ks told ring r l b s

  -- what is left of it is the front of the ring
  pub open_in_ring : open_part queue ≡ take (length (open_part queue)) ring
  open_in_ring = open_front ks told ring r h.size h.laid h.valid.within

  pub open_fits : length (open_part queue) ≤ length ring
  open_fits = let same = ap (λ (xs : List ℕ). length xs) open_in_ring in omega (arith, same, length-take (length (open_part queue)) ring)

  pub open_taken : (n : ℕ) → n ≤ length (open_part queue) → take n ring ≡ take n (open_part queue)
  open_taken n le =
      let whole : length (take (length (open_part queue)) ring) ≡ length (open_part queue) = simp length-take (omega (arith, open_fits)) in
      take_less n (length (open_part queue)) ring (omega (arith, le, whole)) ∙ ap (take n) (sym open_in_ring)

  -- by its record
  pub front_open : (x : Record) → 0 < length ks → x ≡ get_or ks 0 x → (10 + x.payload ≤ OUTGOING_LENGTH_MAX) × (r ≤ 10 + x.payload) × (10 + x.payload - r ≡ length (open_part queue))
  front_open x some is =
      let fs = frames_of (entries_of ks (told ++ ring)) in
      let long = front_length ks x (told ++ ring) some is h.laid in
      (omega (arith, long, first_small ks (told ++ ring) h.laid), omega (arith, long, within_first fs r h.valid.within), omega (arith, long, first_rest fs r))

  -- so many of its bytes are reported
  module _ (n : ℕ) (le : n ≤ l) where
    pub reported_fits : n ≤ length (open_part queue)
    reported_fits = omega (arith, le, h.valid.lent)

    pub reported_small : r + n ≤ OUTGOING_LENGTH_MAX
    reported_small = omega (arith, report_fits queue n h.valid le, first_small ks (told ++ ring) h.laid)

    told_bytes : (told ++ take n ring) ++ drop n ring ≡ told ++ ring
    told_bytes = append_assoc told (take n ring) (drop n ring) ∙ ap (λ xs. told ++ xs) (take-append-drop n ring)

    pub part_view : n < length (open_part queue) → queue_in ks (told ++ take n ring) (drop n ring) (r + n) 0 b s ≡ after_report queue n
    part_view lt =
        let fs = frames_of (entries_of ks (told ++ ring)) in
        ap (λ bytes. of_entries (entries_of ks bytes) (r + n) 0 b s) told_bytes ∙ sym (report_of_a_part queue n (omega (arith, lt, first_rest fs r)))

    pub part_holds : n < length (open_part queue) → Holds ks (told ++ take n ring) (drop n ring) (r + n) 0 b s
    part_holds lt =
        let taken : length (take n ring) ≡ n = simp length-take (omega (arith, reported_fits, open_fits)) in
        record {
          valid = subst IsQueue (sym (part_view lt)) (after_report_is_queue queue n h.valid le);
          laid = subst (AreLaid ks) (sym told_bytes) h.laid;
          size = omega (arith, taken, h.size, length-append told (take n ring));
          few = omega (arith, h.few, length-drop n ring);
        }

    -- all are reported, and those that are held after it leave with them
    module _ (gone t : ℕ) (whole : length (open_part queue) ≤ n) (gone_is : gone ≡ first_gone (numbers_of (entries_of ks (told ++ ring)))) (t_is : t ≡ first_ticket (frames_of (entries_of ks (told ++ ring))) s) where
      abbrev pub Behind : List Record → Type 0
      Behind ks = (gone ≤ length (drop n ring)) × AreLaid (drop 1 ks) (drop gone (drop n ring)) × (entries_of (drop 1 ks) (drop gone (drop n ring)) ≡ drop 1 (entries_of ks (told ++ ring)))

      behind_first : (ks : List Record) → AreLaid ks (told ++ ring) → gone ≡ first_gone (numbers_of (entries_of ks (told ++ ring))) → r + n ≡ length (first_open (frames_of (entries_of ks (told ++ ring))) 0) → Behind ks
      behind_first [] laid is all =
          let none = ap (λ (xs : List ℕ). length xs) laid in
          let left = length-drop n ring in
          (omega (arith, is), drop_all gone (drop n ring) (omega (arith, none, left, length-append told ring)), refl)
      behind_first (x ∷ xs) laid is all =
          let fits = laid.1 in
          let long = frame_length x (told ++ ring) fits in
          let span_is : span x ≡ length told + (n + gone) = omega (arith, all, long, is, h.size) in
          let behind : drop (span x) (told ++ ring) ≡ drop gone (drop n ring) = ap (λ k. drop k (told ++ ring)) span_is ∙ drop-append-add told ring (n + gone) ∙ sym (drop-drop gone n ring) in
          (omega (arith, fits, span_is, length-append told ring, length-drop n ring), subst (AreLaid xs) behind laid.3, ap (entries_of xs) (sym behind))

      pub finished_behind : Behind ks
      finished_behind =
          let fs = frames_of (entries_of ks (told ++ ring)) in
          behind_first ks h.laid gone_is (omega (arith, whole, report_fits queue n h.valid le, first_rest fs r))

      dropped : (es : List Entry) → of_entries (drop 1 es) 0 0 false t ≡ queue_of false (drop 1 (frames_of es)) 0 0 t (drop 1 (trimmed (numbers_of es)))
      dropped [] = refl
      dropped (e ∷ es) = ap (queue_of false (frames_of es) 0 0 t) (sym (drop_trimmed (numbers_of (e ∷ es))))

      pub finished_view : queue_in (drop 1 ks) [] (drop gone (drop n ring)) 0 0 false t ≡ after_report queue n
      finished_view =
          let es = entries_of ks (told ++ ring) in
          let all : length (first_open (frames_of es) 0) ≤ r + n = omega (arith, whole, first_rest (frames_of es) r) in
          ap (λ es. of_entries es 0 0 false t) finished_behind.2 ∙ dropped es
          ∙ ap (λ t. queue_of false (drop 1 (frames_of es)) 0 0 t (drop 1 (trimmed (numbers_of es)))) t_is
          ∙ sym (report_of_all queue n h.valid all)

      pub finished_holds : Holds (drop 1 ks) [] (drop gone (drop n ring)) 0 0 false t
      finished_holds = record {
        valid = finished_is_queue (entries_of (drop 1 ks) (drop gone (drop n ring))) t;
        laid = finished_behind.1;
        size = refl;
        few = omega (arith, h.few, length-drop n ring, length-drop gone (drop n ring));
      }

-- ---- Frames that are thrown away

-- what holds of the records that stay
abbrev Stays : (ℕ → Bool) → List Record → List ℕ → Type 0
Stays owners rs bytes =
    (gone_records owners rs ≡ gone_before owners (entries_of rs bytes))
    × (gone_records owners rs ≤ length bytes)
    × AreLaid (kept_records owners rs) (drop (gone_records owners rs) bytes)
    × (entries_of (kept_records owners rs) (drop (gone_records owners rs) bytes) ≡ kept_of owners (entries_of rs bytes))

-- one that stays, before others
module _ (owners : ℕ → Bool) (x : Record) (xs : List Record) (bytes : List ℕ) (laid : AreLaid (x ∷ xs) bytes) (stays : Stays owners xs (drop (span x) bytes)) where
  after_span : drop (span x + gone_records owners xs) bytes ≡ drop (gone_records owners xs) (drop (span x) bytes)
  after_span = sym (drop-drop (gone_records owners xs) (span x) bytes)

  span_more : span (record x { gone = x.gone + gone_records owners xs }) ≡ span x + gone_records owners xs
  span_more = omega arith

  pub first_stays_laid : AreLaid (record x { gone = x.gone + gone_records owners xs } ∷ kept_records owners xs) bytes
  first_stays_laid =
      let fits = laid.1 in let more = stays.1 in
      (laid.0, omega (arith, fits, more, length-drop (span x) bytes), laid.2, subst (AreLaid (kept_records owners xs)) (sym (ap (λ n. drop n bytes) span_more ∙ after_span)) stays.2)

  pub first_stays_entries : entries_of (record x { gone = x.gone + gone_records owners xs } ∷ kept_records owners xs) bytes
      ≡ record (entry_of x bytes) { gone = x.gone + gone_before owners (entries_of xs (drop (span x) bytes)) } ∷ kept_of owners (entries_of xs (drop (span x) bytes))
  first_stays_entries =
      let e : ℕ → Entry = λ n. record (entry_of x bytes) { gone = x.gone + n } in
      ap (λ es. e (gone_records owners xs) ∷ es) (ap (entries_of (kept_records owners xs)) (ap (λ n. drop n bytes) span_more ∙ after_span) ∙ stays.3)
      ∙ ap (λ n. e n ∷ kept_of owners (entries_of xs (drop (span x) bytes))) stays.0

stay : (owners : ℕ → Bool) (rs : List Record) (bytes : List ℕ) → AreLaid rs bytes → Stays owners rs bytes
stay owners [] bytes laid = (refl, omega arith, laid, refl)
stay owners (x ∷ xs) bytes laid = by (is_record_of owners x) (stay owners xs (drop (span x) bytes) laid.3)
  where
    rest : List ℕ
    rest = drop (span x) bytes

    by : (c : Bool) → Stays owners xs (drop (span x) bytes)
        → (cond c (span x + gone_records owners xs) 0 ≡ cond c (length (written (frame_of x bytes).message) + x.gone + gone_before owners (entries_of xs (drop (span x) bytes))) 0)
        × (cond c (span x + gone_records owners xs) 0 ≤ length bytes)
        × AreLaid (cond c (kept_records owners xs) (record x { gone = x.gone + gone_records owners xs } ∷ kept_records owners xs)) (drop (cond c (span x + gone_records owners xs) 0) bytes)
        × (entries_of (cond c (kept_records owners xs) (record x { gone = x.gone + gone_records owners xs } ∷ kept_records owners xs)) (drop (cond c (span x + gone_records owners xs) 0) bytes)
        ≡ cond c (kept_of owners (entries_of xs (drop (span x) bytes))) (record (entry_of x bytes) { gone = x.gone + gone_before owners (entries_of xs (drop (span x) bytes)) } ∷ kept_of owners (entries_of xs (drop (span x) bytes))))
    by true stays =
        let fits = laid.1 in let same = stays.0 in let more = stays.1 in
        let behind = after_span owners x xs bytes laid stays in
        (omega (arith, frame_length x bytes fits, same), omega (arith, fits, more, length-drop (span x) bytes), subst (AreLaid (kept_records owners xs)) (sym behind) stays.2, ap (entries_of (kept_records owners xs)) behind ∙ stays.3)
    by false stays = (refl, omega arith, first_stays_laid owners x xs bytes laid stays, first_stays_entries owners x xs bytes laid stays)

untold : (told ring : List ℕ) (n : ℕ) → length told ≡ 0 → told ++ drop n ring ≡ drop n (told ++ ring)
untold [] ring n none = refl
untold (t ∷ ts) ring n none = absurd (omega (arith, none))

dropped_spans : (n : ℕ) (rs : List Record) → spans (drop n rs) ≤ spans rs
dropped_spans zero rs = omega arith
dropped_spans (suc n) [] = omega arith
dropped_spans (suc n) (x ∷ xs) = omega (arith, dropped_spans n xs)

gone_fits : (owners : ℕ → Bool) (rs : List Record) → gone_records owners rs ≤ spans rs
gone_fits owners [] = omega arith
gone_fits owners (x ∷ xs) = cond_both (is_record_of owners x) _ _ (λ n. n ≤ span x + spans xs) (λ _. omega (arith, gone_fits owners xs)) (λ _. omega arith)

module _ {ks : List Record} {told ring : List ℕ} {r l : ℕ} {b : Bool} {s : ℕ} (h : Holds ks told ring r l b s) (rest : List Record) (rest_is : rest ≡ drop (cond b 1 0) ks) where
  all_small : spans ks ≤ 2 * OUTGOING_LENGTH_MAX
  all_small =
      let fs = frames_of (entries_of ks (told ++ ring)) in
      omega (arith, laid_spans ks (told ++ ring) h.laid, length-append told ring, h.size, h.few, within_first fs r h.valid.within, first_small ks (told ++ ring) h.laid)

  pub rest_small : spans rest ≤ 2 * OUTGOING_LENGTH_MAX
  rest_small = let same = ap spans rest_is in omega (arith, same, dropped_spans (cond b 1 0) ks, all_small)

  -- where none of them has begun, and where the first has
  module _ (owners : ℕ → Bool) (kept : List Record) (gone : ℕ) (gone_is : gone ≡ gone_records owners rest) where
    module _ (first : [] ≡ take (cond b 1 0) ks) (kept_is : kept ≡ kept_records owners rest) where
      abbrev NoneBegun : Bool → List Record → Type 0
      NoneBegun b ks = (gone ≤ length ring) × AreLaid kept (told ++ drop gone ring) × (queue_in kept told (drop gone ring) r l b s ≡ without (queue_in ks told ring r l b s) owners)

      pub none_begun : NoneBegun b ks
      none_begun = by b ks h rest_is first
        where
          by : (b : Bool) (ks : List Record) → Holds ks told ring r l b s → rest ≡ drop (cond b 1 0) ks → [] ≡ take (cond b 1 0) ks → NoneBegun b ks
          by true [] h rest_is first = absurd (let e = h.valid.none refl in cc)
          by true (x ∷ xs) h rest_is first = absurd (cc)
          by false ks h rest_is first =
              let bytes = told ++ ring in
              let none : length told ≡ 0 = h.size ∙ (h.valid.fresh refl).0 in
              let stays = stay owners ks bytes h.laid in
              let fits = stays.1 in
              let count : gone ≡ gone_records owners ks = gone_is ∙ ap (gone_records owners) rest_is in
              let those : kept ≡ kept_records owners ks = kept_is ∙ ap (kept_records owners) rest_is in
              let behind : told ++ drop gone ring ≡ drop (gone_records owners ks) bytes = untold told ring gone none ∙ ap (λ n. drop n bytes) count in
              let view : entries_of kept (told ++ drop gone ring) ≡ kept_of owners (entries_of ks bytes) = ap (entries_of kept) behind ∙ ap (λ rs. entries_of rs (drop (gone_records owners ks) bytes)) those ∙ stays.3 in (
                omega (arith, count, fits, none, length-append told ring),
                subst (AreLaid kept) (sym behind) (subst (λ rs. AreLaid rs (drop (gone_records owners ks) bytes)) (sym those) stays.2),
                ap (λ es. of_entries es r l false s) view ∙ view_thrown owners (entries_of ks bytes) r l s,
              )

      pub none_holds : Holds kept told (drop gone ring) r l b s
      none_holds = record {
        valid = subst IsQueue (sym none_begun.2) (without_is_queue (queue_in ks told ring r l b s) owners h.valid);
        laid = none_begun.1;
        size = h.size;
        few = omega (arith, h.few, length-drop gone ring);
      }

    module _ (x : Record) (first : x ∷ [] ≡ take (cond b 1 0) ks) where
      abbrev FirstBegun : Bool → List Record → Type 0
      FirstBegun b ks = (x.gone + gone ≤ spans ks) × (kept ≡ record x { gone = x.gone + gone } ∷ kept_records owners rest → AreLaid kept (told ++ ring) × (queue_in kept told ring r l b s ≡ without (queue_in ks told ring r l b s) owners))

      first_begun : FirstBegun b ks
      first_begun = by b ks h rest_is first
        where
          by : (b : Bool) (ks : List Record) → Holds ks told ring r l b s → rest ≡ drop (cond b 1 0) ks → x ∷ [] ≡ take (cond b 1 0) ks → FirstBegun b ks
          by false ks h rest_is first = absurd (cc)
          by true [] h rest_is first = absurd (cc)
          by true (y ∷ ys) h rest_is first =
              let bytes = told ++ ring in
              let stays = stay owners ys (drop (span y) bytes) h.laid.3 in
              let same : x ≡ y = ap (λ (l : List Record). get_or l 0 x) first in
              let number = ap (λ (x : Record). x.gone) same in
              let count : gone ≡ gone_records owners ys = gone_is ∙ ap (gone_records owners) rest_is in
              let those : kept_records owners rest ≡ kept_records owners ys = ap (kept_records owners) rest_is in (
                omega (arith, number, count, gone_fits owners ys),
                λ kept_is.
                    let new : kept ≡ record y { gone = y.gone + gone_records owners ys } ∷ kept_records owners ys =
                    kept_is ∙ ap (λ (x : Record). record x { gone = x.gone + gone } ∷ kept_records owners rest) same
                    ∙ ap (λ n. record y { gone = y.gone + n } ∷ kept_records owners rest) count
                    ∙ ap (λ rs. record y { gone = y.gone + gone_records owners ys } ∷ rs) those in (
                      subst (λ rs. AreLaid rs bytes) (sym new) (first_stays_laid owners y ys bytes h.laid stays),
                      ap (λ rs. queue_in rs told ring r l true s) new
                          ∙ ap (λ es. of_entries es r l true s) (first_stays_entries owners y ys bytes h.laid stays)
                          ∙ view_thrown_after owners (entry_of y bytes) (entries_of ys (drop (span y) bytes)) r l s,
                    ),
              )

      pub first_small_gone : x.gone + gone ≤ 2 * OUTGOING_LENGTH_MAX
      first_small_gone = let fits = first_begun.0 in omega (arith, fits, all_small)

      module _ (kept_is : kept ≡ record x { gone = x.gone + gone } ∷ kept_records owners rest) where
        pub first_view : queue_in kept told ring r l b s ≡ without (queue_in ks told ring r l b s) owners
        first_view = (first_begun.1 kept_is).1

        pub first_holds : Holds kept told ring r l b s
        first_holds = record {
          valid = subst IsQueue (sym first_view) (without_is_queue (queue_in ks told ring r l b s) owners h.valid);
          laid = (first_begun.1 kept_is).0;
          size = h.size;
          few = h.few;
        }

-- ---- What a step of the loop comes to

-- one more record was looked at: one that is thrown away, and one that stays
pub thrown_step : (owners : ℕ → Bool) (x : Record) (xs : List Record) → is_record_of owners x ≡ true
    → (kept_records owners (x ∷ xs) ≡ kept_records owners xs) × (gone_records owners (x ∷ xs) ≡ span x + gone_records owners xs)
thrown_step owners x xs is = (cond-true (is_record_of owners x) _ _ is, cond-true (is_record_of owners x) _ _ is)

pub kept_step : (owners : ℕ → Bool) (x : Record) (xs : List Record) → is_record_of owners x ≡ false
    → (kept_records owners (x ∷ xs) ≡ record x { gone = x.gone + gone_records owners xs } ∷ kept_records owners xs) × (gone_records owners (x ∷ xs) ≡ 0)
kept_step owners x xs is = (cond-false (is_record_of owners x) _ _ is, cond-false (is_record_of owners x) _ _ is)

-- the bytes of one of them, and those before the next that stays
pub step_fits : (owners : ℕ → Bool) (before : List Record) (x : Record) (xs : List Record) → span x + gone_records owners xs ≤ spans (before ++ x ∷ xs)
step_fits owners before x xs = omega (arith, spans_joined before (x ∷ xs), gone_fits owners xs)

-- the last of two lists is the last of the second
pub last_of_both : {A : Type 0} (xs ys zs : List A) (e : A) → 0 < length ys → xs ++ ys ≡ zs ++ e ∷ [] → (front : List A) × (ys ≡ front ++ e ∷ []) × (zs ≡ xs ++ front)
last_of_both [] ys zs e some is = (zs, is, refl)
last_of_both {A} (x ∷ xs) ys [] e some is = absurd (let size = ap (λ (l : List A). length l) is in omega (arith, size, length-append xs ys))
last_of_both {A} (x ∷ xs) ys (z ∷ zs) e some is =
    let r = last_of_both xs ys zs e some (ap (drop 1) is) in
    let same : x ≡ z = ap (λ (l : List A). get_or l 0 x) is in
    (r.0, r.1, ap (λ k. k ∷ zs) (sym same) ∙ ap (λ l. x ∷ l) r.2)

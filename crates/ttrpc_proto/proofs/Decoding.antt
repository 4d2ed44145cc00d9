-- What a decoder's fields say of what it holds, and what a call makes of it.
use Rattle.std.proofs.Common.{◌≡◌, ℕ, ◌+◌, ◌-◌, ◌<◌, ◌≤◌, List, [], ◌∷◌, ◌++◌, length, take, min, refl, sym, ap, subst, ◌∙◌, arith, length-append, inl, inr}
use Rattle.std.proofs.Math.ListN.{replicate}
use Rattle.std.proofs.lemmas.Bool.{cases_lt}
use Rattle.std.proofs.lemmas.List.{append-nil, take_all, length-take, length-take-le, length-replicate, take-append-le}
use Rattle.ttrpc_proto.specs.declared.framing.header.MessageHeader.{MessageHeader}
use Rattle.ttrpc_proto.specs.declared.framing.frame.Incoming.TheVariants.{Frame, Oversize}
use Rattle.ttrpc_proto.specs.Framing.Header.{header_of}
use Rattle.ttrpc_proto.specs.Framing.Frames.{Held, Holds, nothing, Fed}
use Rattle.ttrpc_proto.specs.Framing.Decoder.{IsDecoder}
use Rattle.ttrpc_proto.proofs.Frames.{header_front, head_goes_on, head_is_frame, body_goes_on, body_is_frame, count_goes_on, count_is_frame, held_short, held_kept, held_passed}

-- the header is whole
pub is_full : (head : List ℕ) (filled : ℕ) (body : List ℕ) (counted : ℕ) → IsDecoder head filled body counted → 10 ≤ length (take filled head ++ body) → filled ≡ 10
is_full head filled body counted d long = elim (cases_lt filled 10) [
  | inl less ↦
      let e : take filled head ++ body ≡ take filled head = ap (λ b. take filled head ++ b) ((d.early less).0) ∙ append-nil (take filled head) in
      let l : 10 ≤ min filled (length head) = subst (λ n. 10 ≤ n) (ap length e ∙ length-take filled head) long in
      absurd (omega (arith, l, less))
  | inr more ↦ omega (arith, d.filled_fits, more)
]

pub held_bytes : (head : List ℕ) (filled : ℕ) (body : List ℕ) → length head ≡ 10 → filled ≡ 10 → take filled head ++ body ≡ head ++ body
held_bytes head filled body size full = ap (λ h. h ++ body) (take_all filled head (omega (arith, size, full)))

pub is_counting : (head : List ℕ) (filled : ℕ) (body : List ℕ) (counted : ℕ) → IsDecoder head filled body counted
    → 10 ≤ length (take filled head ++ body) → 4194304 < (header_of (take filled head ++ body)).length
    → (body ≡ []) × (take filled head ++ body ≡ head) × (counted < (header_of head).length)
is_counting head filled body counted d long over =
    let full = is_full head filled body counted d long in
    let same = held_bytes head filled body d.size full in
    let h : header_of (take filled head ++ body) ≡ header_of head = ap header_of same ∙ header_front head body d.size in
    let p = d.passed full (subst (λ (x : MessageHeader). 4194304 < x.length) h over) in
    (p.0, same ∙ ap (λ b. head ++ b) p.0 ∙ append-nil head, p.1)

pub is_keeping : (head : List ℕ) (filled : ℕ) (body : List ℕ) (counted : ℕ) → IsDecoder head filled body counted
    → 10 ≤ length (take filled head ++ body) → (header_of (take filled head ++ body)).length ≤ 4194304
    → (counted ≡ 0) × (take filled head ++ body ≡ head ++ body) × (length body < (header_of head).length) × (header_of (take filled head ++ body) ≡ header_of head)
is_keeping head filled body counted d long short =
    let full = is_full head filled body counted d long in
    let same = held_bytes head filled body d.size full in
    let h : header_of (take filled head ++ body) ≡ header_of head = ap header_of same ∙ header_front head body d.size in
    let p = d.kept full (subst (λ (x : MessageHeader). x.length ≤ 4194304) h short) in
    (p.0, same, p.1, h)

-- ---- a payload that is too long

pub count_stays : (head : List ℕ) (filled : ℕ) (body : List ℕ) (counted : ℕ) (p : List ℕ) (h : MessageHeader) → IsDecoder head filled body counted
    → 10 ≤ length (take filled head ++ body) → h ≡ header_of (take filled head ++ body) → 4194304 < h.length → length p < h.length - counted
    → Fed (record { bytes = take filled head ++ body; counted = counted }) (take (length p) p) [] (record { bytes = take filled head ++ body; counted = counted + length p })
count_stays head filled body counted p h d long e over less =
    let o : 4194304 < (header_of (take filled head ++ body)).length = subst (λ (x : MessageHeader). 4194304 < x.length) e over in
    let c = is_counting head filled body counted d long o in
    let g : h ≡ header_of head = e ∙ ap header_of c.1 in
    let o2 : 4194304 < (header_of head).length = subst (λ (x : MessageHeader). 4194304 < x.length) g over in
    let l : length p < (header_of head).length - counted = subst (λ (x : MessageHeader). length p < x.length - counted) g less in
    rw (c.1, take_all (length p) p (omega arith)) (count_goes_on head p counted d.size o2 (omega (arith, l)))

pub count_ends : (head : List ℕ) (filled : ℕ) (body : List ℕ) (counted : ℕ) (p : List ℕ) (h : MessageHeader) → IsDecoder head filled body counted
    → 10 ≤ length (take filled head ++ body) → h ≡ header_of (take filled head ++ body) → 4194304 < h.length → h.length - counted ≤ length p
    → Fed (record { bytes = take filled head ++ body; counted = counted }) (take (h.length - counted) p) (Oversize h ∷ []) (record { bytes = take 0 head ++ body; counted = 0 })
count_ends head filled body counted p h d long e over le =
    let o : 4194304 < (header_of (take filled head ++ body)).length = subst (λ (x : MessageHeader). 4194304 < x.length) e over in
    let c = is_counting head filled body counted d long o in
    let g : h ≡ header_of head = e ∙ ap header_of c.1 in
    let o2 : 4194304 < (header_of head).length = subst (λ (x : MessageHeader). 4194304 < x.length) g over in
    let n : length (take (h.length - counted) p) ≡ h.length - counted = length-take-le _ p le in
    let s : counted + length (take (h.length - counted) p) ≡ (header_of head).length = subst (λ (x : MessageHeader). counted + length (take (h.length - counted) p) ≡ x.length) g (omega (arith, n, c.2, ap MessageHeader.length g)) in
    let f : Fed (record { bytes = head; counted = counted }) (take (h.length - counted) p) (Oversize (header_of head) ∷ []) nothing = count_is_frame head (take (h.length - counted) p) counted d.size o2 s in
    rw (c.1, c.0) (subst (λ x. Fed (record { bytes = head; counted = counted }) (take (h.length - counted) p) (Oversize x ∷ []) nothing) (sym g) f)

-- ---- a payload that is kept

pub body_stays : (head : List ℕ) (filled : ℕ) (body : List ℕ) (counted : ℕ) (p : List ℕ) (h : MessageHeader) → IsDecoder head filled body counted
    → 10 ≤ length (take filled head ++ body) → h ≡ header_of (take filled head ++ body) → h.length ≤ 4194304 → length p < h.length - length body
    → Fed (record { bytes = take filled head ++ body; counted = counted }) p [] (record { bytes = take filled head ++ (body ++ p); counted = counted })
body_stays head filled body counted p h d long e short less =
    let s : (header_of (take filled head ++ body)).length ≤ 4194304 = subst (λ (x : MessageHeader). x.length ≤ 4194304) e short in
    let k = is_keeping head filled body counted d long s in
    let full : take filled head ≡ head = take_all filled head (omega (arith, d.size, is_full head filled body counted d long)) in
    let g : h ≡ header_of head = e ∙ k.3 in
    let l : length p < (header_of head).length - length body = subst (λ (x : MessageHeader). length p < x.length - length body) g less in
    rw (full, k.0) (body_goes_on head body p d.size (subst (λ (x : MessageHeader). x.length ≤ 4194304) g short) (omega (arith, l)))

pub body_ends : (head : List ℕ) (filled : ℕ) (body : List ℕ) (counted : ℕ) (p : List ℕ) (h : MessageHeader) → IsDecoder head filled body counted
    → 10 ≤ length (take filled head ++ body) → h ≡ header_of (take filled head ++ body) → h.length ≤ 4194304 → length p ≡ h.length - length body
    → Fed (record { bytes = take filled head ++ body; counted = counted }) p (Frame (record { header = h; payload = body ++ p }) ∷ []) (record { bytes = take 0 head ++ []; counted = counted })
body_ends head filled body counted p h d long e short same =
    let s : (header_of (take filled head ++ body)).length ≤ 4194304 = subst (λ (x : MessageHeader). x.length ≤ 4194304) e short in
    let k = is_keeping head filled body counted d long s in
    let full : take filled head ≡ head = take_all filled head (omega (arith, d.size, is_full head filled body counted d long)) in
    let g : h ≡ header_of head = e ∙ k.3 in
    let l : length body + length p ≡ (header_of head).length = omega (arith, same, k.2, ap MessageHeader.length g) in
    let f : Fed (record { bytes = head ++ body; counted = 0 }) p (Frame (record { header = header_of head; payload = body ++ p }) ∷ []) nothing =
    body_is_frame head body p d.size (subst (λ (x : MessageHeader). x.length ≤ 4194304) g short) l in
    rw (full, k.0) (subst (λ x. Fed (record { bytes = head ++ body; counted = 0 }) p (Frame (record { header = x; payload = body ++ p }) ∷ []) nothing) (sym g) f)

-- ---- a header

early_bytes : (head : List ℕ) (filled : ℕ) (body : List ℕ) (counted : ℕ) → IsDecoder head filled body counted → length (take filled head ++ body) < 10
    → (filled < 10) × (body ≡ []) × (counted ≡ 0)
early_bytes head filled body counted d short =
    let l : length (take filled head ++ body) ≡ filled + length body = length-append (take filled head) body ∙ ap (λ n. n + length body) (length-take-le filled head (omega (arith, d.size, d.filled_fits))) in
    let f : filled < 10 = omega (arith, l, short) in
    let e = d.early f in
    (f, e.0, e.1)

pub head_stays : (head : List ℕ) (filled : ℕ) (body : List ℕ) (counted n : ℕ) (p now : List ℕ) → IsDecoder head filled body counted
    → length (take filled head ++ body) < 10 → length p ≡ n → length now ≡ 10 → take (filled + n) now ≡ take filled head ++ p → filled + n ≤ 10 → (10 ≤ filled + n → 0 < (header_of now).length)
    → Fed (record { bytes = take filled head ++ body; counted = counted }) p [] (record { bytes = take (filled + n) now ++ body; counted = counted })
head_stays head filled body counted n p now d short k size2 e le more =
    let f = early_bytes head filled body counted d short in
    let l : length (take (filled + n) now) ≡ filled + n = length-take-le _ now (omega (arith, size2, le)) in
    let m : 10 ≤ length (take (filled + n) now) → 0 < (header_of (take (filled + n) now)).length = λ long.
    subst (λ x. 0 < (header_of x).length) (sym (take_all (filled + n) now (omega (arith, l, size2, long)))) (more (omega (arith, l, long))) in
    rw (f.1, f.2, append-nil (take filled head), append-nil (take (filled + n) now))
    (head_goes_on (take filled head) p (take (filled + n) now) e (omega (arith, l, le)) m)

pub head_ends : (head : List ℕ) (filled : ℕ) (body : List ℕ) (counted n : ℕ) (p now : List ℕ) (h : MessageHeader) → IsDecoder head filled body counted
    → length (take filled head ++ body) < 10 → length p ≡ n → length now ≡ 10 → take (filled + n) now ≡ take filled head ++ p → 10 ≤ filled + n → h ≡ header_of now → h.length ≡ 0
    → Fed (record { bytes = take filled head ++ body; counted = counted }) p (Frame (record { header = h; payload = [] }) ∷ []) (record { bytes = take 0 now ++ body; counted = counted })
head_ends head filled body counted n p now h d short k size2 e long g none =
    let f = early_bytes head filled body counted d short in
    let w : now ≡ take filled head ++ p = sym (take_all (filled + n) now (omega (arith, size2, long))) ∙ e in
    let z : (header_of now).length ≡ 0 = subst (λ (x : MessageHeader). x.length ≡ 0) g none in
    let r : Fed (record { bytes = take filled head; counted = 0 }) p (Frame (record { header = header_of now; payload = [] }) ∷ []) nothing = head_is_frame (take filled head) p now w size2 z in
    rw (f.1, f.2, append-nil (take filled head)) (subst (λ x. Fed (record { bytes = take filled head; counted = 0 }) p (Frame (record { header = x; payload = [] }) ∷ []) nothing) (sym g) r)

pub at_start : (head : List ℕ) (filled : ℕ) (body : List ℕ) (counted : ℕ) → IsDecoder head filled body counted → filled ≡ 0
    → record { bytes = take filled head ++ body; counted = counted } ≡ nothing
at_start head filled body counted d e =
    let f = d.early (omega (arith, e)) in
    rw (e, f.0, f.1) refl

pub not_at_start : (head : List ℕ) (filled : ℕ) (body : List ℕ) (counted : ℕ) → IsDecoder head filled body counted
    → record { bytes = take filled head ++ body; counted = counted } ≡ nothing → filled ≡ 0
not_at_start head filled body counted d e =
    let l : length (take filled head ++ body) ≡ filled + length body = length-append (take filled head) body ∙ ap (λ n. n + length body) (length-take-le filled head (omega (arith, d.size, d.filled_fits))) in
    let n : length (take filled head ++ body) ≡ 0 = ap (λ (x : Held). length x.bytes) e in
    omega (arith, l, n)

-- ---- what is held is always of a rest

-- a header that isn't whole
holds_early : (bytes : List ℕ) → length bytes < 10 → Holds (record { bytes = bytes; counted = 0 }) bytes
holds_early bytes less = (sym (held_short bytes less), λ long. absurd (omega (arith, less, long)))

-- a payload that is kept
holds_kept : (head body : List ℕ) → length head ≡ 10 → (header_of head).length ≤ 4194304 → length body < (header_of head).length
    → Holds (record { bytes = head ++ body; counted = 0 }) (head ++ body)
holds_kept head body size short less =
    let l : length (head ++ body) ≡ 10 + length body = length-append head body ∙ rw size refl in
    let h : header_of (head ++ body) ≡ header_of head = header_front head body size in (
      sym (held_kept (head ++ body) (omega (arith, l)) (subst (λ (x : MessageHeader). x.length ≤ 4194304) (sym h) short)),
      λ long. subst (λ (x : MessageHeader). length (head ++ body) < 10 + x.length) (sym h) (omega (arith, l, less)),
    )

-- a payload that is counted: any bytes, as many
holds_passed : (head : List ℕ) (counted : ℕ) → length head ≡ 10 → 4194304 < (header_of head).length → counted < (header_of head).length
    → Holds (record { bytes = head; counted = counted }) (head ++ replicate counted 0)
holds_passed head counted size over less =
    let more : List ℕ = replicate counted 0 in
    let m : length more ≡ counted = length-replicate counted 0 in
    let l : length (head ++ more) ≡ 10 + length more = length-append head more ∙ rw size refl in
    let h : header_of (head ++ more) ≡ header_of head = header_front head more size in
    let front : take 10 (head ++ more) ≡ head = take-append-le 10 head more (omega (arith, size)) ∙ take_all 10 head (omega (arith, size)) in
    let n : length (head ++ more) - 10 ≡ counted = omega (arith, l, m) in (
      sym (held_passed (head ++ more) (omega (arith, l)) (subst (λ (x : MessageHeader). 4194304 < x.length) (sym h) over) ∙ rw (front, n) refl),
      λ long. subst (λ (x : MessageHeader). length (head ++ more) < 10 + x.length) (sym h) (omega (arith, l, m, less)),
    )

pub is_held : (head : List ℕ) (filled : ℕ) (body : List ℕ) (counted : ℕ) → IsDecoder head filled body counted
    → (rest : List ℕ) × Holds (record { bytes = take filled head ++ body; counted = counted }) rest
is_held head filled body counted d = elim (cases_lt filled 10) [
  | inl less ↦
      let e : take filled head ++ body ≡ take filled head = ap (λ b. take filled head ++ b) ((d.early less).0) ∙ append-nil (take filled head) in
      let l : length (take filled head ++ body) < 10 = rw e (omega (arith, length-take filled head, less)) in
      (take filled head ++ body, rw (d.early less).1 (holds_early (take filled head ++ body) l))
  | inr more ↦
      let full : filled ≡ 10 = omega (arith, d.filled_fits, more) in
      let same = held_bytes head filled body d.size full in
      elim (cases_lt 4194304 (header_of head).length) [
        | inl over ↦
            let p = d.passed full over in
            let e : take filled head ++ body ≡ head = same ∙ ap (λ b. head ++ b) p.0 ∙ append-nil head in
            (head ++ replicate counted 0, rw e (holds_passed head counted d.size over p.1))
        | inr short ↦
            let p = d.kept full (omega (arith, short)) in
            (head ++ body, rw (same, p.0) (holds_kept head body d.size (omega (arith, short)) p.1))
      ]
]

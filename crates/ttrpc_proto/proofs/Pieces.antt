-- Each list of bytes is one list of frames and one rest, and pieces are as their bytes joined.
use Rattle.std.proofs.Common.{◌≡◌, ℕ, zero, suc, ◌+◌, ◌<◌, ◌≤◌, List, [], ◌∷◌, ◌++◌, length, take, drop, refl, sym, ap, subst, ◌∙◌, arith, append_assoc, length-append, inl, inr, flat_map}
use Rattle.std.proofs.lemmas.Bool.{cases_lt}
use Rattle.std.proofs.lemmas.List.{append-nil, take-append-drop, length-drop, length-take-le, take-take}
use Rattle.std.proofs.Math.Seq.{take-append_seam, drop-append_seam}
use Rattle.ttrpc_proto.specs.declared.framing.header.MessageHeader.{MessageHeader}
use Rattle.ttrpc_proto.specs.declared.framing.frame.Incoming.{Incoming}
use Rattle.ttrpc_proto.specs.declared.framing.frame.Incoming.TheVariants.{Frame, Oversize}
use Rattle.ttrpc_proto.specs.Framing.Header.{header_of}
use Rattle.ttrpc_proto.specs.Framing.Frames.{IsWhole, IsFrame, Frames, IsRest, Held, nothing, held_of, Holds, FedAll}
use Rattle.ttrpc_proto.proofs.Frames.{header_front, nothing_held}

-- ---- one frame

abbrev header_in : Incoming → MessageHeader
header_in (Frame m) = m.header
header_in (Oversize h) = h

whole_header : (h : MessageHeader) (body bytes back : List ℕ) → IsWhole h body bytes → header_of (bytes ++ back) ≡ h
whole_header h body bytes back w =
    ap (λ b. header_of (b ++ back)) w.all ∙ ap header_of (append_assoc w.ten body back) ∙ header_front w.ten (body ++ back) w.size ∙ w.header

whole_length : (h : MessageHeader) (body bytes : List ℕ) → IsWhole h body bytes → length bytes ≡ 10 + h.length
whole_length h body bytes w = ap length w.all ∙ length-append w.ten body ∙ omega (arith, w.size, w.stated)

whole_body : (h : MessageHeader) (body bytes : List ℕ) → IsWhole h body bytes → body ≡ drop 10 bytes
whole_body h body bytes w = sym (ap (drop 10) w.all ∙ ap (λ n. drop n (w.ten ++ body)) (sym w.size) ∙ drop-append_seam w.ten body)

frame_header : (i : Incoming) (bytes back : List ℕ) → IsFrame i bytes → header_of (bytes ++ back) ≡ header_in i
frame_header (Frame m) bytes back f = whole_header m.header m.payload bytes back f.0
frame_header (Oversize h) bytes back f = whole_header h f.0 bytes back f.1

frame_length : (i : Incoming) (bytes : List ℕ) → IsFrame i bytes → length bytes ≡ 10 + (header_in i).length
frame_length (Frame m) bytes f = whole_length m.header m.payload bytes f.0
frame_length (Oversize h) bytes f = whole_length h f.0 bytes f.1

-- the same bytes are the same frame
one_frame : (i j : Incoming) (bytes : List ℕ) → header_in i ≡ header_in j → IsFrame i bytes → IsFrame j bytes → i ≡ j
one_frame (Frame m) (Frame n) bytes e f g =
    let b : m.payload ≡ n.payload = whole_body m.header m.payload bytes f.0 ∙ sym (whole_body n.header n.payload bytes g.0) in
    ap (λ h. Frame (record { header = h; payload = m.payload })) e ∙ ap (λ p. Frame (record { header = n.header; payload = p })) b
one_frame (Frame m) (Oversize h) bytes e f g = absurd (omega (arith, f.1, g.2, ap MessageHeader.length e))
one_frame (Oversize h) (Frame m) bytes e f g = absurd (omega (arith, g.1, f.2, ap MessageHeader.length e))
one_frame (Oversize h) (Oversize k) bytes e f g = ap Oversize e

-- ---- lists of frames

same_front : (f g b c : List ℕ) → f ++ b ≡ g ++ c → length f ≡ length g → (f ≡ g) × (b ≡ c)
same_front f g b c e l = (
  sym (take-append_seam f b) ∙ ap (take (length f)) e ∙ ap (λ n. take n (g ++ c)) l ∙ take-append_seam g c,
  sym (drop-append_seam f b) ∙ ap (drop (length f)) e ∙ ap (λ n. drop n (g ++ c)) l ∙ drop-append_seam g c,
)

-- one frame stands at the front
pub one_front_frame : (bytes : List ℕ) (i j : Incoming) (f b g c : List ℕ) → bytes ≡ f ++ b → IsFrame i f → bytes ≡ g ++ c → IsFrame j g → (i ≡ j) × (f ≡ g) × (b ≡ c)
one_front_frame bytes i j f b g c is frame also other =
    let hi : header_of bytes ≡ header_in i = ap header_of is ∙ frame_header i f b frame in
    let hj : header_of bytes ≡ header_in j = ap header_of also ∙ frame_header j g c other in
    let h : header_in i ≡ header_in j = sym hi ∙ hj in
    let l : length f ≡ length g = frame_length i f frame ∙ ap (λ (h : MessageHeader). 10 + h.length) h ∙ sym (frame_length j g other) in
    let p = same_front f g b c (sym is ∙ also) l in
    (one_frame i j g h (subst (IsFrame i) p.0 frame) other, p.0, p.1)

pub no_frame : (i : Incoming) (bytes front back : List ℕ) → bytes ≡ front ++ back → IsFrame i front → IsRest bytes → ⊥
no_frame i bytes front back e f rest =
    let h : (header_of bytes).length ≡ (header_in i).length = ap (λ b. (header_of b).length) e ∙ ap MessageHeader.length (frame_header i front back f) in
    let l : length bytes ≡ length front + length back = ap length e ∙ length-append front back in
    let n : length front ≡ 10 + (header_in i).length = frame_length i front f in
    let r : length bytes < 10 + (header_of bytes).length = rest (omega (arith, l, n)) in
    omega (arith, r, h, l, n)

pub one_list : (bytes : List ℕ) (is js : List Incoming) (r s : List ℕ) → Frames bytes is r → IsRest r → Frames bytes js s → IsRest s → (is ≡ js) × (r ≡ s)
one_list bytes [] [] r s f x g y = (refl, sym f ∙ g)
one_list bytes [] (j ∷ js) r s f x g y = absurd (no_frame j r g.0 g.1 (sym f ∙ g.2) g.3 x)
one_list bytes (i ∷ is) [] r s f x g y = absurd (no_frame i s f.0 f.1 (sym g ∙ f.2) f.3 y)
one_list bytes (i ∷ is) (j ∷ js) r s f x g y =
    let p = one_front_frame bytes i j f.0 f.1 g.0 g.1 f.2 f.3 g.2 g.3 in
    let rec = one_list g.1 is js r s (subst (λ b. Frames b is r) p.2 f.4) x g.4 y in
    (ap (λ k. k ∷ is) p.0 ∙ ap (λ ks. j ∷ ks) rec.0, rec.1)

frame_at : (bytes : List ℕ) → 10 + (header_of bytes).length ≤ length bytes
    → (i : Incoming) × IsFrame i (take (10 + (header_of bytes).length) bytes)
frame_at bytes long =
    let n : ℕ = 10 + (header_of bytes).length in
    let ten : List ℕ = take 10 bytes in
    let size : length ten ≡ 10 = length-take-le 10 bytes (omega (arith, long)) in
    let l : length (take n bytes) ≡ n = length-take-le n bytes long in
    let h : header_of ten ≡ header_of bytes = sym (header_front ten (drop 10 bytes) size) ∙ ap header_of (take-append-drop 10 bytes) in
    let t : take 10 (take n bytes) ≡ ten = take-take 10 n bytes (omega arith) in
    let w : IsWhole (header_of bytes) (drop 10 (take n bytes)) (take n bytes) = record {
      ten = ten;
      size = size;
      header = h;
      stated = length-drop 10 (take n bytes) ∙ omega (arith, l);
      all = sym (take-append-drop 10 (take n bytes)) ∙ ap (λ x. x ++ drop 10 (take n bytes)) t;
    } in
    elim (cases_lt 4194304 ((header_of bytes).length)) [
      | inl over ↦ (Oversize (header_of bytes), (drop 10 (take n bytes), w, over))
      | inr kept ↦ (Frame (record { header = header_of bytes; payload = drop 10 (take n bytes) }), (w, kept))
    ]

some_frames : (n : ℕ) (bytes : List ℕ) → length bytes ≤ n → (is : List Incoming) × (rest : List ℕ) × Frames bytes is rest × IsRest rest
some_frames zero bytes le = ([], bytes, refl, λ long. omega (arith, le, long))
some_frames (suc n) bytes le = elim (cases_lt (length bytes) (10 + (header_of bytes).length)) [
  | inl short ↦ ([], bytes, refl, λ long. short)
  | inr long ↦
      let k : ℕ = 10 + (header_of bytes).length in
      let i = frame_at bytes long in
      let rec = some_frames n (drop k bytes) (omega (arith, length-drop k bytes, le)) in
      (i.0 ∷ rec.0, rec.1, (take k bytes, drop k bytes, sym (take-append-drop k bytes), i.1, rec.2), rec.3)
]

pub is_frames : (bytes : List ℕ) → (is : List Incoming) × (rest : List ℕ) × Frames bytes is rest × IsRest rest
is_frames bytes = some_frames (length bytes) bytes (omega arith)

-- ---- pieces

pub frames_append : (bytes : List ℕ) (is : List Incoming) (rest p : List ℕ) (js : List Incoming) (last : List ℕ)
    → Frames bytes is rest → Frames (rest ++ p) js last → Frames (bytes ++ p) (is ++ js) last
frames_append bytes [] rest p js last f g = subst (λ b. Frames (b ++ p) js last) (sym f) g
frames_append bytes (i ∷ is) rest p js last f g =
    (f.0, f.1 ++ p, ap (λ b. b ++ p) f.2 ∙ append_assoc f.0 f.1 p, f.3, frames_append f.1 is rest p js last f.4 g)

pub fed_all : (held : Held) (ps : List (List ℕ)) (is : List Incoming) (new : Held) (before : List ℕ) → Holds held before → FedAll held ps is new
    → (rest : List ℕ) × Frames (before ++ flat_map (λ p. p) ps) is rest × Holds new rest
fed_all held [] is new before h f =
    (before, subst (λ x. Frames (before ++ []) x before) (sym f.0) (append-nil before), subst (λ x. Holds x before) (sym f.1) h)
fed_all held (p ∷ ps) is new before h f =
    let one = f.4 before h in
    let more = fed_all f.2 ps f.1 new one.0 one.2 f.5 in
    let e : (before ++ p) ++ flat_map (λ p. p) ps ≡ before ++ (p ++ flat_map (λ p. p) ps) = append_assoc before p (flat_map (λ p. p) ps) in
    let j : Frames ((before ++ p) ++ flat_map (λ p. p) ps) (f.0 ++ f.1) more.0 = frames_append (before ++ p) f.0 one.0 (flat_map (λ p. p) ps) f.1 more.0 one.1 more.1 in
    (more.0, subst (λ x. Frames x is more.0) e (subst (λ x. Frames ((before ++ p) ++ flat_map (λ p. p) ps) x more.0) (sym f.3) j), more.2)

pub from_nothing : (ps : List (List ℕ)) (is : List Incoming) (new : Held) → FedAll nothing ps is new
    → (rest : List ℕ) × Frames (flat_map (λ p. p) ps) is rest × Holds new rest
from_nothing ps is new f = fed_all nothing ps is new [] nothing_held f

pub any_cuts : (ps qs : List (List ℕ)) (is js : List Incoming) (a b : Held) → FedAll nothing ps is a → FedAll nothing qs js b
    → flat_map (λ p. p) ps ≡ flat_map (λ p. p) qs → (is ≡ js) × (a ≡ b)
any_cuts ps qs is js a b f g e =
    let x = from_nothing ps is a f in
    let y = from_nothing qs js b g in
    let u = one_list (flat_map (λ p. p) qs) is js x.0 y.0 (subst (λ z. Frames z is x.0) e x.1) x.2.1 y.1 y.2.1 in
    (u.0, x.2.0 ∙ ap held_of u.1 ∙ sym y.2.0)

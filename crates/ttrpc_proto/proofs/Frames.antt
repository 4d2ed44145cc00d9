-- What a decoder holds, and what a piece makes of it.
use Rattle.std.proofs.Common.{◌≡◌, ℕ, ◌+◌, ◌-◌, ◌<◌, ◌≤◌, true, false, nat_lt, List, [], ◌∷◌, ◌++◌, length, take, drop, refl, sym, ap, subst, ◌∙◌, arith, le-ltb, lt-ltb, append_assoc, length-append, inl, inr}
use Rattle.std.proofs.lemmas.Bool.{cases_lt}
use Rattle.std.proofs.lemmas.Grind.{common_steps}
use Rattle.std.proofs.lemmas.List.{take-append-drop, append-nil, length-drop}
use Rattle.std.proofs.Math.Seq.{take-append_seam}
use Rattle.ttrpc_proto.specs.declared.framing.header.MessageHeader.{MessageHeader}
use Rattle.ttrpc_proto.specs.declared.framing.frame.Incoming.{Incoming}
use Rattle.ttrpc_proto.specs.declared.framing.frame.Incoming.TheVariants.{Frame, Oversize}
use Rattle.ttrpc_proto.specs.Framing.Header.{header_of}
use Rattle.ttrpc_proto.specs.Framing.Frames.{IsWhole, IsFrame, IsRest, Held, nothing, held_of, Holds, Fed}

-- ---- what is held of a rest

pub header_front : (ten after : List ℕ) → length ten ≡ 10 → header_of (ten ++ after) ≡ header_of ten
header_front ten after size = grind (arith, common_steps)

the_whole : (r : List ℕ) → length r ≤ 10 → take 10 r ≡ r
the_whole r le = grind (arith, common_steps)

pub held_short : (r : List ℕ) → length r < 10 → held_of r ≡ record { bytes = r; counted = 0 }
held_short r short = let t : nat_lt (length r) 10 ≡ true = lt-ltb _ _ short in rw t refl

pub held_kept : (r : List ℕ) → 10 ≤ length r → (header_of r).length ≤ 4194304 → held_of r ≡ record { bytes = r; counted = 0 }
held_kept r long le =
    let t : nat_lt (length r) 10 ≡ false = le-ltb _ _ long in
    let u : nat_lt 4194304 ((header_of r).length) ≡ false = le-ltb _ _ le in
    rw (t, u) refl

pub held_passed : (r : List ℕ) → 10 ≤ length r → 4194304 < (header_of r).length → held_of r ≡ record { bytes = take 10 r; counted = length r - 10 }
held_passed r long lt =
    let t : nat_lt (length r) 10 ≡ false = le-ltb _ _ long in
    let u : nat_lt 4194304 ((header_of r).length) ≡ true = lt-ltb _ _ lt in
    rw (t, u) refl

pub nothing_held : Holds nothing []
nothing_held = (refl, λ long. omega (arith, long))

held_early : (r : List ℕ) → length r ≤ 10 → held_of r ≡ record { bytes = r; counted = 0 }
held_early r le = elim (cases_lt (length r) 10) [
  | inl short ↦ held_short r short
  | inr long ↦ elim (cases_lt 4194304 ((header_of r).length)) [
    | inl over ↦ held_passed r long over ∙ rw (the_whole r (omega (arith, long, le))) (let z : length r - 10 ≡ 0 = omega (arith, long, le) in rw z refl)
    | inr kept ↦ held_kept r long kept
  ]
]

-- what is held with nothing counted is all of the rest
pub exact : (bytes before : List ℕ) → Holds (record { bytes = bytes; counted = 0 }) before → before ≡ bytes
exact bytes before h = elim (cases_lt (length before) 10) [
  | inl short ↦ sym (ap Held.bytes (h.0 ∙ held_short before short))
  | inr long ↦ elim (cases_lt 4194304 ((header_of before).length)) [
    | inl over ↦
        let e = h.0 ∙ held_passed before long over in
        let n : 0 ≡ length before - 10 = ap Held.counted e in
        sym (ap Held.bytes e ∙ the_whole before (omega (arith, long, n)))
    | inr kept ↦ sym (ap Held.bytes (h.0 ∙ held_kept before long kept))
  ]
]

-- ---- bytes that are kept

goes_on : (bytes p : List ℕ) → IsRest (bytes ++ p) → Fed (record { bytes = bytes; counted = 0 }) p [] (held_of (bytes ++ p))
goes_on bytes p rest = λ before h. rw (exact bytes before h) (bytes ++ p, refl, (refl, rest))

ends_here : (bytes p : List ℕ) (i : Incoming) → IsFrame i (bytes ++ p) → Fed (record { bytes = bytes; counted = 0 }) p (i ∷ []) nothing
ends_here bytes p i frame = λ before h. rw (exact bytes before h) ([], (bytes ++ p, [], sym (append-nil (bytes ++ p)), frame, refl), nothing_held)

-- bytes of the header, and it isn't a whole frame
pub head_goes_on : (bytes p new : List ℕ) → new ≡ bytes ++ p → length new ≤ 10 → (10 ≤ length new → 0 < (header_of new).length)
    → Fed (record { bytes = bytes; counted = 0 }) p [] (record { bytes = new; counted = 0 })
head_goes_on bytes p new e le more =
    let r : IsRest new = λ long. omega (arith, le, more long) in
    let f : Fed (record { bytes = bytes; counted = 0 }) p [] (held_of new) = subst (λ x. Fed (record { bytes = bytes; counted = 0 }) p [] (held_of x)) (sym e) (goes_on bytes p (subst IsRest e r)) in
    subst (λ x. Fed (record { bytes = bytes; counted = 0 }) p [] x) (held_early new le) f

-- a header that states no bytes is a frame
pub head_is_frame : (bytes p new : List ℕ) → new ≡ bytes ++ p → length new ≡ 10 → (header_of new).length ≡ 0
    → Fed (record { bytes = bytes; counted = 0 }) p (Frame (record { header = header_of new; payload = [] }) ∷ []) nothing
head_is_frame bytes p new e size none =
    let whole : IsWhole (header_of new) [] (bytes ++ p) = record {
      ten = new;
      size = size;
      header = refl;
      stated = sym none;
      all = sym e ∙ sym (append-nil new);
    } in
    ends_here bytes p (Frame (record { header = header_of new; payload = [] })) (whole, omega (arith, none))

-- bytes of the body
pub body_goes_on : (ten body p : List ℕ) → length ten ≡ 10 → (header_of ten).length ≤ 4194304 → length body + length p < (header_of ten).length
    → Fed (record { bytes = ten ++ body; counted = 0 }) p [] (record { bytes = ten ++ (body ++ p); counted = 0 })
body_goes_on ten body p size short less =
    let e : (ten ++ body) ++ p ≡ ten ++ (body ++ p) = append_assoc ten body p in
    let l : length (ten ++ (body ++ p)) ≡ 10 + (length body + length p) = length-append ten (body ++ p) ∙ rw (size, length-append body p) refl in
    let h : header_of (ten ++ (body ++ p)) ≡ header_of ten = header_front ten (body ++ p) size in
    let s : (header_of (ten ++ (body ++ p))).length ≤ 4194304 = subst (λ (x : MessageHeader). x.length ≤ 4194304) (sym h) short in
    let r : IsRest (ten ++ (body ++ p)) = λ long. subst (λ (x : MessageHeader). length (ten ++ (body ++ p)) < 10 + x.length) (sym h) (omega (arith, l, less)) in
    let f : Fed (record { bytes = ten ++ body; counted = 0 }) p [] (held_of (ten ++ (body ++ p))) = subst (λ x. Fed (record { bytes = ten ++ body; counted = 0 }) p [] (held_of x)) e (goes_on (ten ++ body) p (subst IsRest (sym e) r)) in
    subst (λ x. Fed (record { bytes = ten ++ body; counted = 0 }) p [] x) (held_kept (ten ++ (body ++ p)) (omega (arith, l)) s) f

pub body_is_frame : (ten body p : List ℕ) → length ten ≡ 10 → (header_of ten).length ≤ 4194304 → length body + length p ≡ (header_of ten).length
    → Fed (record { bytes = ten ++ body; counted = 0 }) p (Frame (record { header = header_of ten; payload = body ++ p }) ∷ []) nothing
body_is_frame ten body p size short same =
    let whole : IsWhole (header_of ten) (body ++ p) ((ten ++ body) ++ p) = record {
      ten = ten;
      size = size;
      header = refl;
      stated = length-append body p ∙ same;
      all = append_assoc ten body p;
    } in
    ends_here (ten ++ body) p (Frame (record { header = header_of ten; payload = body ++ p })) (whole, short)

-- ---- bytes that are counted

-- the rest is a header and as many bytes as were counted
pub counted_rest : (ten : List ℕ) (n : ℕ) (before : List ℕ) → length ten ≡ 10 → 4194304 < (header_of ten).length → Holds (record { bytes = ten; counted = n }) before
    → (body : List ℕ) × (before ≡ ten ++ body) × (length body ≡ n)
counted_rest ten n before size over h = elim (cases_lt (length before) 10) [
  | inl short ↦
      let l : length ten ≡ length before = ap length (ap Held.bytes (h.0 ∙ held_short before short)) in
      absurd (omega (arith, l, size, short))
  | inr long ↦ elim (cases_lt 4194304 ((header_of before).length)) [
    | inl large ↦
        let e : record { bytes = ten; counted = n } ≡ record { bytes = take 10 before; counted = length before - 10 } = h.0 ∙ held_passed before long large in
        let t : take 10 before ≡ ten = sym (ap Held.bytes e) in
        (drop 10 before, sym (take-append-drop 10 before) ∙ ap (λ x. x ++ drop 10 before) t, length-drop 10 before ∙ sym (ap Held.counted e))
    | inr kept ↦
        let e : ten ≡ before = ap Held.bytes (h.0 ∙ held_kept before long kept) in
        let k : (header_of ten).length ≤ 4194304 = subst (λ r. (header_of r).length ≤ 4194304) (sym e) kept in
        absurd (omega (arith, k, over))
  ]
]

pub count_goes_on : (ten p : List ℕ) (n : ℕ) → length ten ≡ 10 → 4194304 < (header_of ten).length → n + length p < (header_of ten).length
    → Fed (record { bytes = ten; counted = n }) p [] (record { bytes = ten; counted = n + length p })
count_goes_on ten p n size over less = λ before h.
    let b = counted_rest ten n before size over h in
    let e : before ++ p ≡ ten ++ (b.0 ++ p) = ap (λ r. r ++ p) b.1 ∙ append_assoc ten b.0 p in
    let l : length (ten ++ (b.0 ++ p)) ≡ 10 + (n + length p) = length-append ten (b.0 ++ p) ∙ rw (size, length-append b.0 p, b.2) refl in
    let g : header_of (ten ++ (b.0 ++ p)) ≡ header_of ten = header_front ten (b.0 ++ p) size in
    let o : 4194304 < (header_of (ten ++ (b.0 ++ p))).length = subst (λ (x : MessageHeader). 4194304 < x.length) (sym g) over in
    let t : take 10 (ten ++ (b.0 ++ p)) ≡ ten = subst (λ k. take k (ten ++ (b.0 ++ p)) ≡ ten) size (take-append_seam ten (b.0 ++ p)) in
    let c : length (ten ++ (b.0 ++ p)) - 10 ≡ n + length p = omega (arith, l) in
    (ten ++ (b.0 ++ p), e, (sym (held_passed (ten ++ (b.0 ++ p)) (omega (arith, l)) o ∙ rw (t, c) refl), λ long. subst (λ (x : MessageHeader). length (ten ++ (b.0 ++ p)) < 10 + x.length) (sym g) (omega (arith, l, less))))

pub count_is_frame : (ten p : List ℕ) (n : ℕ) → length ten ≡ 10 → 4194304 < (header_of ten).length → n + length p ≡ (header_of ten).length
    → Fed (record { bytes = ten; counted = n }) p (Oversize (header_of ten) ∷ []) nothing
count_is_frame ten p n size over same = λ before h.
    let b = counted_rest ten n before size over h in
    let e : before ++ p ≡ ten ++ (b.0 ++ p) = ap (λ r. r ++ p) b.1 ∙ append_assoc ten b.0 p in
    let whole : IsWhole (header_of ten) (b.0 ++ p) (before ++ p) = record {
      ten = ten;
      size = size;
      header = refl;
      stated = length-append b.0 p ∙ rw b.2 same;
      all = e;
    } in
    ([], (before ++ p, [], sym (append-nil (before ++ p)), (b.0 ++ p, whole, over), refl), nothing_held)

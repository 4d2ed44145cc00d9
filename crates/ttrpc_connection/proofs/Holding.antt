-- What a decoder holds, and that each piece can be fed to it.
use Rattle.ttrpc_connection.proofs.Words.{◌≡◌, inl, inr, ℕ, ◌+◌, ◌-◌, ◌<◌, ◌≤◌, true, false, nat_lt, List, [], ◌∷◌, ◌++◌, length, take, drop, arith, refl, sym, ap, subst, ◌∙◌, le-ltb, lt-ltb, cases_lt, take-append-drop, length-take-le, MessageHeader, Incoming, Frames, Held, nothing, held_of, Holds, Fed, header_front, exact, count_goes_on, count_is_frame, is_frames, one_list}
use Rattle.ttrpc_proto.specs.Framing.Header.{header_of}
use Rattle.ttrpc_proto.specs.declared.framing.frame.Incoming.TheVariants.{Oversize}
use Rattle.ttrpc_connection.proofs.Feeding.{fed_twice}

-- ---- what a decoder holds

-- a piece has one list of frames, and one thing is held then
pub fed_one_way : (held a b : Held) (before p : List ℕ) (is js : List Incoming) → Holds held before → Fed held p is a → Fed held p js b → (is ≡ js) × (a ≡ b)
fed_one_way held a b before p is js h one two =
    let x = one before h in
    let y = two before h in
    let same = one_list (before ++ p) is js x.0 y.0 x.1 x.2.1 y.1 y.2.1 in
    (same.0, x.2.0 ∙ ap held_of same.1 ∙ sym y.2.0)

abbrev pub Feedable : Held → List ℕ → Type 0
Feedable held p = (is : List Incoming) × (new : Held) × Fed held p is new

-- with all of the rest held
fed_bytes : (bytes p : List ℕ) → Feedable (record { bytes = bytes; counted = 0 }) p
fed_bytes bytes p =
    let f = is_frames (bytes ++ p) in
    (f.0, held_of f.1, λ before h. (f.1, subst (λ b. Frames (b ++ p) f.0 f.1) (sym (exact bytes before h)) f.2, (refl, f.3)))

-- with a header held and n bytes counted
fed_counted : (ten : List ℕ) (n : ℕ) (p : List ℕ) → length ten ≡ 10 → 4194304 < (header_of ten).length → n ≤ (header_of ten).length → Feedable (record { bytes = ten; counted = n }) p
fed_counted ten n p size over less = elim (cases_lt (n + length p) ((header_of ten).length)) [
  | inl part ↦ ([], record { bytes = ten; counted = n + length p }, count_goes_on ten p n size over part)
  | inr whole ↦
      let k : ℕ = (header_of ten).length - n in
      let front : length (take k p) ≡ k = length-take-le k p (omega (arith, whole)) in
      let first : Fed (record { bytes = ten; counted = n }) (take k p) (Oversize (header_of ten) ∷ []) nothing =
      count_is_frame ten (take k p) n size over (omega (arith, front, less)) in
      let more = fed_bytes [] (drop k p) in
      let f : Fed (record { bytes = ten; counted = n }) (take k p ++ drop k p) (Oversize (header_of ten) ∷ more.0) more.1 =
      fed_twice (record { bytes = ten; counted = n }) nothing more.1 (take k p) (drop k p) (Oversize (header_of ten) ∷ []) more.0 first more.2 in
      (Oversize (header_of ten) ∷ more.0, more.1, subst (λ q. Fed (record { bytes = ten; counted = n }) q (Oversize (header_of ten) ∷ more.0) more.1) (take-append-drop k p) f)
]

pub fed_some : (held : Held) (before p : List ℕ) → Holds held before → Feedable held p
fed_some held before p h = rw h.0 (elim (cases_lt (length before) 10) [
  | inl short ↦ let s : nat_lt (length before) 10 ≡ true = lt-ltb _ _ short in rw s (fed_bytes before p)
  | inr long ↦
      let s : nat_lt (length before) 10 ≡ false = le-ltb _ _ long in
      elim (cases_lt 4194304 ((header_of before).length)) [
        | inl over ↦
            let l : nat_lt 4194304 ((header_of before).length) ≡ true = lt-ltb _ _ over in
            let size : length (take 10 before) ≡ 10 = length-take-le 10 before long in
            let same : header_of before ≡ header_of (take 10 before) = ap header_of (sym (take-append-drop 10 before)) ∙ header_front (take 10 before) (drop 10 before) size in
            let fits : length before - 10 ≤ (header_of before).length = omega (arith, h.1 long) in
            rw (s, l) (fed_counted (take 10 before) (length before - 10) p size (subst (λ (x : MessageHeader). 4194304 < x.length) same over)
            (subst (λ (x : MessageHeader). length before - 10 ≤ x.length) same fits))
        | inr kept ↦ let l : nat_lt 4194304 ((header_of before).length) ≡ false = le-ltb _ _ kept in rw (s, l) (fed_bytes before p)
      ]
])

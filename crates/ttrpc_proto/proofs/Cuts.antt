-- What a decoder wants next, and what there is where no more comes.
use Rattle.std.proofs.Common.{◌≡◌, ℕ, ◌+◌, ◌-◌, ◌<◌, ◌≤◌, List, ◌++◌, length, take, drop, nat_lt, false, refl, sym, ap, subst, ◌∙◌, arith, length-append, inl, inr}
use Rattle.std.proofs.lemmas.Bool.{cases_lt, lt-ltb, le-ltb}
use Rattle.std.proofs.lemmas.List.{length-take-le, take-append-drop}
use Rattle.ttrpc_proto.specs.declared.framing.header.MessageHeader.{MessageHeader}
use Rattle.ttrpc_proto.specs.declared.framing.reading.Found.TheVariants.{HeaderCut, BodyCut, OversizeCut}
use Rattle.ttrpc_proto.specs.Framing.Header.{header_of}
use Rattle.ttrpc_proto.specs.Framing.Frames.{Held, Holds, wanted}
use Rattle.ttrpc_proto.specs.Framing.Streaming.{IsFound, IsHead}
use Rattle.ttrpc_proto.specs.Framing.Decoder.{IsDecoder}
use Rattle.ttrpc_proto.proofs.Decoding.{held_bytes}
use Rattle.ttrpc_proto.proofs.Frames.{header_front, held_short, held_kept, held_passed}

bytes_size : (head : List ℕ) (filled : ℕ) (body : List ℕ) (counted : ℕ) → IsDecoder head filled body counted → length (take filled head ++ body) ≡ filled + length body
bytes_size head filled body counted d = length-append (take filled head) body ∙ ap (λ n. n + length body) (length-take-le filled head (omega (arith, d.size, d.filled_fits)))

-- ---- what is wanted

pub wanted_early : (head : List ℕ) (filled : ℕ) (body : List ℕ) (counted : ℕ) → IsDecoder head filled body counted → filled < 10
    → wanted (record { bytes = take filled head ++ body; counted = counted }) ≡ 10 - filled
wanted_early head filled body counted d less =
    let e = d.early less in
    let l : length (take filled head ++ body) ≡ filled = length-append (take filled head) body ∙ ap (λ b. length (take filled head) + length b) e.0 ∙ omega (arith, length-take-le filled head (omega (arith, d.size, d.filled_fits))) in
    rw (l, lt-ltb filled 10 less) refl

pub wanted_late : (head : List ℕ) (filled : ℕ) (body : List ℕ) (counted : ℕ) → IsDecoder head filled body counted → 10 ≤ filled
    → wanted (record { bytes = take filled head ++ body; counted = counted }) ≡ (header_of head).length - length body - counted
wanted_late head filled body counted d more =
    let full : filled ≡ 10 = omega (arith, d.filled_fits, more) in
    let bytes : List ℕ = take filled head ++ body in
    let l : length bytes ≡ filled + length body = bytes_size head filled body counted d in
    let t : nat_lt (length bytes) 10 ≡ false = le-ltb (length bytes) 10 (omega (arith, l, full)) in
    let opened : wanted (record { bytes = bytes; counted = counted }) ≡ 10 + (header_of bytes).length - (length bytes + counted) = rw t refl in
    let same : (header_of bytes).length ≡ (header_of head).length = ap (λ b. (header_of b).length) (held_bytes head filled body d.size full) ∙ ap MessageHeader.length (header_front head body d.size) in
    omega (arith, opened, same, l, full)

-- some are
pub some_wanted : (head : List ℕ) (filled : ℕ) (body : List ℕ) (counted : ℕ) → IsDecoder head filled body counted → 10 ≤ filled → 0 < (header_of head).length - length body - counted
some_wanted head filled body counted d more =
    let full : filled ≡ 10 = omega (arith, d.filled_fits, more) in
    elim (cases_lt 4194304 (header_of head).length) [
      | inl over ↦ let p = d.passed full over in omega (arith, p.1, ap length p.0)
      | inr short ↦ let p = d.kept full (omega (arith, short)) in omega (arith, p.0, p.1)
    ]

-- ---- where no more comes

-- of a rest this is held: as many bytes, and a header that is whole is its
pub record IsHeldOf (held : Held) (rest : List ℕ) : Type 0 where
  pub size : length rest ≡ length held.bytes + held.counted
  pub header : 10 ≤ length rest → header_of rest ≡ header_of held.bytes
  pub ten : 10 ≤ length rest → 10 ≤ length held.bytes

pub held_is : (held : Held) (rest : List ℕ) → Holds held rest → IsHeldOf held rest
held_is held rest h = elim (cases_lt (length rest) 10) [
  | inl short ↦
      let e = h.0 ∙ held_short rest short in
      record { size = rw e (omega arith); header = λ long. absurd (omega (arith, short, long)); ten = λ long. absurd (omega (arith, short, long)) }
  | inr long ↦ elim (cases_lt 4194304 ((header_of rest).length)) [
    | inl over ↦
        let e = h.0 ∙ held_passed rest long over in
        let l : length (take 10 rest) ≡ 10 = length-take-le 10 rest long in
        record {
          size = rw (e, l) (omega (arith, long));
          header = λ _. rw e (ap header_of (sym (take-append-drop 10 rest)) ∙ header_front (take 10 rest) (drop 10 rest) l);
          ten = λ _. rw (e, l) (omega arith);
        }
    | inr kept ↦
        let e = h.0 ∙ held_kept rest long kept in
        record { size = rw e (omega arith); header = λ _. rw e refl; ten = λ more. rw e more }
  ]
]

pub cut_early : (head : List ℕ) (filled : ℕ) (body : List ℕ) (counted : ℕ) → IsDecoder head filled body counted → filled < 10
    → (rest : List ℕ) → Holds (record { bytes = take filled head ++ body; counted = counted }) rest → IsFound (HeaderCut filled) rest
cut_early head filled body counted d less rest h =
    let e = d.early less in
    let i = held_is (record { bytes = take filled head ++ body; counted = counted }) rest h in
    (omega (arith, i.size, bytes_size head filled body counted d, ap length e.0, e.1), less)

-- a whole header stands in front of the rest, and not all that it states behind it
is_head : (head : List ℕ) (filled : ℕ) (body : List ℕ) (counted : ℕ) → IsDecoder head filled body counted → 10 ≤ filled
    → (rest : List ℕ) → Holds (record { bytes = take filled head ++ body; counted = counted }) rest → IsHead (header_of head) rest × (length rest ≡ 10 + (length body + counted))
is_head head filled body counted d more rest h =
    let full : filled ≡ 10 = omega (arith, d.filled_fits, more) in
    let i = held_is (record { bytes = take filled head ++ body; counted = counted }) rest h in
    let size : length rest ≡ 10 + (length body + counted) = omega (arith, i.size, bytes_size head filled body counted d, full) in
    let long : 10 ≤ length rest = omega (arith, size) in
    let same : header_of rest ≡ header_of head = i.header long ∙ ap header_of (held_bytes head filled body d.size full) ∙ header_front head body d.size in
    (record { whole = long; header = same; short = subst (λ (x : MessageHeader). length rest < 10 + x.length) same (h.1 long) }, size)

pub cut_long : (head : List ℕ) (filled : ℕ) (body : List ℕ) (counted : ℕ) (g : MessageHeader) → IsDecoder head filled body counted → 10 ≤ filled → g ≡ header_of head → 4194304 < g.length
    → (rest : List ℕ) → Holds (record { bytes = take filled head ++ body; counted = counted }) rest → IsFound (OversizeCut g) rest
cut_long head filled body counted g d more is over rest h =
    (subst (λ x. IsHead x rest) (sym is) (is_head head filled body counted d more rest h).0, over)

pub cut_late : (head : List ℕ) (filled : ℕ) (body : List ℕ) (counted : ℕ) (g : MessageHeader) (n : ℕ) → IsDecoder head filled body counted → 10 ≤ filled → g ≡ header_of head → g.length ≤ 4194304 → n ≡ length body
    → (rest : List ℕ) → Holds (record { bytes = take filled head ++ body; counted = counted }) rest → IsFound (BodyCut g n) rest
cut_late head filled body counted g n d more is kept size rest h =
    let full : filled ≡ 10 = omega (arith, d.filled_fits, more) in
    let i = is_head head filled body counted d more rest h in
    let none = (d.kept full (subst (λ (x : MessageHeader). x.length ≤ 4194304) is kept)).0 in
    (subst (λ x. IsHead x rest) (sym is) i.0, omega (arith, i.1, none, size), kept)

-- Bytes of a frame that a reader gave.
use Rattle.std.proofs.Common.{◌≡◌, ℕ, ◌+◌, ◌-◌, ◌<◌, ◌≤◌, List, ◌++◌, length, take, drop, refl, sym, ap, ◌∙◌, subst, append_assoc, arith, length-append, length-take-le, Option, Result, Ok, Err, Bool, true, false}
use Rattle.std.proofs.KnownBytes.{Consumes-trans}
use Rattle.std.specs.Io.KnownBytes.{Consumes}
use Rattle.std.specs.IoError.{error_kind}
use Rattle.std.specs.declared.io.Error.{Error}
use Rattle.ttrpc_proto.specs.Framing.Streams.{Answered, ConsumesBelow, IsFailure}
use Rattle.ttrpc_proto.specs.declared.framing.header.MessageHeader.{MessageHeader}
use Rattle.ttrpc_proto.specs.Framing.Header.{header_of}
use Rattle.ttrpc_proto.specs.declared.framing.failure.StreamFailure.{StreamFailure}
use Rattle.ttrpc_proto.specs.declared.framing.failure.StreamFailure.TheVariants.{Io, NoMemory as Refused}
use Rattle.ttrpc_proto.specs.declared.framing.frame.Incoming.TheVariants.{Frame, Oversize}
use Rattle.ttrpc_proto.specs.declared.framing.reading.Found.{Found}
use Rattle.ttrpc_proto.specs.declared.framing.reading.Found.TheVariants.{Whole, HeaderCut, BodyCut, OversizeCut}
use Rattle.ttrpc_proto.specs.Framing.Frames.{IsRest, IsWhole}
use Rattle.ttrpc_proto.specs.Framing.Inside.{Passed, TookBody}
use Rattle.ttrpc_proto.specs.Framing.Streaming.{IsHead, Took}
use Rattle.ttrpc_proto.proofs.Frames.{header_front}
use Rattle.std.proofs.lemmas.List.{take-append-le, take-take}
use Rattle.std.proofs.Math.Seq.{take-add, take-append_seam, drop-append_seam}

-- a front, and behind it some of what was read there
pub take_behind : (front read more : List ℕ) (held came : ℕ) → length front ≡ held → came ≤ length read → take (held + came) (front ++ (read ++ more)) ≡ front ++ take came read
take_behind front read more held came is fits =
    let all = front ++ (read ++ more) in
    let seam : take held all ≡ front = subst (λ k. take k all ≡ front) is (take-append_seam front (read ++ more)) in
    let behind : drop held all ≡ read ++ more = subst (λ k. drop k all ≡ read ++ more) is (drop-append_seam front (read ++ more)) in
    take-add held came all ∙ ap (λ t. t ++ take came (drop held all)) seam ∙ ap (λ t. front ++ take came t) behind ∙ ap (λ t. front ++ t) (take-append-le came read more fits)

-- a vector was read into behind what it held, and cut to what came
pub grown : (old slice read post rest items : List ℕ) (held came len : ℕ)
    → held ≤ length old → slice ≡ old → came ≤ length read → held + came ≤ len
    → items ≡ take (held + came) (take len ((take held slice ++ (read ++ post)) ++ rest)) → items ≡ take held old ++ take came read
grown old slice read post rest items held came len inside whole fits room cut =
    let front : take held slice ≡ take held old = ap (take held) whole in
    let joined : (take held slice ++ (read ++ post)) ++ rest ≡ take held old ++ (read ++ (post ++ rest)) =
    ap (λ t. (t ++ (read ++ post)) ++ rest) front ∙ append_assoc (take held old) (read ++ post) rest ∙ ap (λ t. take held old ++ t) (append_assoc read post rest) in
    cut ∙ take-take (held + came) len _ room ∙ ap (take (held + came)) joined ∙ take_behind (take held old) read (post ++ rest) held came (length-take-le held old inside) fits

-- ---- what a frame is whose header came

-- a header, and some of the body that it states
head_of : (h : MessageHeader) (ten body : List ℕ) → length ten ≡ 10 → header_of ten ≡ h → length body < h.length → IsHead h (ten ++ body)
head_of h ten body size is short = record {
  whole = omega (arith, size, length-append ten body);
  header = header_front ten body size ∙ is;
  short = omega (arith, size, length-append ten body, short);
}

head_is_rest : (h : MessageHeader) (ten body : List ℕ) → length ten ≡ 10 → header_of ten ≡ h → length body < h.length → IsRest (ten ++ body)
head_is_rest h ten body size is short =
    λ long. let head = head_of h ten body size is short in subst (λ (g : MessageHeader). length (ten ++ body) < 10 + g.length) (sym head.header) head.short

pub took_body : (h : MessageHeader) (ten : List ℕ) (a b c : Option (List ℕ)) (last : Option Answered) (r : Result Found StreamFailure)
    → length ten ≡ 10 → header_of ten ≡ h → h.length ≤ 4194304 → Consumes a b ten → TookBody h b c last r → Took a c last r
took_body h ten a b c last (Ok (Whole (Frame m))) size is kept read t =
    let header : header_of ten ≡ m.header = is ∙ sym t.0 in
    let whole : IsWhole m.header m.payload (ten ++ m.payload) = record {
      ten = ten;
      size = size;
      header = header;
      stated = t.2 ∙ ap MessageHeader.length (sym t.0);
      all = refl;
    } in
    (ten ++ m.payload, Consumes-trans a b c ten m.payload read t.1, (whole, subst (λ (g : MessageHeader). g.length ≤ 4194304) (sym t.0) kept), tt)
took_body h ten a b c last (Ok (Whole (Oversize g))) size is kept read t = absurd t
took_body h ten a b c last (Ok (HeaderCut n)) size is kept read t = absurd t
took_body h ten a b c last (Ok (OversizeCut g)) size is kept read t = absurd t
took_body h ten a b c last (Ok (BodyCut g n)) size is kept read t =
    let body = t.3.0 in
    let count : length body ≡ n = t.3.2 in
    let same : h ≡ g = sym t.0 in
    let head : IsHead h (ten ++ body) = head_of h ten body size is (omega (arith, count, t.1)) in (
      ten ++ body,
      Consumes-trans a b c ten body read t.3.1,
      (subst (λ (k : MessageHeader). IsHead k (ten ++ body)) same head, omega (arith, size, count, length-append ten body), subst (λ (k : MessageHeader). k.length ≤ 4194304) same kept),
      t.2,
    )
took_body h ten a b c last (Err (Io e)) size is kept read t =
    (ten ++ t.0, Consumes-trans a b c ten t.0 read t.1, head_is_rest h ten t.0 size is t.2, t.3)
took_body h ten a b c last (Err Refused) size is kept read t =
    let long : 10 ≤ length (ten ++ t.0) = omega (arith, size, length-append ten t.0) in
    let header : h ≡ header_of (ten ++ t.0) = sym (header_front ten t.0 size ∙ is) in
    (ten ++ t.0, Consumes-trans a b c ten t.0 read t.1, head_is_rest h ten t.0 size is t.2, (long, subst (λ (k : MessageHeader). k.length ≤ 4194304) header kept))

-- the body of a frame that is too long was passed
pub took_oversize : (h : MessageHeader) (ten : List ℕ) (a b c : Option (List ℕ)) (last : Option Answered) (all : Bool)
    → all ≡ true → length ten ≡ 10 → header_of ten ≡ h → 4194304 < h.length → Consumes a b ten → Passed b c last h.length all → Took a c last (Ok (Whole (Oversize h)))
took_oversize h ten a b c last all yes_all size is long read passed =
    let p = subst (Passed b c last h.length) yes_all passed in
    let whole : IsWhole h p.0 (ten ++ p.0) = record {
      ten = ten;
      size = size;
      header = is;
      stated = p.2;
      all = refl;
    } in
    (ten ++ p.0, Consumes-trans a b c ten p.0 read p.1, (p.0, whole, long), tt)

-- it ended before
pub took_oversize_cut : (h : MessageHeader) (ten : List ℕ) (a b c : Option (List ℕ)) (last : Option Answered) (all : Bool)
    → all ≡ false → length ten ≡ 10 → header_of ten ≡ h → 4194304 < h.length → Consumes a b ten → Passed b c last h.length all → Took a c last (Ok (OversizeCut h))
took_oversize_cut h ten a b c last all not_all size is long read passed =
    let p = subst (Passed b c last h.length) not_all passed in
    (ten ++ p.0, Consumes-trans a b c ten p.0 read p.1, (head_of h ten p.0 size is p.2.0, long), p.2.1)

-- the reader failed before
pub took_oversize_broken : (h : MessageHeader) (ten : List ℕ) (a b c : Option (List ℕ)) (last : Option Answered) (e : Error)
    → length ten ≡ 10 → header_of ten ≡ h → Consumes a b ten → ConsumesBelow b c h.length → IsFailure last (error_kind e) → Took a c last (Err (Io e))
took_oversize_broken h ten a b c last e size is read p fails =
    (ten ++ p.0, Consumes-trans a b c ten p.0 read p.2, head_is_rest h ten p.0 size is p.1, fails)

-- ---- a body is passed

-- so many bytes of a page came behind those before
pub passed_on : (a b c : Option (List ℕ)) (before page : List ℕ) (came wanted left count : ℕ)
    → length before + left ≡ count → came ≤ length page → length page ≡ wanted → wanted ≤ came → wanted ≤ left → Consumes a b before → Consumes b c (take came page)
    → (bytes : List ℕ) × Consumes a c bytes × (length bytes + (left - wanted) ≡ count)
passed_on a b c before page came wanted left count all fits size whole inside p q =
    (before ++ take came page, Consumes-trans a b c before (take came page) p q, omega (arith, length-append before (take came page), length-take-le came page fits, all, fits, size, whole, inside))

-- fewer came than were left
pub passed_below : (a b c : Option (List ℕ)) (before page : List ℕ) (came wanted left count : ℕ)
    → length before + left ≡ count → came ≤ length page → came < wanted → wanted ≤ left → Consumes a b before → Consumes b c (take came page) → ConsumesBelow a c count
passed_below a b c before page came wanted left count all fits short inside p q =
    (before ++ take came page, omega (arith, length-append before (take came page), length-take-le came page fits, all, short, inside), Consumes-trans a b c before (take came page) p q)

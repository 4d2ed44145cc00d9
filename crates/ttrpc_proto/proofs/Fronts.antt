-- At the front of each list of bytes stands one thing.
use Rattle.std.proofs.Common.{◌≡◌, ℕ, ◌+◌, ◌-◌, ◌<◌, ◌≤◌, List, [], ◌∷◌, ◌++◌, length, refl, sym, ap, subst, ◌∙◌, arith, inl, inr}
use Rattle.std.proofs.lemmas.Bool.{cases_lt}
use Rattle.std.proofs.lemmas.List.{append-nil}
use Rattle.ttrpc_proto.specs.declared.framing.header.MessageHeader.{MessageHeader}
use Rattle.ttrpc_proto.specs.Framing.Header.{header_of}
use Rattle.ttrpc_proto.specs.declared.framing.frame.Incoming.{Incoming}
use Rattle.ttrpc_proto.specs.declared.framing.reading.Found.{Found}
use Rattle.ttrpc_proto.specs.declared.framing.reading.Found.TheVariants.{Whole, HeaderCut, BodyCut, OversizeCut}
use Rattle.ttrpc_proto.specs.Framing.Frames.{Frames, IsFrame, IsRest}
use Rattle.ttrpc_proto.specs.Framing.Streaming.{IsHead, StandsAt}
use Rattle.ttrpc_proto.proofs.Pieces.{is_frames, no_frame, one_front_frame}

-- ---- some thing

front_of_rest : (bytes : List ℕ) → IsRest bytes → (found : Found) × (front : List ℕ) × (rest : List ℕ) × StandsAt bytes found front rest
front_of_rest bytes r = elim (cases_lt (length bytes) 10) [
  | inl short ↦ (HeaderCut (length bytes), bytes, [], (sym (append-nil bytes), (refl, short), refl))
  | inr long ↦
      let head : IsHead (header_of bytes) bytes = record { whole = long; header = refl; short = r long } in
      elim (cases_lt 4194304 ((header_of bytes).length)) [
        | inl over ↦ (OversizeCut (header_of bytes), bytes, [], (sym (append-nil bytes), (head, over), refl))
        | inr kept ↦ (BodyCut (header_of bytes) (length bytes - 10), bytes, [], (sym (append-nil bytes), (head, omega (arith, long), kept), refl))
      ]
]

front_of_frames : (bytes : List ℕ) (is : List Incoming) (rest : List ℕ) → Frames bytes is rest → IsRest rest
    → (found : Found) × (front : List ℕ) × (rest' : List ℕ) × StandsAt bytes found front rest'
front_of_frames bytes [] rest same r = front_of_rest bytes (subst IsRest (sym same) r)
front_of_frames bytes (i ∷ is) rest f r = (Whole i, f.0, f.1, (f.2, f.3, tt))

pub some_front : (bytes : List ℕ) → (found : Found) × (front : List ℕ) × (rest : List ℕ) × StandsAt bytes found front rest
some_front bytes = let f = is_frames bytes in front_of_frames bytes f.0 f.1 f.2 f.3

-- ---- one thing

cut_is_all : (bytes a b : List ℕ) → bytes ≡ a ++ b → b ≡ [] → a ≡ bytes
cut_is_all bytes a b is none = sym (append-nil a) ∙ ap (λ r. a ++ r) (sym none) ∙ sym is

short_is_rest : (bytes : List ℕ) → length bytes < 10 → IsRest bytes
short_is_rest bytes short = λ long. absurd (omega (arith, short, long))

head_is_rest : (h : MessageHeader) (bytes : List ℕ) → IsHead h bytes → IsRest bytes
head_is_rest h bytes head = λ long. subst (λ (g : MessageHeader). length bytes < 10 + g.length) (sym head.header) head.short

-- a whole frame at the front, and a cut one that is all of the bytes
whole_or_cut : (P : Type 0) (i : Incoming) (bytes a b c d : List ℕ) → bytes ≡ a ++ b → IsFrame i a → bytes ≡ c ++ d → d ≡ [] → IsRest c → P
whole_or_cut P i bytes a b c d is frame cut none rest = absurd (no_frame i bytes a b is frame (subst IsRest (cut_is_all bytes c d cut none) rest))

-- fewer bytes than a header has, and a header
short_or_head : (P : Type 0) (h : MessageHeader) (bytes a b c d : List ℕ) → length a < 10 → IsHead h c → bytes ≡ a ++ b → b ≡ [] → bytes ≡ c ++ d → d ≡ [] → P
short_or_head P h bytes a b c d short head is none cut ends =
    let same : a ≡ c = cut_is_all bytes a b is none ∙ sym (cut_is_all bytes c d cut ends) in
    absurd (omega (arith, short, head.whole, ap length same))

-- a header of a body that is kept, and of one that is too long
kept_or_long : (P : Type 0) (h g : MessageHeader) (bytes a b c d : List ℕ) → IsHead h a → IsHead g c → h.length ≤ 4194304 → 4194304 < g.length
    → bytes ≡ a ++ b → b ≡ [] → bytes ≡ c ++ d → d ≡ [] → P
kept_or_long P h g bytes a b c d first second kept long is none cut ends =
    let same : a ≡ c = cut_is_all bytes a b is none ∙ sym (cut_is_all bytes c d cut ends) in
    let header : h ≡ g = sym first.header ∙ ap header_of same ∙ second.header in
    absurd (omega (arith, kept, long, ap MessageHeader.length header))

pub one_front : (bytes : List ℕ) (f g : Found) (a b c d : List ℕ) → StandsAt bytes f a b → StandsAt bytes g c d → (f ≡ g) × (a ≡ c)
one_front bytes (Whole i) (Whole j) a b c d p q = let same = one_front_frame bytes i j a b c d p.0 p.1 q.0 q.1 in (ap Whole same.0, same.1)
one_front bytes (Whole i) (HeaderCut m) a b c d p q = whole_or_cut _ i bytes a b c d p.0 p.1 q.0 q.2 (short_is_rest c (omega (arith, q.1.0, q.1.1)))
one_front bytes (Whole i) (BodyCut h m) a b c d p q = whole_or_cut _ i bytes a b c d p.0 p.1 q.0 q.2 (head_is_rest h c q.1.0)
one_front bytes (Whole i) (OversizeCut h) a b c d p q = whole_or_cut _ i bytes a b c d p.0 p.1 q.0 q.2 (head_is_rest h c q.1.0)
one_front bytes (HeaderCut n) (Whole j) a b c d p q = whole_or_cut _ j bytes c d a b q.0 q.1 p.0 p.2 (short_is_rest a (omega (arith, p.1.0, p.1.1)))
one_front bytes (BodyCut h n) (Whole j) a b c d p q = whole_or_cut _ j bytes c d a b q.0 q.1 p.0 p.2 (head_is_rest h a p.1.0)
one_front bytes (OversizeCut h) (Whole j) a b c d p q = whole_or_cut _ j bytes c d a b q.0 q.1 p.0 p.2 (head_is_rest h a p.1.0)
one_front bytes (HeaderCut n) (HeaderCut m) a b c d p q =
    let same : a ≡ c = cut_is_all bytes a b p.0 p.2 ∙ sym (cut_is_all bytes c d q.0 q.2) in
    (ap HeaderCut (sym p.1.0 ∙ ap length same ∙ q.1.0), same)
one_front bytes (HeaderCut n) (BodyCut h m) a b c d p q = short_or_head _ h bytes a b c d (omega (arith, p.1.0, p.1.1)) q.1.0 p.0 p.2 q.0 q.2
one_front bytes (HeaderCut n) (OversizeCut h) a b c d p q = short_or_head _ h bytes a b c d (omega (arith, p.1.0, p.1.1)) q.1.0 p.0 p.2 q.0 q.2
one_front bytes (BodyCut h n) (HeaderCut m) a b c d p q = short_or_head _ h bytes c d a b (omega (arith, q.1.0, q.1.1)) p.1.0 q.0 q.2 p.0 p.2
one_front bytes (OversizeCut h) (HeaderCut m) a b c d p q = short_or_head _ h bytes c d a b (omega (arith, q.1.0, q.1.1)) p.1.0 q.0 q.2 p.0 p.2
one_front bytes (BodyCut h n) (BodyCut g m) a b c d p q =
    let same : a ≡ c = cut_is_all bytes a b p.0 p.2 ∙ sym (cut_is_all bytes c d q.0 q.2) in
    let header : h ≡ g = sym p.1.0.header ∙ ap header_of same ∙ q.1.0.header in
    let count : n ≡ m = omega (arith, p.1.1, q.1.1, ap length same) in
    (ap (λ (k : MessageHeader). BodyCut k n) header ∙ ap (BodyCut g) count, same)
one_front bytes (BodyCut h n) (OversizeCut g) a b c d p q = kept_or_long _ h g bytes a b c d p.1.0 q.1.0 p.1.2 q.1.1 p.0 p.2 q.0 q.2
one_front bytes (OversizeCut h) (BodyCut g m) a b c d p q = kept_or_long _ g h bytes c d a b q.1.0 p.1.0 q.1.2 p.1.1 q.0 q.2 p.0 p.2
one_front bytes (OversizeCut h) (OversizeCut g) a b c d p q =
    let same : a ≡ c = cut_is_all bytes a b p.0 p.2 ∙ sym (cut_is_all bytes c d q.0 q.2) in
    (ap OversizeCut (sym p.1.0.header ∙ ap header_of same ∙ q.1.0.header), same)

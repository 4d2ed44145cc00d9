-- What a port was handed, one piece after the other.
use Rattle.std.proofs.Common.{◌≡◌, ℕ, ◌+◌, ◌-◌, ◌≤◌, List, [], ◌++◌, Option, length, take, drop, sym, ◌∙◌, ap, subst, arith, append_assoc, take-append-drop}
use Rattle.std.proofs.lemmas.List.{append-nil, length-drop}
use Rattle.std.proofs.Math.Seq.{take-add, take-length}
use Rattle.std.proofs.KnownBytes.{Appends-nil, Appends-trans, Appends-kept, Consumes-nil, Consumes-trans, Consumes-kept}
use Rattle.std.specs.Io.KnownBytes.{Appends, Consumes, Keeps}
use Rattle.ttrpc_sync.specs.Loops.{Handed, HandedAll}

-- The slice of a list from a place on.
slice_rest : (at : ℕ) (piece : List ℕ) → take (length piece - at) (drop at piece) ≡ drop at piece
slice_rest at piece = ap (λ k. take k (drop at piece)) (sym (length-drop at piece)) ∙ take-length (drop at piece)

-- Of the rest of a piece n bytes were taken.
pub taken_further : (a b c : Option (List ℕ)) (at n : ℕ) (piece : List ℕ)
    → Appends a b (take at piece) → Appends b c (take n (take (length piece - at) (drop at piece))) → Appends a c (take (at + n) piece)
taken_further a b c at n piece before now =
    let whole = ap (λ t. take at piece ++ take n t) (slice_rest at piece) ∙ sym (take-add at n piece) in
    subst (λ t. Appends a c t) whole (Appends-trans a b c (take at piece) (take n (take (length piece - at) (drop at piece))) before now)

pub taken_fits : (at n : ℕ) (piece : List ℕ) → at ≤ length piece → n ≤ length (take (length piece - at) (drop at piece)) → at + n ≤ length piece
taken_fits at n piece le fits = let rest = subst (λ t. n ≤ length t) (slice_rest at piece) fits in omega (arith, length-drop at piece, rest)

pub taken_in_part : (a b c : Option (List ℕ)) (at : ℕ) (piece : List ℕ) → Appends a b (take at piece) → Keeps b c → (n : ℕ) × Appends a c (take n piece)
taken_in_part a b c at piece taken kept = (at, Appends-kept a b c (take at piece) taken kept)

pub handed_nothing : (a p : Option (List ℕ)) → HandedAll a a p p
handed_nothing a p = record { bytes = []; read = Consumes-nil a; taken = Appends-nil p }

pub handed_no_more : (a b c p q r : Option (List ℕ)) → HandedAll a b p q → Keeps b c → Keeps q r → HandedAll a c p r
handed_no_more a b c p q r h read taken = record {
  bytes = h.bytes;
  read = Consumes-kept a b c h.bytes h.read read;
  taken = Appends-kept p q r h.bytes h.taken taken;
}

-- The port was asked whether it wants more.
pub handed_still : (a b p q r : Option (List ℕ)) → HandedAll a b p q → Keeps q r → HandedAll a b p r
handed_still a b p q r h taken = record {
  bytes = h.bytes;
  read = h.read;
  taken = Appends-kept p q r h.bytes h.taken taken;
}

pub handed_more : (a b c p q r : Option (List ℕ)) (piece : List ℕ) → HandedAll a b p q → Consumes b c piece → Appends q r piece → HandedAll a c p r
handed_more a b c p q r piece h read taken = record {
  bytes = h.bytes ++ piece;
  read = Consumes-trans a b c h.bytes piece h.read read;
  taken = Appends-trans p q r h.bytes piece h.taken taken;
}

pub handed_all : (room : ℕ) (a b p q : Option (List ℕ)) → HandedAll a b p q → Handed room a b p q
handed_all room a b p q h = record {
  bytes = h.bytes;
  rest = [];
  short = omega arith;
  read = subst (λ t. Consumes a b t) (sym (append-nil h.bytes)) h.read;
  taken = h.taken;
}

-- A rest that is no longer than a piece is no longer than a greater one.
pub handed_within : (room greater : ℕ) (a b p q : Option (List ℕ)) → room ≤ greater → Handed room a b p q → Handed greater a b p q
handed_within room greater a b p q le h = record {
  bytes = h.bytes;
  rest = h.rest;
  short = omega (arith, le, h.short);
  read = h.read;
  taken = h.taken;
}

-- Of the last piece that was read the port took a beginning.
pub handed_in_part : (room : ℕ) (a b c p q r : Option (List ℕ)) (piece : List ℕ)
    → length piece ≤ room → HandedAll a b p q → Consumes b c piece → ((n : ℕ) × Appends q r (take n piece)) → Handed room a c p r
handed_in_part room a b c p q r piece fits h read part = record {
  bytes = h.bytes ++ take part.0 piece;
  rest = drop part.0 piece;
  short = omega (arith, length-drop part.0 piece, fits);
  read =
      let parts = ap (λ t. h.bytes ++ t) (sym (take-append-drop part.0 piece)) ∙ sym (append_assoc h.bytes (take part.0 piece) (drop part.0 piece)) in
      subst (λ t. Consumes a c t) parts (Consumes-trans a b c h.bytes piece h.read read);
  taken = Appends-trans p q r h.bytes (take part.0 piece) h.taken part.1;
}

-- Bytes that a reader gave or a writer took, one call behind the other.
use borrow.Rule.Slice.PartMut.{put_mid, post_of}
use Rattle.std.proofs.Math.Seq.{take-add, take-append_seam, drop-append_seam, take-length}
use Rattle.std.proofs.lemmas.Grind.{common_steps}
use Rattle.std.proofs.lemmas.List.{length-drop, take-append-le}
use Rattle.ttrpc_proto.specs.Framing.Streams.{AppendsFront}
use Rattle.std.proofs.Common.{refl, min, arith, ◌≡◌, ℕ, ◌+◌, ◌-◌, ◌≤◌, List, ◌++◌, length, take, drop, Option, Result, Ok, Err, OnErr, sym, ap, ◌∙◌, subst, drop_at, length-take-le, le_refl}
use Rattle.std.proofs.lemmas.Slice.{take-put_mid_below}
use Rattle.std.proofs.KnownBytes.{Appends-kept, Appends-trans, Consumes-trans}
use Rattle.std.specs.Io.KnownBytes.{Appends, Consumes, Keeps}

-- the bytes behind the first few, as a slice has them
pub slice_rest : (at : ℕ) (bytes : List ℕ) → take (length bytes - at) (drop at bytes) ≡ drop at bytes
slice_rest at bytes = ap (λ k. take k (drop at bytes)) (sym (length-drop at bytes)) ∙ take-length (drop at bytes)

-- more of the bytes was appended
pub appends_on : (a b c : Option (List ℕ)) (bytes left : List ℕ) (at n : ℕ) → left ≡ drop at bytes → Appends a b (take at bytes) → Appends b c (take n left) → Appends a c (take (at + n) bytes)
appends_on a b c bytes left at n is before now =
    let whole : take at bytes ++ take n left ≡ take (at + n) bytes = ap (λ l. take at bytes ++ take n l) is ∙ sym (take-add at n bytes) in
    subst (λ t. Appends a c t) whole (Appends-trans a b c (take at bytes) (take n left) before now)

-- the front of a buffer, with what was read behind it
pub front_with : (at room n : ℕ) (old read : List ℕ) → at ≤ length old → n ≤ length read → take at old ++ take n read ≡ take (at + n) (put_mid at room old read)
front_with at room n old read inside fits =
    let front : take at (put_mid at room old read) ≡ take at old = take-put_mid_below _ _ _ _ _ (le_refl _) inside in
    let behind : drop at (put_mid at room old read) ≡ read ++ post_of at room old = drop_at (take at old) (read ++ post_of at room old) at (length-take-le at old inside) in
    let part : take n (drop at (put_mid at room old read)) ≡ take n read = ap (take n) behind ∙ take-append-le n read (post_of at room old) fits in
    sym (take-add at n (put_mid at room old read) ∙ ap (λ t. t ++ take n (drop at (put_mid at room old read))) front ∙ ap (λ t. take at old ++ t) part)

-- more was read, and this is all
pub consumes_on : (a b c : Option (List ℕ)) (before now all : List ℕ) → before ++ now ≡ all → Consumes a b before → Consumes b c now → Consumes a c all
consumes_on a b c before now all whole p q = subst (λ t. Consumes a c t) whole (Consumes-trans a b c before now p q)

-- all of the bytes is a beginning of them
pub front_kept : (a b c : Option (List ℕ)) (bytes : List ℕ) → Appends a b bytes → Keeps b c → AppendsFront a c bytes
front_kept a b c bytes p kept = (length bytes, subst (λ t. Appends a c t) (sym (take-length bytes)) (Appends-kept a b c bytes p kept))

-- all of the bytes was appended before a flush, so a beginning of them was whatever that answered
pub appends_flushed : {A E : Type 0} (r : Result A E) (a b c : Option (List ℕ)) (part bytes : List ℕ) → part ≡ bytes → Appends a b part → Keeps b c → OnErr r (AppendsFront a c bytes)
appends_flushed (Ok n) a b c part bytes is p kept = tt
appends_flushed (Err e) a b c part bytes is p kept = subst (λ t. AppendsFront a c t) is (front_kept a b c part p kept)

take-min_length : (n : ℕ) (xs : List ℕ) → take (min n (length xs)) xs ≡ take n xs
take-min_length n xs = grind (arith, common_steps)

-- a beginning of a part is one of the whole
pub front_of_part : (a b : Option (List ℕ)) (part rest whole : List ℕ) → part ++ rest ≡ whole → AppendsFront a b part → AppendsFront a b whole
front_of_part a b part rest whole is p =
    let fewer : take (min p.0 (length part)) whole ≡ take p.0 part =
    ap (take (min p.0 (length part))) (sym is) ∙ take-append-le (min p.0 (length part)) part rest (omega arith) ∙ take-min_length p.0 part in
    (min p.0 (length part), subst (λ t. Appends a b t) (sym fewer) p.1)

-- a part, and a beginning of what follows it
pub front_behind : (a b c : Option (List ℕ)) (part rest whole : List ℕ) → part ++ rest ≡ whole → Appends a b part → AppendsFront b c rest → AppendsFront a c whole
front_behind a b c part rest whole is p q =
    let longer : take (length part + q.0) whole ≡ part ++ take q.0 rest =
    ap (take (length part + q.0)) (sym is) ∙ take-add (length part) q.0 (part ++ rest) ∙ ap (λ t. t ++ take q.0 (drop (length part) (part ++ rest))) (take-append_seam part rest) ∙ ap (λ t. part ++ take q.0 t) (drop-append_seam part rest) in
    (length part + q.0, subst (λ t. Appends a c t) (sym longer) (Appends-trans a b c part (take q.0 rest) p q.1))

pub front_of_both : {A E : Type 0} (r : Result A E) (a b c : Option (List ℕ)) (first second : List ℕ)
    → Appends a b first → OnErr r (AppendsFront b c second) → OnErr r (AppendsFront a c (first ++ second))
front_of_both (Ok n) a b c first second p q = tt
front_of_both (Err e) a b c first second p q = front_behind a b c first second (first ++ second) refl p q

-- What was written and what was reported, one write after the other.
use Rattle.std.proofs.Common.{All, ◌≡◌, ℕ, zero, suc, ◌≤◌, List, [], ◌∷◌, ◌++◌, Option, Some, None, IfSome, take, sym, ◌∙◌, ap, subst, refl, arith}
use Rattle.std.proofs.KnownBytes.{Appends-nil, Appends-trans, Appends-kept}
use Rattle.std.specs.Io.KnownBytes.{Appends, Keeps}
use Rattle.std.proofs.lemmas.List.Elements.{All-push}
use Rattle.ttrpc_proto.proofs.Calls.{makes_more, makes_none}
use Rattle.ttrpc_proto.specs.Framing.Streams.{Called, Makes}
use Rattle.ttrpc_sync.specs.declared.ports.PortState.{PortState}
use Rattle.ttrpc_sync.specs.Loops.{EndsAt, GoesOn, Told, WritesUntil, Written, reported, waiting}

pub written_nothing : (a p : Option (List ℕ)) → Written a a p p
written_nothing a p = record { bytes = []; written = Appends-nil a; told = Appends-nil p }

pub written_no_more : (a b c p q r : Option (List ℕ)) → Written a b p q → Keeps b c → Keeps q r → Written a c p r
written_no_more a b c p q r w written told = record {
  bytes = w.bytes;
  written = Appends-kept a b c w.bytes w.written written;
  told = Appends-kept p q r w.bytes w.told told;
}

pub written_more : (a b c p q r : Option (List ℕ)) (bytes : List ℕ) → Written a b p q → Appends b c bytes → Appends q r bytes → Written a c p r
written_more a b c p q r bytes w written told = record {
  bytes = w.bytes ++ bytes;
  written = Appends-trans a b c w.bytes bytes w.written written;
  told = Appends-trans p q r w.bytes bytes w.told told;
}

take_fewer : (n m : ℕ) (xs : List ℕ) → n ≤ m → take n (take m xs) ≡ take n xs
take_fewer zero m xs le = refl
take_fewer (suc n) zero xs le = absurd (omega arith)
take_fewer (suc n) (suc m) [] le = refl
take_fewer (suc n) (suc m) (x ∷ xs) le = ap (λ t. x ∷ t) (take_fewer n m xs (omega arith))

-- The first n of the m bytes that were lent are the first n that waited.
pub reported_as_lent : (t : Option Told) (new : Option (List ℕ)) (lent : List ℕ) (n m : ℕ)
    → n ≤ m → IfSome t (λ u. lent ≡ take m u.waiting) → Appends (reported t) new (take n (waiting t)) → Appends (reported t) new (take n lent)
reported_as_lent None new lent n m le is told = tt
reported_as_lent (Some t) new lent n m le is told =
    subst (λ xs. Appends (Some t.reported) new xs) (sym (ap (λ xs. take n xs) is ∙ take_fewer n m t.waiting le)) told

pub no_calls : (a : Option (List Called)) → Makes a a (All GoesOn)
no_calls a = makes_none a (All GoesOn) (λ k d lt. absurd (omega arith))

pub goes_on : (a b c : Option (List Called)) (call : Called) → Makes a b (All GoesOn) → Makes b c (λ calls. calls ≡ call ∷ []) → GoesOn call → Makes a c (All GoesOn)
goes_on a b c call before now goes =
    makes_more a b c (All GoesOn) (λ calls. calls ≡ call ∷ []) (All GoesOn) (λ xs ys all is. subst (λ l. All GoesOn (xs ++ l)) (sym is) (All-push GoesOn xs call all goes)) before now

pub ends_here : (a b c : Option (List Called)) (call : Called) (state : PortState) → Makes a b (All GoesOn) → Makes b c (λ calls. calls ≡ call ∷ []) → EndsAt call state → Makes a c (WritesUntil state)
ends_here a b c call state before now ends =
    makes_more a b c (All GoesOn) (λ calls. calls ≡ call ∷ []) (WritesUntil state) (λ xs ys goes is. record {
      before = xs;
      last = call;
      all = ap (λ l. xs ++ l) is;
      goes = goes;
      ends = ends;
    }) before now

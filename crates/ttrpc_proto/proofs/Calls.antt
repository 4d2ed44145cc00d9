-- Calls of a writer, one behind the other.
use Rattle.std.proofs.Common.{inl, inr, ◌≡◌, ◌≢◌, ℕ, ◌+◌, ◌<◌, ◌≤◌, List, [], ◌∷◌, ◌++◌, All, length, drop, Option, Some, None, IfSome, ◌-◌, ◌^◌, refl, sym, ap, ◌∙◌, subst, append_assoc, append-nil, arith, length-append}
use Rattle.std.proofs.Math.Seq.{drop-drop}
use Rattle.std.proofs.lemmas.List.{length-drop}
use Rattle.std.proofs.lemmas.List.Elements.{All-head, All-push, All-same, All-tail}
use Rattle.std.specs.declared.io.ErrorKind.{ErrorKind}
use Rattle.std.specs.declared.io.ErrorKind.TheVariants.{Interrupted, TimedOut, WriteZero}
use Rattle.ttrpc_proto.specs.declared.framing.streams.again.Passing.{Passing}
use Rattle.ttrpc_proto.specs.declared.framing.streams.again.Passing.TheVariants.{Interrupted as OnlyInterrupted}
use Rattle.ttrpc_proto.specs.Framing.Streams.{Answered, Moved, Failed, Called, Offered, Flushed, Makes, Passes, IsPassed, Tries, Offers, FailsAs, Breaks, Then, Counts, SpendsTries}

pub makes_none : (a : Option (List Called)) (P : List Called → Type 0) → P [] → Makes a a P
makes_none None P p = tt
makes_none (Some calls) P p = ([], sym (append-nil calls), p)

pub makes_more : (a b c : Option (List Called)) (P Q S : List Called → Type 0)
    → ((xs ys : List Called) → P xs → Q ys → S (xs ++ ys)) → Makes a b P → Makes b c Q → Makes a c S
makes_more None b c P Q S join p q = tt
makes_more (Some x) None c P Q S join p q = absurd p
makes_more (Some x) (Some y) None P Q S join p q = absurd q
makes_more (Some x) (Some y) (Some z) P Q S join p q =
    (p.0 ++ q.0, q.1 ∙ ap (λ l. l ++ q.0) p.1 ∙ append_assoc x p.0 q.0, join p.0 q.0 p.2 q.2)

pub makes_so : (a b : Option (List Called)) (P Q : List Called → Type 0) → ((xs : List Called) → P xs → Q xs) → Makes a b P → Makes a b Q
makes_so None b P Q so p = tt
makes_so (Some x) None P Q so p = absurd p
makes_so (Some x) (Some y) P Q so p = (p.0, p.1, so p.0 p.2)

pub offers_more : (part : List ℕ) (before : List Called) (mid : List ℕ) (after : List Called) (left : List ℕ)
    → Offers part before mid → Offers mid after left → Offers part (before ++ after) left
offers_more part [] mid after left p q = subst (λ (m : List ℕ). Offers m after left) p q
offers_more part (Offered bytes (Moved n) ∷ before) mid after left p q = (p.0, p.1, p.2, offers_more (drop n part) before mid after left p.3 q)
offers_more part (Offered bytes (Failed kind) ∷ before) mid after left p q = (p.0, p.1, p.2, offers_more part before mid after left p.3 q)
offers_more part (Flushed answer ∷ before) mid after left p q = absurd p

-- ---- Reads are counted

pub counts_none : (a : Option ℕ) → Counts a a 0
counts_none None = tt
counts_none (Some n) = omega arith

pub counts_more : (a b c : Option ℕ) (n m : ℕ) → Counts a b n → Counts b c m → Counts a c (n + m)
counts_more None b c n m p q = tt
counts_more (Some x) None c n m p q = absurd p
counts_more (Some x) (Some y) None n m p q = absurd q
counts_more (Some x) (Some y) (Some z) n m p q = omega (arith, p, q)

abbrev has_moved : Answered → Type 0
has_moved (Moved n) = Unit {0}
has_moved (Failed k) = ⊥

-- an answer that moved bytes doesn't pass
moved_stays : (passing : Passing) (k : ℕ) (l : Answered) → l ≡ Moved k → Passes passing l → 2 ^ 64 - 1 ≤ 0
moved_stays passing k (Moved j) is passes = absurd (subst has_moved passes.1 tt)
moved_stays passing k (Failed kind) is passes = absurd (subst has_moved (sym is) tt)

pub spends_none : (passing : Passing) (a b : Option ℕ) (last : Option Answered) (k n : ℕ) → Counts a b n → IfSome last (λ l. l ≡ Moved k) → SpendsTries passing a b last
spends_none passing a b None k n counted moved = (n, counted, tt)
spends_none passing a b (Some l) k n counted moved = (n, counted, λ passes. let none = moved_stays passing k l moved passes in omega (arith, none))

-- what was read before takes no try away
pub spends_more : (passing : Passing) (last : Option Answered) (n m : ℕ)
    → IfSome last (λ a. Passes passing a → 2 ^ 64 - 1 ≤ m) → IfSome last (λ a. Passes passing a → 2 ^ 64 - 1 ≤ n + m)
spends_more passing None n m spent = tt
spends_more passing (Some l) n m spent = λ passes. let so = spent passes in omega (arith, so)

-- all tries are used up
pub spends_all : (passing : Passing) (a b : Option ℕ) (last : Option Answered) (n : ℕ) → Counts a b n → n ≡ 2 ^ 64 - 1 → SpendsTries passing a b last
spends_all passing a b None n counted all = (n, counted, tt)
spends_all passing a b (Some l) n counted all = (n, counted, λ _. omega (arith, all))

-- ---- A call is tried again

-- one more call passed
pub tries_more : (a b c : Option (List Called)) (passing : Passing) (bytes : List ℕ) (n : ℕ) (answer : Answered) → Passes passing answer
    → Makes a b (λ (calls : List Called). All (IsPassed passing bytes) calls × (length calls ≡ n)) → Makes b c (λ (calls : List Called). calls ≡ Offered bytes answer ∷ [])
    → Makes a c (λ (calls : List Called). All (IsPassed passing bytes) calls × (length calls ≡ n + 1))
tries_more a b c passing bytes n answer passes before now =
    let join : (xs ys : List Called) → All (IsPassed passing bytes) xs × (length xs ≡ n) → ys ≡ Offered bytes answer ∷ [] → All (IsPassed passing bytes) (xs ++ ys) × (length (xs ++ ys) ≡ n + 1) =
    λ xs ys p q. (
      All-same (IsPassed passing bytes) (xs ++ ys) (xs ++ Offered bytes answer ∷ []) (ap (λ l. xs ++ l) q) (All-push (IsPassed passing bytes) xs (Offered bytes answer) p.0 (answer, refl, passes)),
      let count : length (xs ++ ys) ≡ length xs + 1 = length-append xs ys ∙ ap (λ (cs : List Called). length xs + length cs) q in omega (arith, count, p.1),
    ) in
    makes_more a b c _ _ _ join before now

-- calls that were interrupted leave all that was offered
interrupted_offers : (bytes : List ℕ) (calls : List Called) → 0 < length bytes → All (IsPassed OnlyInterrupted bytes) calls → Offers bytes calls bytes
interrupted_offers bytes [] some all = refl
interrupted_offers bytes (call ∷ calls) some all =
    let one = All-head (IsPassed OnlyInterrupted bytes) call calls all in
    let is : call ≡ Offered bytes (Failed one.2.0) = one.1 ∙ ap (Offered bytes) one.2.1 in
    subst (λ (c : Called). Offers bytes (c ∷ calls) bytes) (sym is) (refl, some, one.2.2, interrupted_offers bytes calls some (All-tail (IsPassed OnlyInterrupted bytes) call calls all))

-- ---- A part is offered

-- an offer of which some was taken leaves the rest
pub offers_tried : (part : List ℕ) (calls : List Called) (n : ℕ) → 0 < n → n ≤ length part → Tries OnlyInterrupted part calls (Moved n) → Offers part calls (drop n part)
offers_tried part calls n some fits (inl t) =
    subst (λ (cs : List Called). Offers part cs (drop n part)) (sym t.1) (offers_more part t.0 part (Offered part (Moved n) ∷ []) (drop n part) (interrupted_offers part t.0 (omega (arith, some, fits)) t.2) (refl, some, fits, refl))
offers_tried part calls n some fits (inr t) = absurd (let moved : Moved n ≡ Failed TimedOut = t.0 in cc)

-- what is left of the part was offered, and some of it was taken
pub offers_on : (a b c : Option (List Called)) (part left : List ℕ) (at n : ℕ) → left ≡ drop at part → 0 < n → n ≤ length left
    → Makes a b (λ (calls : List Called). Offers part calls (drop at part)) → Makes b c (λ (calls : List Called). Tries OnlyInterrupted left calls (Moved n))
    → Makes a c (λ (calls : List Called). Offers part calls (drop (at + n) part))
offers_on a b c part left at n is some fits before now =
    let same : drop n left ≡ drop (at + n) part = ap (drop n) is ∙ drop-drop n at part in
    let join : (xs ys : List Called) → Offers part xs (drop at part) → Tries OnlyInterrupted left ys (Moved n) → Offers part (xs ++ ys) (drop (at + n) part) =
    λ xs ys p q. offers_more part xs left ys (drop (at + n) part) (subst (λ (l : List ℕ). Offers part xs l) (sym is) p) (subst (λ (l : List ℕ). Offers left ys l) same (offers_tried left ys n some fits q)) in
    makes_more a b c _ _ _ join before now

-- what is left of the part was offered, and that failed
pub offers_end : (a b c : Option (List Called)) (part left : List ℕ) (at : ℕ) (told : Answered) (kind : ErrorKind) → left ≡ drop at part
    → at < length part → FailsAs told kind → kind ≢ Interrupted
    → Makes a b (λ (calls : List Called). Offers part calls (drop at part)) → Makes b c (λ (calls : List Called). Tries OnlyInterrupted left calls told)
    → Makes a c (λ (calls : List Called). Breaks part calls kind)
offers_end a b c part left at told kind is inside fails lasting before now =
    let some : 0 < length left = omega (arith, ap length is ∙ length-drop at part, inside) in
    let join : (xs ys : List Called) → Offers part xs (drop at part) → Tries OnlyInterrupted left ys told → Breaks part (xs ++ ys) kind =
    λ xs ys p q. record {
      before = xs;
      left = left;
      tries = ys;
      told = told;
      all = refl;
      offers = subst (λ (l : List ℕ). Offers part xs l) (sym is) p;
      some = some;
      tried = q;
      fails = fails;
      lasting = lasting;
    } in
    makes_more a b c _ _ _ join before now

pub zero_lasts : (kind : ErrorKind) → kind ≡ WriteZero → kind ≢ Interrupted
zero_lasts kind zero is = absurd (let both : WriteZero ≡ Interrupted = sym zero ∙ is in cc)

-- ---- One thing behind the other

-- the first failed
pub then_fails : (a b : Option (List Called)) (P Q : List Called → Option ErrorKind → Type 0) (kind : ErrorKind)
    → Makes a b (λ (calls : List Called). P calls (Some kind)) → Makes a b (λ (calls : List Called). Then P Q calls (Some kind))
then_fails a b P Q kind p = makes_so a b (λ (calls : List Called). P calls (Some kind)) (λ (calls : List Called). Then P Q calls (Some kind)) (λ (xs : List Called) p. inl p) p

-- the first didn't
pub then_goes : (a b c : Option (List Called)) (P Q : List Called → Option ErrorKind → Type 0) (failure : Option ErrorKind)
    → Makes a b (λ (calls : List Called). P calls None) → Makes b c (λ (calls : List Called). Q calls failure) → Makes a c (λ (calls : List Called). Then P Q calls failure)
then_goes a b c P Q None p q = makes_more a b c _ _ _ (λ (xs : List Called) (ys : List Called) p q. (xs, ys, refl, p, q)) p q
then_goes a b c P Q (Some kind) p q = makes_more a b c _ _ _ (λ (xs : List Called) (ys : List Called) p q. inr (xs, ys, refl, p, q)) p q

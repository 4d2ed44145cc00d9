-- The seals in flight: a chain from a state that is paired with the half that will open them. No bytes of a stream, no
-- queue.
use Rattle.ttrpc_world_trace.proofs.FlightWords.{◌≡◌, ℕ, suc, Bool, true, false, List, [], ◌∷◌, ◌++◌, refl, ap, subst, filter, Moves, Refusals, associated, InboundTransform, InboundResult, Opened, Refused, Opens, Flying, AreLinked, Chain, arrived, flying_without, TooLong}
use Rattle.ttrpc_secure.specs.Halves.{IsPaired}
use Rattle.ttrpc_world_trace.proofs.Losing.{left_behind, stays}

pub none_linked : {O I : Type 0} (seals : Moves O) (opens : Moves I) (refuses : Refusals I) (s : O) (t : I) → IsPaired seals opens refuses s t → AreLinked seals opens refuses [] s t
none_linked seals opens refuses s t paired = record { start = s; paired = paired; chain = refl }

-- ---- one more is sealed

chain_more : {O : Type 0} (seals : Moves O) (s : O) (xs : List Flying) (t : O) (x : Flying) (u : O) → Chain seals s xs t → seals t x.plain (associated x.frame.message.header) x.frame.message.payload u → Chain seals s (xs ++ x ∷ []) u
chain_more seals s [] t x u c sealed = (u, subst (λ r. seals r x.plain (associated x.frame.message.header) x.frame.message.payload u) c sealed, refl)
chain_more seals s (y ∷ xs) t x u c sealed = (c.0, c.1, chain_more seals c.0 xs t x u c.2 sealed)

pub more_linked : {O I : Type 0} (seals : Moves O) (opens : Moves I) (refuses : Refusals I) (xs : List Flying) (out : O) (in_ : I) (x : Flying) (u : O) → AreLinked seals opens refuses xs out in_
    → seals out x.plain (associated x.frame.message.header) x.frame.message.payload u → AreLinked seals opens refuses (xs ++ x ∷ []) u in_
more_linked seals opens refuses xs out in_ x u l sealed = record { start = l.start; paired = l.paired; chain = chain_more seals l.start xs out x u l.chain sealed }

-- ---- the first is opened

pub first_opened : {O I : Type 0} (seals : Moves O) (h : InboundTransform I) (x : Flying) (xs : List Flying) (out : O) (in_ : I) (opening : InboundResult) (later : I) → AreLinked seals h.opens h.refuses (x ∷ xs) out in_
    → Opens h in_ (arrived x) opening later → (opening ≡ Opened x.plain) × AreLinked seals h.opens h.refuses xs out later
first_opened seals h x xs out in_ TooLong later l opens = absurd opens
first_opened seals h x xs out in_ (Refused why) later l opens = absurd ((l.paired 1 x.plain (associated x.frame.message.header) x.frame.message.payload l.chain.0 l.chain.1).0 why opens.0)
first_opened seals h x xs out in_ (Opened plain) later l opens = (
  ap Opened ((l.paired 1 x.plain (associated x.frame.message.header) x.frame.message.payload l.chain.0 l.chain.1).1 plain later opens).0,
  record {
    start = l.chain.0;
    paired = λ n. ((l.paired (suc n) x.plain (associated x.frame.message.header) x.frame.message.payload l.chain.0 l.chain.1).1 plain later opens).1;
    chain = l.chain.2;
  },
)

-- ---- some are thrown away that didn't change the half

module _ {O : Type 0} (seals : Moves O) (still : (s t : O) (plain aad sealed : List ℕ) → seals s plain aad sealed t → t ≡ s) where
  chain_kept_at : (keep : Flying → Bool) (b : Bool) (y : Flying) (ys : List Flying) (s t : O) → keep y ≡ b → Chain seals s (y ∷ ys) t
      → ((r : O) → Chain seals r ys t → Chain seals r (filter keep ys) t) → Chain seals s (filter keep (y ∷ ys)) t
  chain_kept_at keep true y ys s t e c later = rw e (c.0, c.1, later c.0 c.2)
  chain_kept_at keep false y ys s t e c later = rw e (later s (subst (λ r. Chain seals r ys t) (still s c.0 y.plain (associated y.frame.message.header) y.frame.message.payload c.1) c.2))

  chain_kept : (keep : Flying → Bool) (t : O) (front back : List Flying) (s : O) → Chain seals s (front ++ back) t → Chain seals s (front ++ filter keep back) t
  chain_kept keep t [] [] s c = c
  chain_kept keep t [] (y ∷ ys) s c = chain_kept_at keep (keep y) y ys s t refl c (chain_kept keep t [] ys)
  chain_kept keep t (x ∷ xs) ys s c = (c.0, c.1, chain_kept keep t xs ys c.0 c.2)

  pub thrown_linked : {I : Type 0} (opens : Moves I) (refuses : Refusals I) (transit queued : List Flying) (out : O) (in_ : I) (owners : ℕ → Bool) (n : ℕ) → AreLinked seals opens refuses (transit ++ queued) out in_
      → AreLinked seals opens refuses (transit ++ flying_without owners n queued) out in_
  thrown_linked opens refuses transit queued out in_ owners n l = record {
    start = l.start;
    paired = l.paired;
    chain = left_behind (λ all left. Chain seals l.start all out → Chain seals l.start left out) owners n transit queued (λ front back. chain_kept (stays owners) out front back l.start) l.chain;
  }

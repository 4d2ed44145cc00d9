-- A reading function and a part of the grammar say the same. What follows from that alone.
use Rattle.std.proofs.Common.{◌≡◌, ℕ, ◌<◌, ◌≤◌, Bool, true, false, cond, List, [], ◌++◌, length, Option, Some, None, refl, sym, ap, subst, ◌∙◌, arith, ◌⊎◌, inl, inr}
use Rattle.std.specs.Option.{option_map}
use Rattle.std.proofs.lemmas.Option.{some_pair_parts}
use Rattle.std.proofs.lemmas.List.{length-append, append-nil}
use Rattle.ttrpc_wire.specs.Reading.{◌>>=◌}
use Rattle.ttrpc_wire.specs.Front.{Begins, BeginsNone}

pub record Agrees {X : Type 0} (Is : List ℕ → X → Type 0) (read : List ℕ → Option (X × List ℕ)) : Type 0 where
  pub takes : (bytes : List ℕ) (x : X × List ℕ) → read bytes ≡ Some x → Begins Is bytes x.0 x.1
  pub again : (front rest : List ℕ) (x : X) → Is front x → read (front ++ rest) ≡ Some (x, rest)
  pub some : (front : List ℕ) (x : X) → Is front x → 1 ≤ length front

-- ---- cases on what a step answered

pub none_some : {A : Type 0} (x : A) → None ≡ Some x → ⊥
none_some x e = cc

pub some_or_none : {A : Type 0} (o : Option A) → ((x : A) × (o ≡ Some x)) ⊎ (o ≡ None)
some_or_none None = inr refl
some_or_none (Some x) = inl (x, refl)

pub chosen : {A : Type 0} (b : Bool) (x y z : A) → cond b x y ≡ z → ((b ≡ true) × (x ≡ z)) ⊎ ((b ≡ false) × (y ≡ z))
chosen true x y z e = inl (refl, e)
chosen false x y z e = inr (refl, e)

pub unrefused : {A : Type 0} (b : Bool) (o : Option A) (y : A) → cond b None o ≡ Some y → (b ≡ false) × (o ≡ Some y)
unrefused true o y e = absurd cc
unrefused false o y e = (refl, e)

pub mapped : {A B : Type 0} (f : A → B) (o : Option A) (y : B) → option_map f o ≡ Some y → (x : A) × (o ≡ Some x) × (f x ≡ y)
mapped f None y e = absurd cc
mapped f (Some x) y e = (x, refl, cc)

pub bound : {A B : Type 0} (o : Option A) (f : A → Option B) (y : B) → (o >>= f) ≡ Some y → (x : A) × (o ≡ Some x) × (f x ≡ Some y)
bound None f y e = absurd cc
bound (Some x) f y e = (x, refl, e)

-- ---- from agreement

pub found : {X : Type 0} {Is : List ℕ → X → Type 0} {read : List ℕ → Option (X × List ℕ)} → Agrees Is read → (bytes rest : List ℕ) (x : X) → Begins Is bytes x rest → read bytes ≡ Some (x, rest)
found {read = read} a bytes rest x b = ap read b.whole ∙ a.again b.front rest x b.is

pub nothing : {X : Type 0} {Is : List ℕ → X → Type 0} {read : List ℕ → Option (X × List ℕ)} → Agrees Is read → (bytes : List ℕ) → read bytes ≡ None → BeginsNone Is bytes
nothing a bytes e = record { none = λ x rest b. none_some (x, rest) (sym e ∙ found a bytes rest x b) }

pub only_one : {X : Type 0} {Is : List ℕ → X → Type 0} {read : List ℕ → Option (X × List ℕ)} → Agrees Is read → (bytes rest rest' : List ℕ) (x x' : X) → Begins Is bytes x rest → Begins Is bytes x' rest' → (x ≡ x') × (rest ≡ rest')
only_one a bytes rest rest' x x' b b' = some_pair_parts x x' rest rest' (sym (found a bytes rest x b) ∙ found a bytes rest' x' b')

pub no_longer : {X : Type 0} {Is : List ℕ → X → Type 0} {read : List ℕ → Option (X × List ℕ)} → Agrees Is read → (front more : List ℕ) (x x' : X) → Is front x → Is (front ++ more) x' → (x ≡ x') × (more ≡ [])
no_longer a front more x x' h h' =
    only_one a (front ++ more) more [] x x' (record { front = front; whole = refl; is = h }) (record { front = front ++ more; whole = sym (append-nil (front ++ more)); is = h' })

pub shortens : {X : Type 0} {Is : List ℕ → X → Type 0} {read : List ℕ → Option (X × List ℕ)} → Agrees Is read → (bytes rest : List ℕ) (x : X) → Begins Is bytes x rest → length rest < length bytes
shortens a bytes rest x b = omega (arith, a.some b.front x b.is, ap length b.whole, length-append b.front rest)

-- the same seen by f, where the grammar is
pub agrees_map : {X Y : Type 0} {Is : List ℕ → X → Type 0} {Is' : List ℕ → Y → Type 0} {read : List ℕ → Option (X × List ℕ)} (f : X → Y)
    → Agrees Is read
    → ((front : List ℕ) (x : X) → Is front x → Is' front (f x))
    → ((front : List ℕ) (y : Y) → Is' front y → (x : X) × Is front x × (f x ≡ y))
    → Agrees Is' (λ bytes. option_map (λ (x : X × List ℕ). (f x.0, x.1)) (read bytes))
agrees_map {X} {Y} {Is} {Is'} {read} f a to from = record {
  takes = λ bytes y e.
      let m = mapped (λ (x : X × List ℕ). (f x.0, x.1)) (read bytes) y e in
      let b = a.takes bytes m.0 m.1 in
      subst (λ (y : Y × List ℕ). Begins Is' bytes y.0 y.1) m.2 (record { front = b.front; whole = b.whole; is = to b.front m.0.0 b.is });
  again = λ front rest y h.
      let g = from front y h in
      ap (option_map (λ (x : X × List ℕ). (f x.0, x.1))) (a.again front rest g.0 g.1) ∙ ap (λ (y : Y). Some (y, rest)) g.2;
  some = λ front y h. let g = from front y h in a.some front g.0 g.1;
}

-- Each step keeps the rule.
use Rattle.std.proofs.Common.{◌≡◌, ◌≢◌, ◌⊎◌, ℕ, zero, suc, ◌+◌, ◌-◌, ◌%◌, ◌^◌, ◌==◌, List, [], ◌∷◌, ◌++◌, set, Bool, true, false, true≢false, Option, Some, refl, sym, ap, ◌∙◌, subst, ⊎_elim, inl, inr, arith}
use Rattle.std.specs.Prelude.{slice_index, slice_set}
use Rattle.std.proofs.Math.Nat.{mod-add-mod, add-mod_right}
use Rattle.std.proofs.lemmas.Bool.{eqb-true}
use mathlib.Core.Option.{none, some, some-ne-none, some-injective}
use lib.ListN.{get_elem?}
use Rattle.atomic_table.specs.Table.{Allows, Splits, step}
use Rattle.atomic_table.specs.Table.Act.{keeps}
use Rattle.atomic_table.proofs.Lists.{at_set, at_snoc, set_again}
use Rattle.ttrpc_shutdown.specs.declared.rule.Holder.{Holder}
use Rattle.ttrpc_shutdown.specs.Rule.{holder, the_notifier, newcomer, IsLed, Fits, IsKept, Counted, Seated, Shares, Leaves, Sets, Looks, Counts}
use Rattle.ttrpc_shutdown.specs.ShutdownWords.{one_if, shares_of}

abbrev Rule : Counted → Type 0
Rule s = IsKept s.words s.views

off : {A : Type 0} → false ≡ true → A
off e = absurd (true≢false (sym e))

-- the sum after one view changed
pub shares-set : (hs : List Holder) (id : ℕ) (h k : Holder) → get_elem? hs id ≡ some h → shares_of (set hs id k) + one_if h.shares ≡ shares_of hs + one_if k.shares
shares-set [] id h k e = absurd (some-ne-none h (sym e))
shares-set (x ∷ xs) zero h k e = let same = ap (λ (y : Holder). one_if y.shares) (some-injective x h e) in omega arith
shares-set (x ∷ xs) (suc id) h k e = let rest = shares-set xs id h k e in omega arith

shares-snoc : (hs : List Holder) (k : Holder) → shares_of (hs ++ k ∷ []) ≡ shares_of hs + one_if k.shares
shares-snoc [] k = omega arith
shares-snoc (x ∷ xs) k = let rest = shares-snoc xs k in omega arith

led-set : (hs : List Holder) (id : ℕ) (h k : Holder) → get_elem? hs id ≡ some h → k.notifies ≡ h.notifies → IsLed hs → IsLed (set hs id k)
led-set [] id h k e same led = led
led-set (x ∷ xs) zero h k e same led = same ∙ (ap (λ (y : Holder). y.notifies) (sym (some-injective x h e)) ∙ led)
led-set (x ∷ xs) (suc id) h k e same led = led

led-snoc : (hs : List Holder) (k : Holder) → IsLed hs → IsLed (hs ++ k ∷ [])
led-snoc [] k led = absurd led
led-snoc (x ∷ xs) k led = led

fits-set : (flag : ℕ) (hs : List Holder) (id : ℕ) (k : Holder) → ((seat : ℕ) (u : Holder) → seat ≢ id → get_elem? hs seat ≡ some u → Fits flag seat u) → Fits flag id k
    → (seat : ℕ) (u : Holder) → get_elem? (set hs id k) seat ≡ some u → Fits flag seat u
fits-set flag hs id k others mine seat u e =
    ⊎_elim
    (λ (x : (seat ≡ id) × (k ≡ u)). subst (λ (y : ℕ × Holder). Fits flag y.0 y.1) (λ i. (sym x.0 i, x.1 i)) mine)
    (λ (x : (seat ≢ id) × (get_elem? hs seat ≡ some u)). others seat u x.0 x.1)
    (at_set hs id seat k u e)

pub begins : IsKept (0 ∷ 0 ∷ []) (the_notifier ∷ [])
begins = record { flag = 0; count = 0; two = refl; bit = inl refl; sum = refl; led = refl; each = one }
  where
    one : (seat : ℕ) (h : Holder) → get_elem? (the_notifier ∷ []) seat ≡ some h → Fits 0 seat h
    one zero h e = subst (Fits 0 0) (some-injective _ _ e) (record { set = λ x. off x; first = λ _. refl; no_share = λ _. refl; told = λ _ (x : 0 ≡ 1). absurd (omega arith) })
    one (suc seat) h e = absurd (some-ne-none h (sym e))

pub not_true : (b : Bool) → (b ≡ true → ⊥) → b ≡ false
not_true true h = absurd (h refl)
not_true false h = refl

-- a new seat without a share
pub parts : (id : ℕ) (h : Holder) → Splits Rule id h h (newcomer h)
parts id h s kept at =
    let r = newcomer h in
    let sum : shares_of (s.views ++ r ∷ []) ≡ shares_of s.views = let k = shares-snoc s.views r in omega arith in
    let fits : (seat : ℕ) (u : Holder) → get_elem? (s.views ++ r ∷ []) seat ≡ some u → Fits kept.flag seat u =
    λ seat u e. ⊎_elim
    (λ (x : get_elem? s.views seat ≡ some u). kept.each seat u x)
    (λ (x : r ≡ u). subst (Fits kept.flag seat) x (record { set = (kept.each id h at).set; first = λ y. off y; no_share = λ _. refl; told = λ y _. off y }))
    (at_snoc s.views r u seat e) in
    subst (λ hs. IsKept s.words (hs ++ r ∷ [])) (sym (set_again s.views id h at)) (record {
      flag = kept.flag;
      count = kept.count;
      two = kept.two;
      bit = kept.bit;
      sum = kept.sum ∙ ap (λ n. n % 2 ^ 64) (sym sum);
      led = led-snoc s.views r kept.led;
      each = fits;
    })

-- the count changes with one waiter's share, and what it knows stays
counts : (words : List ℕ) (hs : List Holder) (id : ℕ) (h : Holder) (shares : Bool) (f : ℕ → ℕ) → IsKept words hs → get_elem? hs id ≡ some h → h.notifies ≡ false
    → f (shares_of hs % 2 ^ 64) ≡ shares_of (set hs id (holder h.notifies shares h.knows h.saw)) % 2 ^ 64
    → IsKept (slice_set words 1 (f (slice_index words 1))) (set hs id (holder h.notifies shares h.knows h.saw))
counts words hs id h shares f kept at waits sum =
    let k = holder h.notifies shares h.knows h.saw in
    subst
    (λ ws. IsKept (slice_set ws 1 (f (slice_index ws 1))) (set hs id k))
    (sym kept.two)
    (record {
      flag = kept.flag;
      count = f kept.count;
      two = refl;
      bit = kept.bit;
      sum = ap f kept.sum ∙ sum;
      led = led-set hs id h k at refl kept.led;
      each = fits-set kept.flag hs id k (λ seat u apart e. kept.each seat u e)
          (record { set = (kept.each id h at).set; first = λ x. off (sym waits ∙ x); no_share = λ x. off (sym waits ∙ x); told = λ x _. off (sym waits ∙ x) });
    })

pub adds : (slots id : ℕ) (me : Seated) → me.0.notifies ≡ false → me.0.shares ≡ false → Allows Rule slots id me 1 (λ n. (n + 1) % 2 ^ 64) (Shares (step slots 1 1 0 none) me)
adds slots id me waits no_share s kept len at fits =
    let h = me.0 in
    let w = holder h.notifies true h.knows h.saw in
    let k = shares-set s.views id h w at in
    let zero_share : one_if h.shares ≡ 0 = ap one_if no_share in
    let sum : shares_of s.views + 1 ≡ shares_of (set s.views id w) = omega (arith, k, zero_share) in
    (w, keeps, tt, counts s.words s.views id h true (λ n. (n + 1) % 2 ^ 64) kept at waits (mod-add-mod (shares_of s.views) (2 ^ 64) 1 ∙ ap (λ n. n % 2 ^ 64) sum), refl)

pub leaves : (slots id : ℕ) (me : Seated) → me.0.notifies ≡ false → me.0.shares ≡ true
    → Allows Rule slots id me 1 (λ n. (n + (2 ^ 64 - 1)) % 2 ^ 64) (Leaves (step slots 1 1 0 none) me)
leaves slots id me waits share s kept len at fits =
    let h = me.0 in
    let w = holder h.notifies false h.knows h.saw in
    let k = shares-set s.views id h w at in
    let one_share : one_if h.shares ≡ 1 = ap one_if share in
    let sum : shares_of s.views + (2 ^ 64 - 1) ≡ shares_of (set s.views id w) + 2 ^ 64 = omega (arith, k, one_share) in (
      w,
      keeps,
      tt,
      counts s.words s.views id h false (λ n. (n + (2 ^ 64 - 1)) % 2 ^ 64) kept at waits
          (mod-add-mod (shares_of s.views) (2 ^ 64) (2 ^ 64 - 1) ∙ (ap (λ n. n % 2 ^ 64) sum ∙ add-mod_right (shares_of (set s.views id w)) (2 ^ 64))),
      refl,
    )

pub sets : (slots id : ℕ) (me : Seated) → me.0.notifies ≡ true → Allows Rule slots id me 0 (λ n. 1) (Sets (step slots 0 1 0 none) me)
sets slots id me notifies s kept len at fits =
    let h = me.0 in
    let w = holder h.notifies h.shares true h.saw in
    let mine = kept.each id h at in
    let k = shares-set s.views id h w at in
    let sum : shares_of (set s.views id w) ≡ shares_of s.views = omega (arith, k) in
    let others : (seat : ℕ) (u : Holder) → seat ≢ id → get_elem? s.views seat ≡ some u → Fits 1 seat u =
    λ seat u apart e.
    let theirs = kept.each seat u e in
    record { set = λ _. refl; first = theirs.first; no_share = theirs.no_share; told = λ x _. absurd (apart (theirs.first x ∙ sym (mine.first notifies))) } in (
      w,
      keeps,
      tt,
      subst
          (λ ws. IsKept (slice_set ws 0 1) (set s.views id w))
          (sym kept.two)
          (record {
            flag = 1;
            count = kept.count;
            two = refl;
            bit = inr refl;
            sum = kept.sum ∙ ap (λ n. n % 2 ^ 64) (sym sum);
            led = led-set s.views id h w at refl kept.led;
            each = fits-set 1 s.views id w others (record { set = λ _. refl; first = mine.first; no_share = mine.no_share; told = λ _ _. refl });
          }),
      refl,
    )

-- what a notifier knows is what the flag says
tells : (flag : ℕ) (knows : Bool) → (flag ≡ 0) ⊎ (flag ≡ 1) → (knows ≡ true → flag ≡ 1) → (flag ≡ 1 → knows ≡ true) → (flag == 1) ≡ knows
tells flag knows bit up down =
    ⊎_elim
    (λ (x : flag ≡ 0). ap (λ n. n == 1) x ∙ sym (not_true knows (λ h. let one = up h in omega arith)))
    (λ (x : flag ≡ 1). ap (λ n. n == 1) x ∙ sym (down x))
    bit

abbrev pair : Holder → List (ℕ × Unit {0}) → Seated
pair x xs = (x, xs)

-- the seat of this holder looks at a flag, and is then that of another
record Found (words : List ℕ) (hs : List Holder) (id : ℕ) (h w : Holder) : Type 0 where
  pub kept : IsKept (slice_set words 0 (slice_index words 0)) (set hs id w)
  pub now : w ≡ holder h.notifies h.shares (slice_index words 0 == 1) h.saw
  pub again : h.knows ≡ true → slice_index words 0 ≡ 1
  pub same : h.notifies ≡ true → (slice_index words 0 == 1) ≡ h.knows

found : (words : List ℕ) (hs : List Holder) (id : ℕ) (h : Holder) (kept : IsKept words hs) → get_elem? hs id ≡ some h
    → Found words hs id h (holder h.notifies h.shares (kept.flag == 1) h.saw)
found words hs id h kept at =
    let flag = kept.flag in
    let w = holder h.notifies h.shares (flag == 1) h.saw in
    let mine = kept.each id h at in
    let k = shares-set hs id h w at in
    let sum : shares_of (set hs id w) ≡ shares_of hs = omega (arith, k) in
    subst
    (λ ws. Found ws hs id h w)
    (sym kept.two)
    (record {
      kept = record {
        flag = flag;
        count = kept.count;
        two = refl;
        bit = kept.bit;
        sum = kept.sum ∙ ap (λ n. n % 2 ^ 64) (sym sum);
        led = led-set hs id h w at refl kept.led;
        each = fits-set flag hs id w (λ seat u apart e. kept.each seat u e)
            (record { set = λ x. eqb-true flag 1 x; first = mine.first; no_share = mine.no_share; told = λ _ e. ap (λ n. n == 1) e });
      };
      now = refl;
      again = mine.set;
      same = λ x. tells flag h.knows kept.bit mine.set (mine.told x);
    })

pub looks : (slots id : ℕ) (me : Seated) → Allows Rule slots id me 0 (λ n. n) (Looks (step slots 0 0 0 none) me)
looks slots id me s kept len at fits =
    let it = found s.words s.views id me.0 kept at in
    (holder me.0.notifies me.0.shares (kept.flag == 1) me.0.saw, keeps, tt, it.kept, record { seat = ap (λ (y : Holder). pair y me.1) it.now; again = it.again; same = it.same })

-- a look at the count changes what its holder has read, and no more
looked : (words : List ℕ) (hs : List Holder) (id : ℕ) (h : Holder) (saw : Option ℕ) → IsKept words hs → get_elem? hs id ≡ some h
    → IsKept (slice_set words 1 (slice_index words 1)) (set hs id (holder h.notifies h.shares h.knows saw))
looked words hs id h saw kept at =
    let w = holder h.notifies h.shares h.knows saw in
    let mine = kept.each id h at in
    let k = shares-set hs id h w at in
    let sum : shares_of (set hs id w) ≡ shares_of hs = omega (arith, k) in
    subst
    (λ ws. IsKept (slice_set ws 1 (slice_index ws 1)) (set hs id w))
    (sym kept.two)
    (record {
      flag = kept.flag;
      count = kept.count;
      two = refl;
      bit = kept.bit;
      sum = kept.sum ∙ ap (λ n. n % 2 ^ 64) (sym sum);
      led = led-set hs id h w at refl kept.led;
      each = fits-set kept.flag hs id w (λ seat u apart e. kept.each seat u e) (record { set = mine.set; first = mine.first; no_share = mine.no_share; told = mine.told });
    })

pub stays : (slots id : ℕ) (me : Seated) → Allows Rule slots id me 1 (λ n. n) (Counts (step slots 1 0 0 none) me)
stays slots id me s kept len at fits =
    let saw = Some (slice_index s.words 1) in
    (holder me.0.notifies me.0.shares me.0.knows saw, keeps, tt, looked s.words s.views id me.0 saw kept at, refl)

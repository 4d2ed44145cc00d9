-- What the rule says between any two steps, and what a step changes.
use Rattle.std.proofs.Common.{◌≡◌, ◌⊎◌, ℕ, zero, suc, List, [], ◌∷◌, set, Bool, true, refl, sym, ap, ◌∙◌, subst, ⊎_elim, arith}
use Rattle.std.proofs.Math.Nat.{mod-eq_of_lt}
use mathlib.Core.Option.{some, some-ne-none, some-injective}
use lib.ListN.{get_elem?}
use Rattle.ttrpc_shutdown.specs.declared.rule.Holder.{Holder}
use Rattle.ttrpc_shutdown.specs.Rule.{IsKept}
use Rattle.ttrpc_shutdown.specs.ShutdownWords.{IsFlagSet, IsWaiterOf, ShutdownWords, one_if}
use Rattle.ttrpc_shutdown.proofs.Keeps.{not_true}

flag_is : (flag : ℕ) (knows : Bool) → (flag ≡ 0) ⊎ (flag ≡ 1) → (knows ≡ true → flag ≡ 1) → (flag ≡ 1 → knows ≡ true) → flag ≡ one_if knows
flag_is flag knows bit up down =
    ⊎_elim
    (λ (x : flag ≡ 0). x ∙ ap one_if (sym (not_true knows (λ e. let one = up e in omega arith))))
    (λ (x : flag ≡ 1). x ∙ ap one_if (sym (down x)))
    bit

pub between : (words : List ℕ) (hs : List Holder) → IsKept words hs → ShutdownWords words hs
between words [] kept = absurd kept.led
between words (n ∷ hs) kept =
    let mine = kept.each 0 n refl in
    let theirs : (seat : ℕ) (h : Holder) → get_elem? hs seat ≡ some h → IsWaiterOf n h =
    λ seat h at.
    let its = kept.each (suc seat) h at in
    record { waits = not_true h.notifies (λ e. let none = its.first e in omega arith); knows = λ e. mine.told kept.led (its.set e) } in record {
      notifier = n;
      others = hs;
      seats = refl;
      notifies = kept.led;
      no_share = mine.no_share kept.led;
      waiters = theirs;
      count = kept.count;
      two = kept.two ∙ ap (λ flag. flag ∷ kept.count ∷ []) (flag_is kept.flag n.knows kept.bit mine.set (mine.told kept.led));
      sum = λ small. kept.sum ∙ mod-eq_of_lt small;
    }

-- the first holder knows of a flag that is set
told : (words : List ℕ) (h : Holder) (hs : List Holder) → IsKept words (h ∷ hs) → IsFlagSet words → h.knows ≡ true
told words h hs kept is_set = (kept.each 0 h refl).told kept.led (subst IsFlagSet kept.two is_set)

-- the flag of which a first holder knows is set
known : (words : List ℕ) (h : Holder) (hs : List Holder) → IsKept words (h ∷ hs) → h.knows ≡ true → IsFlagSet words
known words h hs kept knows = subst IsFlagSet (sym kept.two) ((kept.each 0 h refl).set knows)

pub stays : (before after : List ℕ) (hs : List Holder) (id : ℕ) (h k : Holder) → get_elem? hs id ≡ some h → (h.knows ≡ true → k.knows ≡ true)
    → IsKept before hs → IsKept after (set hs id k) → IsFlagSet before → IsFlagSet after
stays before after [] id h k at on kept then is_set = absurd (some-ne-none h (sym at))
stays before after (x ∷ xs) zero h k at on kept then is_set = known after k xs then (on (ap (λ (y : Holder). y.knows) (sym (some-injective x h at)) ∙ told before x xs kept is_set))
stays before after (x ∷ xs) (suc id) h k at on kept then is_set = known after x (set xs id k) then (told before x xs kept is_set)

pub by_the_notifier : (before after : List ℕ) (hs : List Holder) (id : ℕ) (h k : Holder) → get_elem? hs id ≡ some h
    → IsKept before hs → IsKept after (set hs id k) → (IsFlagSet before → ⊥) → IsFlagSet after → h.notifies ≡ true
by_the_notifier before after [] id h k at kept then not_set is_set = absurd (some-ne-none h (sym at))
by_the_notifier before after (x ∷ xs) zero h k at kept then not_set is_set = ap (λ (y : Holder). y.notifies) (sym (some-injective x h at)) ∙ kept.led
by_the_notifier before after (x ∷ xs) (suc id) h k at kept then not_set is_set = absurd (not_set (known before x xs kept (told after x (set xs id k) then is_set)))

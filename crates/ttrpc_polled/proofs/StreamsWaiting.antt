-- Who waits for a frame to be sent is woken in the order of the tickets.
use Rattle.std.proofs.Common.{◌≡◌, ◌∙◌, ◌++◌, ℕ, List, [], ◌∷◌, ap, cond, refl, sym}
use Rattle.std.proofs.lemmas.List.{append_assoc}
use Rattle.std.specs.BTreeMap.{is_at}
use Rattle.std.specs.Cmp.{nat_cmp_is}
use Rattle.std.specs.Ordering.{is_eq, nat_cmp}
use Rattle.std.specs.declared.cmp.Ordering.TheVariants.{Equal}
use Rattle.std.specs.Set.{remove_key}
use Rattle.ttrpc_polled.specs.Waiting.{IsFirst}

-- where the first ticket is woken, the others are left
others_are_left : (ticket : ℕ) (rest : List ℕ) → remove_key (is_at (nat_cmp ticket)) (ticket ∷ rest) ≡ rest
others_are_left ticket rest = ap (λ o. cond (is_eq o) rest (ticket ∷ remove_key (is_at (nat_cmp ticket)) rest)) (sym (nat_cmp_is ticket ticket Equal refl))

-- where those in front were woken before, and the first one now, those in front were woken
pub first_is_woken : (all waiting left : List ℕ) (ticket : ℕ) → ((woken : List ℕ) × (all ≡ woken ++ waiting)) → IsFirst waiting ticket → left ≡ remove_key (is_at (nat_cmp ticket)) waiting
    → (woken : List ℕ) × (all ≡ woken ++ left)
first_is_woken all waiting left ticket (woken, before) (rest, first) is =
    let gone : left ≡ rest = is ∙ ap (remove_key (is_at (nat_cmp ticket))) first ∙ others_are_left ticket rest in
    (woken ++ ticket ∷ [], before ∙ ap (λ l. woken ++ l) (first ∙ ap (λ l. ticket ∷ l) (sym gone)) ∙ sym (append_assoc woken (ticket ∷ []) left))

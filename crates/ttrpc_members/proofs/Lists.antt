-- Loops over the items of a list.
use Rattle.std.proofs.Common.{◌≡◌, ℕ, zero, suc, ◌+◌, ◌<◌, ◌≤◌, List, [], ◌∷◌, ◌++◌, length, take, get_or, ap, ◌∙◌, arith}
use Rattle.std.proofs.lemmas.List.{map_push, append-nil, length-append}
use Rattle.ttrpc_wire.specs.Field.{Value, Field, field_bytes, fields_bytes}
use Rattle.ttrpc_wire.proofs.Parts.{take_one}
use Rattle.ttrpc_wire.proofs.Written.{fields_bytes-append}
use Rattle.ttrpc_members.specs.Items.{Item}
use Rattle.ttrpc_members.specs.Schema.{fields_at}
use Rattle.ttrpc_members.specs.Kinds.{repeated_values}

abbrev at : ℕ → Value → Field
at k v = record { number = k; value = v }

abbrev bytes_at : {A : Type 0} → Item A → ℕ → List A → List ℕ
bytes_at i k xs = fields_bytes (fields_at k (repeated_values i xs))

one_more_value : {A : Type 0} (i : Item A) (xs : List A) (x : A) → repeated_values i (xs ++ x ∷ []) ≡ repeated_values i xs ++ i.value x ∷ []
unfolding repeated_values
one_more_value i xs x = map_push i.value xs x

-- one more of them
pub one_more_field : {A : Type 0} (i : Item A) (k : ℕ) (xs : List A) (n : ℕ) (x : A) → n < length xs → x ≡ get_or xs n x
    → bytes_at i k (take (n + 1) xs) ≡ bytes_at i k (take n xs) ++ field_bytes (at k (i.value x))
one_more_field i k xs n x lt e =
    ap (bytes_at i k) (take_one xs n x lt e)
    ∙ ap (λ vs. fields_bytes (fields_at k vs)) (one_more_value i (take n xs) x)
    ∙ ap fields_bytes (map_push (at k) (repeated_values i (take n xs)) (i.value x))
    ∙ fields_bytes-append (fields_at k (repeated_values i (take n xs))) (at k (i.value x) ∷ [])
    ∙ ap (λ w. bytes_at i k (take n xs) ++ w) (append-nil (field_bytes (at k (i.value x))))

-- each is no longer than all of them
pub field_shorter : {A : Type 0} (i : Item A) (k : ℕ) (xs : List A) (n : ℕ) (d : A) → n < length xs → length (field_bytes (at k (i.value (get_or xs n d)))) ≤ length (bytes_at i k xs)
unfolding repeated_values
field_shorter i k [] n d lt = absurd (omega arith)
field_shorter i k (x ∷ xs) zero d lt = omega (arith, length-append (field_bytes (at k (i.value x))) (bytes_at i k xs))
field_shorter i k (x ∷ xs) (suc n) d lt = omega (arith, length-append (field_bytes (at k (i.value x))) (bytes_at i k xs), field_shorter i k xs n d (omega arith))

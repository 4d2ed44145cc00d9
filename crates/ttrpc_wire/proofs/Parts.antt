-- Loops over the messages of a list.
use Rattle.std.proofs.Common.{◌≡◌, ℕ, zero, suc, ◌+◌, ◌<◌, ◌≤◌, List, [], ◌∷◌, ◌++◌, length, take, get_or, sym, ap, ◌∙◌, arith}
use Rattle.std.specs.List.{AllByRecursion}
use Rattle.std.proofs.lemmas.List.{take_more, map_push, append-nil}
use Rattle.ttrpc_wire.specs.Field.{Field, field_bytes, fields_bytes}
use Rattle.ttrpc_wire.specs.Codec.Members.{delimited_field, part_fields}
use Rattle.ttrpc_wire.proofs.Written.{fields_bytes-append, length-part_fields}

pub take_one : {A : Type 0} (xs : List A) (i : ℕ) (x : A) → i < length xs → x ≡ get_or xs i x → take (i + 1) xs ≡ take i xs ++ x ∷ []
take_one xs i x lt e = take_more xs i x lt ∙ ap (λ y. take i xs ++ y ∷ []) (sym e)

-- one more of them
pub one_more_part : {A : Type 0} (k : ℕ) (fields : A → List Field) (xs : List A) (i : ℕ) (x : A) → i < length xs → x ≡ get_or xs i x
    → fields_bytes (part_fields k fields (take (i + 1) xs)) ≡ fields_bytes (part_fields k fields (take i xs)) ++ field_bytes (delimited_field k (fields_bytes (fields x)))
one_more_part k fields xs i x lt e =
    ap (λ w. fields_bytes (part_fields k fields w)) (take_one xs i x lt e)
    ∙ ap fields_bytes (map_push (λ x. delimited_field k (fields_bytes (fields x))) (take i xs) x)
    ∙ fields_bytes-append (part_fields k fields (take i xs)) (delimited_field k (fields_bytes (fields x)) ∷ [])
    ∙ ap (λ w. fields_bytes (part_fields k fields (take i xs)) ++ w) (append-nil (field_bytes (delimited_field k (fields_bytes (fields x)))))

-- each is shorter than all of them
pub part_shorter : {A : Type 0} (k : ℕ) (fields : A → List Field) (xs : List A) (i : ℕ) (d : A) → i < length xs → length (fields_bytes (fields (get_or xs i d))) ≤ length (fields_bytes (part_fields k fields xs))
part_shorter k fields [] i d lt = absurd (omega arith)
part_shorter k fields (x ∷ xs) zero d lt = omega (arith, length-part_fields k fields x xs)
part_shorter k fields (x ∷ xs) (suc i) d lt = omega (arith, length-part_fields k fields x xs, part_shorter k fields xs i d (omega arith))

pub all_more : {A : Type 0} (P : A → Type 0) (xs : List A) (x : A) → AllByRecursion P xs → P x → AllByRecursion P (xs ++ x ∷ [])
all_more P [] x all one = (one, tt)
all_more P (y ∷ xs) x all one = (all.0, all_more P xs x all.1 one)

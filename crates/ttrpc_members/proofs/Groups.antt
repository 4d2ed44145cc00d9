-- Fields in groups: how a message is written and measured, a member at a time. The proofs of messages stand on these.
use Rattle.std.proofs.Common.{◌≡◌, ◌≤◌, ◌^◌, ◌-◌, ◌+◌, ℕ, List, [], ◌∷◌, ◌++◌, length, min, refl, sym, ap, ◌∙◌, arith, length-append, append_assoc}
use Rattle.std.proofs.lemmas.List.{append-nil}
use Rattle.ttrpc_wire.specs.Field.{Field, field_bytes, fields_bytes}
use Rattle.ttrpc_wire.proofs.Written.{fields_bytes-append, length-fields_bytes-append}
use Rattle.ttrpc_members.specs.Schema.{appended, flat, total}

-- what is written behind some bytes
pub flat_written : (out : List ℕ) (groups : List (List Field)) → out ++ fields_bytes (flat groups) ≡ appended out groups
unfolding flat
flat_written out [] = append-nil out
flat_written out (fs ∷ groups) =
    ap (λ w. out ++ w) (fields_bytes-append fs (flat groups)) ∙ sym (append_assoc out (fields_bytes fs) (fields_bytes (flat groups))) ∙ flat_written (out ++ fields_bytes fs) groups

-- a length with that of each group's bytes, one group at a time; at most the greatest `u64`
abbrev pub measured : ℕ → List (List Field) → ℕ
measured n [] = n
measured n (fs ∷ groups) = measured (min (n + min (length (fields_bytes fs)) (2 ^ 64 - 1)) (2 ^ 64 - 1)) groups

measured_is : (n : ℕ) (groups : List (List Field)) → n ≤ 2 ^ 64 - 1 → measured n groups ≡ min (n + length (fields_bytes (flat groups))) (2 ^ 64 - 1)
unfolding flat
measured_is n [] small = omega arith
measured_is n (fs ∷ groups) small =
    let rest = measured_is (min (n + min (length (fields_bytes fs)) (2 ^ 64 - 1)) (2 ^ 64 - 1)) groups (omega arith) in
    let l = length-fields_bytes-append fs (flat groups) in
    rest ∙ omega (arith, l)

-- the length of what is written
pub flat_measured : (groups : List (List Field)) → min (length (fields_bytes (flat groups))) (2 ^ 64 - 1) ≡ measured 0 groups
flat_measured groups = let e = measured_is 0 groups (omega arith) in omega (arith, e)

pub flat_len : (groups : List (List Field)) → length (fields_bytes (flat groups)) ≡ total groups
unfolding flat
flat_len [] = refl
flat_len (fs ∷ groups) = length-fields_bytes-append fs (flat groups) ∙ ap (λ n. length (fields_bytes fs) + n) (flat_len groups)

-- two groups of one field each
pub two_written : (f g : Field) → fields_bytes (flat ((f ∷ []) ∷ (g ∷ []) ∷ [])) ≡ field_bytes f ++ field_bytes g
two_written f g = flat_written [] ((f ∷ []) ∷ (g ∷ []) ∷ []) ∙ ap (λ w. w ++ (field_bytes g ++ [])) (append-nil (field_bytes f)) ∙ ap (λ w. field_bytes f ++ w) (append-nil (field_bytes g))

pub two_len : (f g : Field) → length (fields_bytes (flat ((f ∷ []) ∷ (g ∷ []) ∷ []))) ≡ length (field_bytes f) + length (field_bytes g)
two_len f g = ap length (two_written f g) ∙ length-append (field_bytes f) (field_bytes g)

-- one field behind the other
pub two_after : (out one two : List ℕ) (f g : Field) → one ≡ out ++ field_bytes f → two ≡ one ++ field_bytes g → two ≡ out ++ fields_bytes (flat ((f ∷ []) ∷ (g ∷ []) ∷ []))
two_after out one two f g a b =
    b ∙ ap (λ w. w ++ field_bytes g) a ∙ append_assoc out (field_bytes f) (field_bytes g) ∙ ap (λ w. out ++ w) (sym (two_written f g))

-- Messages in messages: reading their fields, and numbers in one value, one after the other.
use Rattle.std.proofs.Common.{◌≡◌, ◌≢◌, nat_eq, ◌≤◌, ◌<◌, ◌-◌, ◌++◌, ℕ, zero, suc, List, [], ◌∷◌, length, Option, Some, None, refl, ap, ◌∙◌, arith, Bool, true, false, drop, get_or, ◌+◌}
use Rattle.std.specs.Str.{is_utf8, IsUtf8}
use Rattle.std.proofs.lemmas.Str.{is_utf8-from_IsUtf8, IsUtf8-from_is_utf8}
use Rattle.ttrpc_wire.specs.declared.field.WireType.{WireType}
use Rattle.ttrpc_wire.specs.Field.{Field, IsField, Value, IsValueOf}
use Rattle.ttrpc_wire.specs.Front.{Begins, BeginsNone}
use Rattle.ttrpc_wire.specs.Fold.{read_from}
use Rattle.ttrpc_wire.specs.Reading.{◌>>=◌, value_at}
use Rattle.ttrpc_wire.proofs.Agrees.{found, shortens}
use Rattle.ttrpc_wire.proofs.WireValues.{value_agrees}
use Rattle.ttrpc_wire.proofs.Folds.{reads_end, reads_append, reads_on}
use Rattle.ttrpc_members.specs.declared.nesting.Rule.{Rule}
use Rattle.ttrpc_members.proofs.FieldNumbers.{equal_number, other_number}
use Rattle.ttrpc_members.specs.Nesting.{content_from, text_in, field_in, nested_upto, numbers_upto, numbers_in, within}

-- ---- what the rules want

module _ (message number : ℕ) where
  pub content_found : (rules : List Rule) (i : ℕ) (d : Rule) → i < length rules → (get_or rules i d).message ≡ message → (get_or rules i d).number ≡ number → content_from (drop i rules) message number ≡ Some (get_or rules i d).content
  content_found [] i d lt own is = absurd (omega arith)
  content_found (q ∷ rules) zero d lt own is =
      let m : nat_eq q.message message ≡ true = equal_number q.message message own in
      let n : nat_eq q.number number ≡ true = equal_number q.number number is in
      rw (m, n) refl
  content_found (q ∷ rules) (suc i) d lt own is = content_found rules i d (omega arith) own is

  content_next : (rules : List Rule) (i : ℕ) (d : Rule) → i < length rules → (get_or rules i d).message ≡ message → (get_or rules i d).number ≢ number → content_from (drop i rules) message number ≡ content_from (drop (suc i) rules) message number
  content_next [] i d lt own is = absurd (omega arith)
  content_next (q ∷ rules) zero d lt own is =
      let m : nat_eq q.message message ≡ true = equal_number q.message message own in
      let n : nat_eq q.number number ≡ false = other_number q.number number is in
      rw (m, n) refl
  content_next (q ∷ rules) (suc i) d lt own is = content_next rules i d (omega arith) own is

  pub content_passed : (rules : List Rule) (i : ℕ) (d : Rule) → i < length rules → (get_or rules i d).message ≡ message → (get_or rules i d).number ≢ number → content_from (drop i rules) message number ≡ content_from (drop (i + 1) rules) message number
  content_passed rules i d lt own is =
      let e : i + 1 ≡ suc i = omega arith in
      rw e (content_next rules i d lt own is)

  pub content_ended : (rules : List Rule) (i : ℕ) (d : Rule) → i < length rules → (get_or rules i d).message ≢ message → content_from (drop i rules) message number ≡ None
  content_ended [] i d lt other = absurd (omega arith)
  content_ended (q ∷ rules) zero d lt other = let m : nat_eq q.message message ≡ false = other_number q.message message other in rw m refl
  content_ended (q ∷ rules) (suc i) d lt other = content_ended rules i d (omega arith) other

  pub content_nowhere : (rules : List Rule) (i : ℕ) → length rules ≤ i → content_from (drop i rules) message number ≡ None
  content_nowhere [] zero ge = refl
  content_nowhere [] (suc i) ge = refl
  content_nowhere (q ∷ rules) zero ge = absurd (omega arith)
  content_nowhere (q ∷ rules) (suc i) ge = content_nowhere rules i (omega arith)

-- ---- texts

pub text_taken : (bytes : List ℕ) → IsUtf8 bytes → text_in bytes ≡ Some tt
text_taken bytes is = rw (is_utf8-from_IsUtf8 bytes is) refl

pub text_refused : (bytes : List ℕ) → (IsUtf8 bytes → ⊥) → text_in bytes ≡ None
text_refused bytes is_not = by_test (is_utf8 bytes) refl
  where
    by_test : (b : Bool) → is_utf8 bytes ≡ b → text_in bytes ≡ None
    by_test true e = absurd (is_not (IsUtf8-from_is_utf8 bytes e))
    by_test false e = rw e refl

-- ---- numbers in one value

module _ (type : WireType) where
  -- any bound from the number of bytes on is as good
  numbers_same : (k m : ℕ) (bytes : List ℕ) → length bytes ≤ k → length bytes ≤ m → numbers_upto k type bytes ≡ numbers_upto m type bytes
  unfolding numbers_upto
  numbers_same k m [] a b = refl
  numbers_same zero m (x ∷ bytes) a b = absurd (omega (arith, a))
  numbers_same (suc k) zero (x ∷ bytes) a b = absurd (omega (arith, b))
  numbers_same (suc k) (suc m) (x ∷ bytes) a b =
      by_value (value_at type (x ∷ bytes)) refl (λ rest c d. numbers_same k m rest c d)
    where
      by_value : (o : Option (Value × List ℕ)) → value_at type (x ∷ bytes) ≡ o → ((rest : List ℕ) → length rest ≤ k → length rest ≤ m → numbers_upto k type rest ≡ numbers_upto m type rest)
          → (o >>= λ y. numbers_upto k type y.1) ≡ (o >>= λ y. numbers_upto m type y.1)
      by_value None e h = refl
      by_value (Some y) e h =
          let less = shortens (value_agrees type) (x ∷ bytes) y.1 y.0 ((value_agrees type).takes (x ∷ bytes) y e) in
          h y.1 (omega (arith, less, a)) (omega (arith, less, b))

  pub numbers_end : (bytes : List ℕ) → bytes ≡ [] → numbers_in type bytes ≡ Some tt
  unfolding numbers_in numbers_upto
  numbers_end bytes e = rw e refl

  -- a number at the front
  pub numbers_on : (bytes rest : List ℕ) (v : Value) → Begins (IsValueOf type) bytes v rest → numbers_in type bytes ≡ numbers_in type rest
  unfolding numbers_in numbers_upto
  numbers_on [] rest v b = absurd (omega (arith, shortens (value_agrees type) [] rest v b))
  numbers_on (x ∷ bytes) rest v b =
      let e = found (value_agrees type) (x ∷ bytes) rest v b in
      let less = shortens (value_agrees type) (x ∷ bytes) rest v b in
      rw e (numbers_same (length bytes) (length rest) rest (omega (arith, less)) (omega arith))

  -- no number at the front
  pub numbers_none : (bytes : List ℕ) → (bytes ≡ [] → ⊥) → BeginsNone (IsValueOf type) bytes → numbers_in type bytes ≡ None
  unfolding numbers_in numbers_upto
  numbers_none [] some n = absurd (some refl)
  numbers_none (x ∷ bytes) some n = by_value (value_at type (x ∷ bytes)) refl
    where
      by_value : (o : Option (Value × List ℕ)) → value_at type (x ∷ bytes) ≡ o → (o >>= λ y. numbers_upto (length bytes) type y.1) ≡ None
      by_value None e = refl
      by_value (Some y) e = absurd (n.none y.0 y.1 ((value_agrees type).takes (x ∷ bytes) y e))

-- ---- messages

-- one level down
pub level_down : (rules : List Rule) (k message : ℕ) (bytes : List ℕ) → 1 ≤ k
    → nested_upto rules k message bytes ≡ read_from (field_in rules (λ m b. nested_upto rules (k - 1) m b) message) tt bytes
unfolding nested_upto
level_down rules zero message bytes some = absurd (omega (arith, some))
level_down rules (suc k) message bytes some =
    let e : suc k - 1 ≡ k = omega arith in
    rw e refl

pub no_level : (rules : List Rule) (k message : ℕ) (bytes : List ℕ) → k ≡ 0 → nested_upto rules k message bytes ≡ None
unfolding nested_upto
no_level rules k message bytes e = rw e refl

-- where no field is, or the first one is refused, or what is behind it, all of it is refused
module _ (step : Unit {0} → Field → Option (Unit {0})) (bytes rest : List ℕ) (f : Field) (b : Begins IsField bytes f rest) where
  pub step_none : step tt f ≡ None → read_from step tt bytes ≡ None
  step_none e = reads_on step tt bytes rest f b ∙ ap (λ o. o >>= λ n. read_from step n rest) e

  pub rest_none : read_from step tt rest ≡ None → read_from step tt bytes ≡ None
  rest_none e = reads_on step tt bytes rest f b ∙ by_step (step tt f)
    where
      by_step : (o : Option (Unit {0})) → (o >>= λ n. read_from step n rest) ≡ None
      by_step None = refl
      by_step (Some tt) = e

-- bytes that are refused whatever the levels below are
pub none_anyhow : (rules : List Rule) (message : ℕ) (bytes : List ℕ) → ((k : ℕ) → read_from (field_in rules (λ m b. nested_upto rules k m b) message) tt bytes ≡ None) → (k : ℕ) → nested_upto rules k message bytes ≡ None
unfolding nested_upto
none_anyhow rules message bytes h zero = refl
none_anyhow rules message bytes h (suc k) = h k

-- no bytes are a message of no fields
pub nothing_within : (rules : List Rule) (message : ℕ) → within rules message [] ≡ Some tt
unfolding within nested_upto
nothing_within rules message = reads_end (field_in rules (λ m b. nested_upto rules 99 m b) message) tt [] refl

-- more fields behind those of a message
pub more_within : (rules : List Rule) (message : ℕ) (old new : List ℕ) → within rules message old ≡ Some tt → within rules message new ≡ Some tt → within rules message (old ++ new) ≡ Some tt
unfolding within nested_upto
more_within rules message old new first second = reads_append (field_in rules (λ m b. nested_upto rules 99 m b) message) tt tt old new first ∙ second

-- Reading around a payload: what was read, with the payload that was passed over last, is what reading all gives.
use Rattle.std.proofs.Common.{◌≡◌, ◌≤◌, ◌-◌, ◌+◌, ◌++◌, ℕ, List, length, length-append, take, drop, Option, Some, None, Bool, true, false, if◌then◌else◌, refl, sym, ap, subst, ◌∙◌, arith, append_assoc}
use Rattle.std.proofs.lemmas.List.{drop_at, drop-drop, take_at}
use Rattle.std.specs.Option.{option_map}
use Rattle.ttrpc_wire.specs.declared.values.codec_error.CodecError.{CodecError}
use Rattle.std.specs.Prelude.{◌==◌}
use Rattle.ttrpc_wire.specs.Field.{Field, Fixed32, Fixed64, IsField, LengthDelimited, Value, Varint}
use Rattle.ttrpc_wire.specs.Fold.{read_from, Refused}
use Rattle.ttrpc_wire.specs.Front.{Begins}
use Rattle.ttrpc_wire.proofs.Folds.{refused_along, step_refused, went_on}
use Rattle.ttrpc_wire.specs.Codec.InPlace.{HasPayload, delimited_of, payload_in}
use Rattle.ttrpc_wire.specs.Codec.Members.{delimited, delimited_field, delimited_in, last_bytes}

pub record IsAround {M : Type 0} (step : M → Field → Option M) (empty : M) (replaced : M → List ℕ → M) (bytes : List ℕ) (message : M) (start count : ℕ) (left : List ℕ) : Type 0 where
  pub within : length left ≤ length bytes
  pub rest : drop (length bytes - length left) bytes ≡ left
  pub reads : read_from step (replaced message (take count (drop start bytes))) left ≡ read_from step empty bytes

-- what stands behind a front of the rest
behind : (bytes left front back : List ℕ) → length left ≤ length bytes → drop (length bytes - length left) bytes ≡ left → left ≡ front ++ back
    → drop (length bytes - length back) bytes ≡ back
behind bytes left front back within rest whole =
    let size : length left ≡ length front + length back = ap length whole ∙ length-append front back in
    let split : length bytes - length back ≡ (length bytes - length left) + length front = omega (arith, size, within) in
    ap (λ n. drop n bytes) split ∙ sym (drop-drop (length front) (length bytes - length left) bytes) ∙ ap (drop (length front)) (rest ∙ whole) ∙ drop_at front back (length front) refl

module _ {M : Type 0} {step : M → Field → Option M} {empty : M} {k : ℕ} {replaced : M → List ℕ → M} (holds : HasPayload step empty k replaced)
    (bytes old new : List ℕ) (m : M) (start count : ℕ) (around : IsAround step empty replaced bytes m start count old) (f : Field) (begins : Begins IsField old f new) where
  shorter : length new ≤ length old
  shorter = omega (arith, ap length begins.whole, length-append begins.front new)

  further : length new ≤ length bytes
  further = omega (arith, shorter, around.within)

  rest_further : drop (length bytes - length new) bytes ≡ new
  rest_further = behind bytes old begins.front new around.within around.rest begins.whole

  abbrev held : List ℕ
  held = take count (drop start bytes)

  -- a field that isn't the payload
  pub passed : (n : M) → payload_in k f ≡ None → step m f ≡ Some n → IsAround step empty replaced bytes n start count new
  passed n other is = record {
    within = further;
    rest = rest_further;
    reads = went_on step (replaced m held) (replaced n held) old new f _ begins (holds.keeps m held f other ∙ ap (option_map (λ n. replaced n held)) is) around.reads;
  }

  pub refuses : (e : CodecError) → payload_in k f ≡ None → Refused e (step m f) → Refused e (read_from step empty bytes)
  refuses e other r =
      let along : Refused e (step (replaced m held) f) = refused_along e (step m f) (step (replaced m held) f) (λ none. holds.keeps m held f other ∙ ap (option_map (λ n. replaced n held)) none) r in
      step_refused step (replaced m held) old new f _ e begins around.reads along

  -- the payload
  pub kept : (p : List ℕ) → f ≡ delimited_field k p → IsAround step empty replaced bytes m (length bytes - length new - length p) (length p) new
  kept p is =
      let field = subst (IsField begins.front) is begins.is in
      let head = field.tag ++ field.value.len in
      let front : begins.front ≡ head ++ p = field.whole ∙ ap (λ bs. field.tag ++ bs) field.value.whole ∙ sym (append_assoc field.tag field.value.len p) in
      let split : old ≡ head ++ (p ++ new) = begins.whole ∙ ap (λ bs. bs ++ new) front ∙ append_assoc head p new in
      let there = behind bytes old head (p ++ new) around.within around.rest split in
      let at : length bytes - length new - length p ≡ length bytes - length (p ++ new) = omega (arith, length-append p new) in
      let lies : take (length p) (drop (length bytes - length new - length p) bytes) ≡ p = ap (λ n. take (length p) (drop n bytes)) at ∙ ap (take (length p)) there ∙ take_at p new (length p) refl in
      let steps : step (replaced m held) f ≡ Some (replaced m p) = ap (step (replaced m held)) is ∙ holds.takes (replaced m held) p ∙ ap Some (holds.twice m held p) in
      record {
        within = further;
        rest = rest_further;
        reads = went_on step (replaced m held) _ old new f _ begins (steps ∙ ap (λ q. Some (replaced m q)) (sym lies)) around.reads;
      }

-- ---- a member that is a payload stays as it is at any other field

other_value : (b : Bool) (q : List ℕ) (v : Value) → (if b then delimited_of v else None) ≡ None → (if b then delimited last_bytes q v else Some q) ≡ Some q
other_value false q v other = refl
other_value true q (LengthDelimited bytes) other = cc
other_value true q (Varint n) other = refl
other_value true q (Fixed64 n) other = refl
other_value true q (Fixed32 n) other = refl

pub other_field : (k : ℕ) (q : List ℕ) (f : Field) → payload_in k f ≡ None → delimited_in k last_bytes q f ≡ Some q
other_field k q f other = other_value (f.number == k) q f.value other

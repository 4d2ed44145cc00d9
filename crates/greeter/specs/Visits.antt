-- The reply of the method `Visits`: the effect of one more field, the fields that are written, and that these mean the
-- message.
-- Source: this project's.
use Rattle.std.specs.Prelude.{◌≡◌, ◌<◌, ◌^◌, ◌-◌, List, [], ◌∷◌, ◌++◌, length, Option, Some, refl, ℕ, ℤ, pos, FitsSigned}
use Rattle.std.specs.Int.{w64}
use Rattle.std.specs.List.{AllByRecursion}
use Rattle.std.proofs.Common.{sym, ap, arith}
use Rattle.ttrpc_wire.specs.Field.{Field, Fits, fields_bytes}
use Rattle.ttrpc_wire.specs.Fold.{folded, read_from}
use Rattle.ttrpc_wire.specs.Number.{number_of, int64_of}
use Rattle.ttrpc_wire.specs.Reading.{◌>>=◌}
use Rattle.ttrpc_wire.specs.Codec.Members.{delimited_field, delimited_fields, delimited_in, last_bytes, last_number, number_fields, number_in, one_more, part_fields}
use Rattle.ttrpc_wire.proofs.Written.{fields_len, fit_then, fold_then, delimited_fit, fold_delimited, number_fit, fold_number, int64_back, int64_zero, int64_small, parts_fit, parts_back, fold_parts}
use Rattle.ttrpc_proto.specs.declared.messages.KeyValue.{KeyValue}
use Rattle.ttrpc_proto.specs.Messages.{IsKeyValue, empty_key_value, key_value_step, key_value_fields}
use Rattle.ttrpc_proto.specs.Laws.{key_value_again, key_value_fits}
use Rattle.greeter.specs.declared.visits.VisitsReply.{VisitsReply}

-- the `VisitsReply` without fields
abbrev pub empty_visits : VisitsReply
empty_visits = record { token = []; count = pos 0; languages = [] }

-- a `VisitsReply` after one more field, unless that is refused
abbrev pub visits_step : VisitsReply → Field → Option VisitsReply
visits_step m f =
    delimited_in 1 last_bytes m.token f >>= λ token.
    number_in 2 (last_number int64_of) m.count f >>= λ count.
    delimited_in 3 (one_more key_value_step empty_key_value) m.languages f >>= λ languages.
    Some (record { token = token; count = count; languages = languages })

-- the fields of each member
abbrev token_fields : VisitsReply → List Field
token_fields m = delimited_fields 1 m.token

abbrev count_fields : VisitsReply → List Field
count_fields m = number_fields 2 (number_of m.count)

abbrev language_fields : VisitsReply → List Field
language_fields m = part_fields 3 key_value_fields m.languages

-- the fields that are written for a `VisitsReply`
abbrev pub visits_fields : VisitsReply → List Field
visits_fields m = token_fields m ++ (count_fields m ++ language_fields m)

-- a valid `VisitsReply`: its count is a signed number of 64 bits, and each of its pairs is valid
pub record IsVisits (m : VisitsReply) : Type 0 where
  pub count : FitsSigned w64 m.count
  pub languages : AllByRecursion IsKeyValue m.languages

-- fields with fewer than 2 ^ 64 - 1 bytes
abbrev pub AreShort : List Field → Type 0
AreShort fs = length (fields_bytes fs) < 2 ^ 64 - 1

-- Each field that is written for a valid `VisitsReply` has a written form, if together they are short.
pub visits_fits : (m : VisitsReply) → IsVisits m → AreShort (visits_fields m) → AllByRecursion Fits (visits_fields m)
visits_fits m h short =
    fit_then (token_fields m) (count_fields m ++ language_fields m) short
    (delimited_fit 1 m.token (omega arith) (omega arith))
    (λ rest. fit_then (count_fields m) (language_fields m) rest
    (λ _. number_fit 2 (number_of m.count) (omega arith) (omega arith) (int64_small m.count h.count))
    (parts_fit 3 key_value_fields m.languages (omega arith) (omega arith)))

-- the bytes of the pair mean that pair
abbrev ReadsBack : KeyValue → Type 0
ReadsBack x = read_from key_value_step empty_key_value (fields_bytes (key_value_fields x)) ≡ Some x

-- the field of the pair is one more of the languages
abbrev IsOneMore : VisitsReply → KeyValue → Type 0
IsOneMore m x = (old : List KeyValue)
    → visits_step (record m { languages = old }) (delimited_field 3 (fields_bytes (key_value_fields x))) ≡ Some (record m { languages = old ++ x ∷ [] })

each_is_one_more : (m : VisitsReply) (xs : List KeyValue) → AllByRecursion ReadsBack xs → AllByRecursion (IsOneMore m) xs
each_is_one_more m [] back = tt
each_is_one_more m (x ∷ xs) back = ((λ old. let e = back.0 in rw e refl), each_is_one_more m xs back.1)

-- The fields that are written for a valid `VisitsReply` mean that `VisitsReply`, if together they are short.
pub visits_again : (m : VisitsReply) → IsVisits m → AreShort (visits_fields m) → folded visits_step empty_visits (visits_fields m) ≡ Some m
visits_again m h short =
    let a : VisitsReply = record empty_visits { token = m.token } in
    let b : VisitsReply = record a { count = m.count } in
    let rest = fields_len (token_fields m) (count_fields m ++ language_fields m) in
    let few = fields_len (count_fields m) (language_fields m) in
    let back = parts_back key_value_step empty_key_value IsKeyValue 3 key_value_fields m.languages
    key_value_again (λ x _. key_value_fits x) h.languages (omega (arith, short, rest, few)) in
    let count = int64_back m.count h.count in
    fold_then visits_step empty_visits a m (token_fields m) (count_fields m ++ language_fields m)
    (fold_delimited visits_step empty_visits a 1 m.token (λ e. ap (λ (w : List ℕ). record a { token = w }) (sym e)) refl)
    (fold_then visits_step a b m (count_fields m) (language_fields m)
    (fold_number visits_step a b 2 (number_of m.count)
    (λ e. ap (λ (z : ℤ). record a { count = z }) (int64_zero m.count h.count e)) (rw count refl))
    (fold_parts visits_step (λ w. record m { languages = w }) 3 key_value_fields [] m.languages (each_is_one_more m m.languages back)))

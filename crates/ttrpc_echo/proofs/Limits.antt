-- How long an answer of the core's own may become: one that says that a response is above the limit is itself far
-- below it.
use Rattle.std.proofs.Common.{◌≡◌, ◌≤◌, ◌+◌, ◌*◌, ◌-◌, ◌/◌, ◌^◌, ◌++◌, ℕ, zero, suc, true, false, nat_lt, List, [], ◌∷◌, length, codes, arith, le-ltb, lt-ltb, inl, inr}
use Rattle.std.specs.Fmt.{decimal}
use Rattle.std.proofs.lemmas.Bool.{cases_lt}
use Rattle.std.proofs.lemmas.Fmt.{length-decimal-le}
use Rattle.std.proofs.lemmas.List.{length-append}
use Rattle.ttrpc_wire.specs.declared.field.WireType.TheVariants as wire
use Rattle.ttrpc_wire.specs.Varint.{digits, varint}
use Rattle.ttrpc_wire.specs.Field.{code_of, Varint, Field, tag_bytes, field_bytes, fields_bytes}
use Rattle.ttrpc_wire.specs.Number.{number_of}
use Rattle.ttrpc_wire.specs.declared.values.code.Code.{Code}
use Rattle.ttrpc_wire.specs.declared.values.code.Code.TheVariants.{INVALID_ARGUMENT}
use Rattle.ttrpc_proto.specs.declared.framing.header.TheConstants.{MESSAGE_LENGTH_MAX}
use Rattle.ttrpc_proto.specs.declared.messages.Response.{Response}
use Rattle.ttrpc_wire.specs.Code.{number_of_code}
use Rattle.ttrpc_proto.specs.ErrorText.{status_of}
use Rattle.ttrpc_wire.specs.Codec.Members.{delimited_field, delimited_fields, number_fields}
use Rattle.ttrpc_proto.specs.Messages.{status_fields}
use Rattle.ttrpc_wire.proofs.Written.{length-delimited_field, length-fields_bytes-append}
use Rattle.ttrpc_server.specs.Protocol.{fit_to_limit, limit_text, response_bytes, response_size}
use Rattle.ttrpc_server.specs.Table.{status_response}

-- ---- varints and members

digits_short : (k n : ℕ) → length (digits k n) ≤ k + 1
unfolding digits
digits_short zero n = omega arith
digits_short (suc k) n =
    elim (cases_lt n 128) [
      | inl small ↦ let t : nat_lt n 128 ≡ true = lt-ltb n 128 small in rw t (omega arith)
      | inr large ↦ let t : nat_lt n 128 ≡ false = le-ltb n 128 large in rw t (omega (arith, digits_short k (n / 128)))
    ]

varint_short : (n : ℕ) → length (varint n) ≤ 10
unfolding varint
varint_short n = digits_short 9 n

-- a tag and a length are at most ten bytes each
delimited_short : (k : ℕ) (bytes : List ℕ) → length (field_bytes (delimited_field k bytes)) ≤ 20 + length bytes
delimited_short k bytes =
    omega (arith, length-delimited_field k bytes, varint_short (k * 8 + code_of wire.LengthDelimited), varint_short (length bytes))

pub one_field : (f : Field) → length (fields_bytes (f ∷ [])) ≡ length (field_bytes f)
one_field f = omega (arith, length-append (field_bytes f) [])

delimited_fields_short : (k : ℕ) (bytes : List ℕ) → length (fields_bytes (delimited_fields k bytes)) ≤ 20 + length bytes
delimited_fields_short k [] = omega arith
delimited_fields_short k (b ∷ bytes) = omega (arith, one_field (delimited_field k (b ∷ bytes)), delimited_short k (b ∷ bytes))

number_fields_short : (k n : ℕ) → length (fields_bytes (number_fields k n)) ≤ 20
number_fields_short k zero = omega arith
number_fields_short k (suc n) =
    let field : Field = record { number = k; value = Varint (suc n) } in
    omega (arith, one_field field, length-append (tag_bytes k wire.Varint) (varint (suc n)), varint_short (k * 8 + code_of wire.Varint), varint_short (suc n))

-- ---- a status, and a response of nothing else

status_short : (code : Code) (message : List ℕ) → length (fields_bytes (status_fields (status_of code message))) ≤ 40 + length message
status_short code message =
    let number = number_fields 1 (number_of (number_of_code code)) in
    let text = delimited_fields 2 message in
    omega (
      arith,
      length-fields_bytes-append number (text ++ []),
      length-fields_bytes-append text [],
      number_fields_short 1 (number_of (number_of_code code)),
      delimited_fields_short 2 message,
    )

status_response_short : (code : Code) (message : List ℕ) → length (response_bytes (status_response code message)) ≤ 60 + length message
status_response_short code message =
    let status = fields_bytes (status_fields (status_of code message)) in
    omega (
      arith,
      length-fields_bytes-append (delimited_field 1 status ∷ []) [],
      one_field (delimited_field 1 status),
      delimited_short 1 status,
      status_short code message,
    )

-- ---- the text

decimal_short : (n : ℕ) → n ≤ 2 ^ 32 - 1 → length (decimal n) ≤ 10
decimal_short n le = length-decimal-le 10 n (omega arith) (omega arith) (omega arith)

five_appended : (a b c d e : List ℕ) → length (a ++ b ++ c ++ d ++ e) ≡ length a + length b + length c + length d + length e
five_appended a b c d e =
    omega (arith, length-append (a ++ b ++ c ++ d) e, length-append (a ++ b ++ c) d, length-append (a ++ b) c, length-append a b)

limit_text_short : (n limit : ℕ) → n ≤ 2 ^ 32 - 1 → limit ≤ 2 ^ 32 - 1 → length (limit_text n limit) ≤ 100
limit_text_short n limit le limit_le =
    let five = five_appended (codes "response payload ") (decimal n) (codes " bytes exceeds safe limit ") (decimal limit) (codes " bytes (after transform overhead)") in
    omega (arith, five, decimal_short n le, decimal_short limit limit_le)

-- ---- within the limit

-- what says that a response is above the limit is itself within it
pub limit_fits : (n : ℕ) → n ≤ 2 ^ 32 - 1 → response_size (status_response INVALID_ARGUMENT (limit_text n MESSAGE_LENGTH_MAX)) ≤ MESSAGE_LENGTH_MAX
limit_fits n le =
    let text = limit_text n MESSAGE_LENGTH_MAX in
    omega (arith, status_response_short INVALID_ARGUMENT text, limit_text_short n MESSAGE_LENGTH_MAX le (omega arith))

-- so whatever is fitted to the limit is within it
pub fitted_fits : (r : Response) → response_size (fit_to_limit MESSAGE_LENGTH_MAX r) ≤ MESSAGE_LENGTH_MAX
fitted_fits r =
    elim (cases_lt MESSAGE_LENGTH_MAX (response_size r)) [
      | inl above ↦ let t : nat_lt MESSAGE_LENGTH_MAX (response_size r) ≡ true = lt-ltb _ _ above in
          rw t (limit_fits (response_size r) (omega arith))
      | inr within ↦ let t : nat_lt MESSAGE_LENGTH_MAX (response_size r) ≡ false = le-ltb _ _ within in
          rw t within
    ]

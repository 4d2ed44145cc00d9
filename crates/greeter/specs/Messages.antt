-- The messages of the method `Hello`: the effect of one more field, the fields that are written, and that these mean
-- the message.
-- Source: this project's.
use Rattle.std.specs.Prelude.{◌≡◌, ℕ, ◌<◌, ◌^◌, ◌-◌, List, [], length, Option, Some, refl}
use Rattle.std.specs.List.{AllByRecursion}
use Rattle.std.specs.Str.{IsUtf8}
use Rattle.std.proofs.Common.{sym, ap, arith}
use Rattle.std.proofs.lemmas.Str.{is_utf8-from_IsUtf8}
use Rattle.ttrpc_wire.specs.Field.{Field, Fits, fields_bytes}
use Rattle.ttrpc_wire.specs.Fold.{folded}
use Rattle.ttrpc_wire.specs.Reading.{◌>>=◌}
use Rattle.ttrpc_wire.specs.Codec.Members.{delimited_in, last_text, delimited_fields}
use Rattle.ttrpc_wire.proofs.Written.{delimited_fit, fold_delimited}
use Rattle.greeter.specs.declared.messages.HelloRequest.{HelloRequest}
use Rattle.greeter.specs.declared.messages.HelloReply.{HelloReply}

-- ---- the name that is to be greeted: 1 name

-- the `HelloRequest` without fields
abbrev pub empty_request : HelloRequest
empty_request = record { name = [] }

-- a `HelloRequest` after one more field, unless that is refused
abbrev pub request_step : HelloRequest → Field → Option HelloRequest
request_step m f = delimited_in 1 last_text m.name f >>= λ name. Some (record { name = name })

-- the fields that are written for a `HelloRequest`
abbrev pub request_fields : HelloRequest → List Field
request_fields m = delimited_fields 1 m.name

-- a valid `HelloRequest`: its name is UTF-8
pub record IsRequest (m : HelloRequest) : Type 0 where
  pub name : IsUtf8 m.name

-- The fields that are written for a valid `HelloRequest` mean that `HelloRequest`, if together they have fewer than 2 ^ 64 - 1 bytes.
pub request_again : (m : HelloRequest) → IsRequest m → length (fields_bytes (request_fields m)) < 2 ^ 64 - 1 → folded request_step empty_request (request_fields m) ≡ Some m
request_again m h short =
    let name = is_utf8-from_IsUtf8 m.name h.name in
    fold_delimited request_step empty_request m 1 m.name (λ e. ap (λ (w : List ℕ). record { name = w }) (sym e)) (rw name refl)

-- Each field that is written for a `HelloRequest` has a written form, if together they have fewer than 2 ^ 64 - 1 bytes.
pub request_fits : (m : HelloRequest) → length (fields_bytes (request_fields m)) < 2 ^ 64 - 1 → AllByRecursion Fits (request_fields m)
request_fits m short = delimited_fit 1 m.name (omega arith) (omega arith) short

-- ---- the greeting: 1 greeting

-- the `HelloReply` without fields
abbrev pub empty_reply : HelloReply
empty_reply = record { greeting = [] }

-- a `HelloReply` after one more field, unless that is refused
abbrev pub reply_step : HelloReply → Field → Option HelloReply
reply_step m f = delimited_in 1 last_text m.greeting f >>= λ greeting. Some (record { greeting = greeting })

-- the fields that are written for a `HelloReply`
abbrev pub reply_fields : HelloReply → List Field
reply_fields m = delimited_fields 1 m.greeting

-- a valid `HelloReply`: its greeting is UTF-8
pub record IsReply (m : HelloReply) : Type 0 where
  pub greeting : IsUtf8 m.greeting

-- The fields that are written for a valid `HelloReply` mean that `HelloReply`, if together they have fewer than 2 ^ 64 - 1 bytes.
pub reply_again : (m : HelloReply) → IsReply m → length (fields_bytes (reply_fields m)) < 2 ^ 64 - 1 → folded reply_step empty_reply (reply_fields m) ≡ Some m
reply_again m h short =
    let greeting = is_utf8-from_IsUtf8 m.greeting h.greeting in
    fold_delimited reply_step empty_reply m 1 m.greeting (λ e. ap (λ (w : List ℕ). record { greeting = w }) (sym e)) (rw greeting refl)

-- Each field that is written for a `HelloReply` has a written form, if together they have fewer than 2 ^ 64 - 1 bytes.
pub reply_fits : (m : HelloReply) → length (fields_bytes (reply_fields m)) < 2 ^ 64 - 1 → AllByRecursion Fits (reply_fields m)
reply_fits m short = delimited_fit 1 m.greeting (omega arith) (omega arith) short
